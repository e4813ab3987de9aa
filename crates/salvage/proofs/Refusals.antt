-- Laws of salvage's refusals: one for each way out, and what the call then answers and leaves.
use mathlib.Core.Path.{◌≡◌, refl, ap, sym, ◌∙◌}
use mathlib.Core.List.{List, []}
use mathlib.Core.Bool.{true, false}
use Prim.Native.Nat.{ℕ, ◌+◌, ◌*◌, ◌%◌, ◌≤◌, ◌<◌}
use native.Mathlib.Omega.{arith}
use lib.ListN.{length}
use lib.Dec.{eqb, ltb, leb}
use borrow.Author.Tests.{eq-eqb, ne_eqb, eqb-true, ltb-true, le-leb, lt-leb}
use Rattle.laws.specs.Choice.{both}
use Rattle.laws.specs.Bytes.{splice}
use Rattle.laws.specs.Refusal.{refusal, unless}
use Rattle.laws.proofs.Choice.{both_true, both_left, both_right, both-false-left, both-false-right}
use Rattle.laws.proofs.Refusals.{Hold, refusal-0, refusal-hold, refusal-first, refusal-then, refusal-past, unless-0, unless-no}
use Rattle.form.specs.Encode.{version2, blocks_for}
use Rattle.form.specs.Test.{leaves_in, length_right}
use Rattle.form.proofs.Sound.{fit-2}
use Rattle.form.proofs.Records.{length-encode}
use Rattle.salvage.specs.Salvage.{Answer}
use Rattle.damaged.specs.Taken.{taken}
use Rattle.salvage.specs.Salvage.{new_image, head_tests, room_tests, salvage_refusal, Left, left, salvaging, numbered, as_number, listed_number}
use Rattle.damaged.proofs.Kept.{kept-sized}

abbrev pub no_answer : ℕ → Answer
no_answer c = record { refusal = c; length = 0; listed = 0 }

module _ (image : List ℕ) where
  -- an image whose head is not refused
  module _ (e : refusal (head_tests image) ≡ 0) where
    pub holds : Hold (head_tests image)
    holds = refusal-hold (head_tests image) refl e

    long : both (ltb 0 (length image)) (eqb (length image % 512) 0) ≡ true
    unfolding length_right
    long = both_left _ _ holds.0

    pub some : 0 < length image
    some = ltb-true 0 (length image) (both_left _ _ long)

    pub whole : length image % 512 ≡ 0
    whole = eqb-true (length image % 512) 0 (both_right _ _ long)

    pub length-new : length (new_image image) ≡ 512 * (1 + blocks_for (length (taken image).kept))
    length-new = length-encode version2 (leaves_in image) (taken image).kept fit-2.room (kept-sized image some whole)

  -- the refusal and the answers
  module _ (output list : List ℕ) where
    abbrev accepted : Answer
    accepted = record { refusal = 0; length = length (new_image image); listed = length (taken image).listed }

    answers-no : (c : ℕ) → salvage_refusal image (length output) (length list) ≡ c → 0 < c → left (no_answer c) output list ≡ salvaging image output list
    unfolding salvaging
    answers-no c e h =
        sym (ap (λ (x : ℕ). unless x (left accepted (splice output 0 (new_image image)) (splice list 0 (taken image).listed)) (λ d. left (no_answer d) output list)) e
        ∙ unless-no (left accepted (splice output 0 (new_image image)) (splice list 0 (taken image).listed)) (λ d. left (no_answer d) output list) h)

    pub head-refused : (c : ℕ) → c ≡ refusal (head_tests image) → (c ≡ 0 → ⊥) → left (no_answer c) output list ≡ salvaging image output list
    unfolding salvage_refusal
    head-refused c e h =
        let p : 0 < c = omega arith in
        answers-no c (refusal-then (head_tests image) (room_tests image (length output) (length list)) (omega arith) ∙ sym e) p

    module _ (e : refusal (head_tests image) ≡ 0) where
      nine : both (leb (length (new_image image)) (length output)) (leb (length (taken image).listed) (length list)) ≡ false → salvage_refusal image (length output) (length list) ≡ 9
      unfolding salvage_refusal
      nine h = refusal-first (head_tests image) (both (leb (length (new_image image)) (length output)) (leb (length (taken image).listed) (length list))) 9 [] (holds e) h

      pub short-output : length output < length (new_image image) → left (no_answer 9) output list ≡ salvaging image output list
      short-output h = answers-no 9 (nine (both-false-left _ _ (lt-leb (length (new_image image)) (length output) h))) (omega arith)

      pub short-list : length list < length (taken image).listed → left (no_answer 9) output list ≡ salvaging image output list
      short-list h = answers-no 9 (nine (both-false-right _ _ (lt-leb (length (taken image).listed) (length list) h))) (omega arith)

      module _ (r : length (new_image image) ≤ length output) (s : length (taken image).listed ≤ length list) where
        pub not-refused : salvage_refusal image (length output) (length list) ≡ 0
        unfolding salvage_refusal
        not-refused =
            refusal-past (head_tests image) (room_tests image (length output) (length list)) (holds e)
            ∙ refusal-0 (room_tests image (length output) (length list)) (both_true _ _ (le-leb (length (new_image image)) (length output) r) (le-leb (length (taken image).listed) (length list) s), tt)

        pub salvages : salvaging image output list ≡ left accepted (splice output 0 (new_image image)) (splice list 0 (taken image).listed)
        unfolding salvaging
        salvages = unless-0 (left accepted (splice output 0 (new_image image)) (splice list 0 (taken image).listed)) (λ d. left (no_answer d) output list) not-refused

  -- the number of entries
  pub listed-no : (c : ℕ) → c ≡ refusal (head_tests image) → (c ≡ 0 → ⊥) → 4294967296 + c ≡ listed_number image
  unfolding listed_number
  listed-no c e h =
      let p : 0 < refusal (head_tests image) = omega arith in
      ap (λ (x : ℕ). 4294967296 + x) e ∙ sym (unless-no (length (taken image).listed) (λ d. 4294967296 + d) p)

  pub listed-is : refusal (head_tests image) ≡ 0 → length (taken image).listed ≡ listed_number image
  unfolding listed_number
  listed-is e = sym (unless-0 (length (taken image).listed) (λ d. 4294967296 + d) e)

-- an answer as one number
module _ (s : Left) where
  pub length-no : (s.answer.refusal ≡ 0 → ⊥) → numbered (4294967296 + s.answer.refusal) s.output s.list ≡ as_number s
  unfolding as_number
  length-no h = rw (ne_eqb s.answer.refusal 0 h)

  pub length-is : s.answer.refusal ≡ 0 → numbered s.answer.length s.output s.list ≡ as_number s
  unfolding as_number
  length-is h = rw (eq-eqb s.answer.refusal 0 h)
