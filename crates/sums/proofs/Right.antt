-- Laws of a right check: the ways in which it is not, and that sums written in place are the check.
use Rattle.std.proofs.Common.{◌≡◌, ℕ, ◌<◌, ◌≤◌, Bool, true, false, eqb, List, [], ◌++◌, length, take, drop, sym, refl, ap, ◌∙◌, append_assoc, append-nil, arith, length-append, take-append-drop, length-take-le, eq-eqb, ne_eqb, eqb-true}
use Rattle.laws.specs.Choice.{both}
use Rattle.laws.specs.Bytes.{splice, part, put_w, bytes, number_at, Bytes}
use Rattle.laws.proofs.Choice.{both_left, both_right, both_true, both-false-left, both-false-right}
use Rattle.laws.proofs.Splice.{length-splice}
use Rattle.laws.proofs.Put.{put_w-fits}
use Rattle.laws.proofs.Value.{length-bytes}
use Rattle.laws.proofs.Parts.{part-all, part-front, part-add, number, number-back}
use Rattle.sums.specs.Check.{sum_a, sum_b, check_of, check_right, with_check}
use Rattle.laws.proofs.Writes.{splice-then, splice-end}
use Rattle.sums.proofs.Words.{sum_a-lt, sum_b-lt, sum_a-front, sum_b-front}

module _ (M : ℕ) (b : List ℕ) where
  -- what a right check says
  pub right_is : check_right M b ≡ true → (length b ≡ 512) × (number_at 2 b 508 ≡ sum_a M b 254) × (number_at 2 b 510 ≡ sum_b M b 254)
  unfolding check_right
  right_is h =
      let A : Bool = eqb (number_at 2 b 508) (sum_a M b 254) in
      let B : Bool = eqb (number_at 2 b 510) (sum_b M b 254) in
      let r : both A B ≡ true = both_right (eqb (length b) 512) (both A B) h in
      (eqb-true _ _ (both_left (eqb (length b) 512) (both A B) h), eqb-true _ _ (both_left A B r), eqb-true _ _ (both_right A B r))

  pub is_right : length b ≡ 512 → number_at 2 b 508 ≡ sum_a M b 254 → number_at 2 b 510 ≡ sum_b M b 254 → check_right M b ≡ true
  unfolding check_right
  is_right l p q = both_true _ _ (eq-eqb _ _ l) (both_true _ _ (eq-eqb _ _ p) (eq-eqb _ _ q))

  -- the three ways out of the test
  pub not-long : (length b ≡ 512 → ⊥) → check_right M b ≡ false
  unfolding check_right
  not-long h = both-false-left _ _ (ne_eqb _ _ h)

  pub not_first : (number_at 2 b 508 ≡ sum_a M b 254 → ⊥) → check_right M b ≡ false
  unfolding check_right
  not_first h = both-false-right _ _ (both-false-left _ _ (ne_eqb _ _ h))

  pub by-second : length b ≡ 512 → number_at 2 b 508 ≡ sum_a M b 254 → check_right M b ≡ eqb (number_at 2 b 510) (sum_b M b 254)
  unfolding check_right both
  by-second l p = rw (eq-eqb (length b) 512 l, eq-eqb (number_at 2 b 508) (sum_a M b 254) p)

  pub length-check : length (check_of M b) ≡ 4
  unfolding check_of
  length-check = omega (arith, length-append (bytes 2 (sum_a M b 254)) (bytes 2 (sum_b M b 254)), length-bytes 2 (sum_a M b 254), length-bytes 2 (sum_b M b 254))

  -- both sums written in their places
  pub both-put : 512 ≤ length b → put_w 2 (put_w 2 b 508 (bytes 2 (sum_a M b 254))) 510 (bytes 2 (sum_b M b 254)) ≡ with_check M b
  unfolding with_check check_of
  both-put h =
      let A : List ℕ = bytes 2 (sum_a M b 254) in
      let B : List ℕ = bytes 2 (sum_b M b 254) in
      let la : length A ≡ 2 = length-bytes 2 (sum_a M b 254) in
      let lb : length B ≡ 2 = length-bytes 2 (sum_b M b 254) in
      let ls : length (splice b 508 A) ≡ length b = length-splice b 508 A (omega arith) in
      rw (put_w-fits 2 b 508 A (omega arith), put_w-fits 2 (splice b 508 A) 510 B (omega arith), put_w-fits 4 b 508 (A ++ B) (omega arith))
      (splice-then b 508 A B 510 (omega arith) (omega arith))

  -- a block with its check is its first 508 bytes with theirs
  pub sealed : length b ≡ 512 → with_check M b ≡ take 508 b ++ check_of M (take 508 b)
  unfolding with_check check_of
  sealed h =
      let t : length (take 508 b) ≡ 508 = length-take-le 508 b (omega arith) in
      let p : sum_a M b 254 ≡ sum_a M (take 508 b) 254 =
      ap (λ (l : List ℕ). sum_a M l 254) (sym (take-append-drop 508 b)) ∙ sum_a-front M (take 508 b) (drop 508 b) 254 (omega arith) in
      let q : sum_b M b 254 ≡ sum_b M (take 508 b) 254 =
      ap (λ (l : List ℕ). sum_b M l 254) (sym (take-append-drop 508 b)) ∙ sum_b-front M (take 508 b) (drop 508 b) 254 (omega arith) in
      let C : List ℕ = bytes 2 (sum_a M b 254) ++ bytes 2 (sum_b M b 254) in
      let lc : length C ≡ 4 = omega (arith, length-append (bytes 2 (sum_a M b 254)) (bytes 2 (sum_b M b 254)), length-bytes 2 (sum_a M b 254), length-bytes 2 (sum_b M b 254)) in
      put_w-fits 4 b 508 C (omega arith) ∙ splice-end b 508 C (omega arith) ∙ rw (p, q)

-- 508 bytes with their check have a right check
module _ (M : ℕ) (h₁ : 1 < M) (h₂ : M ≤ 65536) (P : List ℕ) (h : length P ≡ 508) where
  pub sealed-right : check_right M (P ++ check_of M P) ≡ true
  unfolding check_of
  sealed-right =
      let A : List ℕ = bytes 2 (sum_a M P 254) in
      let B : List ℕ = bytes 2 (sum_b M P 254) in
      let la : length A ≡ 2 = length-bytes 2 (sum_a M P 254) in
      let lb : length B ≡ 2 = length-bytes 2 (sum_b M P 254) in
      let fa : sum_a M (P ++ (A ++ B)) 254 ≡ sum_a M P 254 = sum_a-front M P (A ++ B) 254 (omega arith) in
      let fb : sum_b M (P ++ (A ++ B)) 254 ≡ sum_b M P 254 = sum_b-front M P (A ++ B) 254 (omega arith) in
      is_right M (P ++ (A ++ B)) (omega (arith, length-append P (A ++ B), length-append A B))
      (number (P ++ (A ++ B)) P B 508 2 (sum_a M P 254) refl h (omega (arith, sum_a-lt M P 254 h₁)) ∙ sym fa)
      (number (P ++ (A ++ B)) (P ++ A) [] 510 2 (sum_b M P 254) (sym (append_assoc P A B) ∙ ap (λ (l : List ℕ). (P ++ A) ++ l) (sym (append-nil B))) (omega (arith, length-append P A)) (omega (arith, sum_b-lt M P 254 h₁)) ∙ sym fb)

-- a block with a right check is its first 508 bytes with theirs
pub right-sealed : (M : ℕ) (b : List ℕ) → Bytes b → check_right M b ≡ true → b ≡ take 508 b ++ check_of M (take 508 b)
unfolding check_of
right-sealed M b B r =
    let w = right_is M b r in
    let P : List ℕ = take 508 b in
    let lp : length P ≡ 508 = length-take-le 508 b (omega arith) in
    let s : b ≡ P ++ drop 508 b = sym (take-append-drop 508 b) in
    let fa : sum_a M b 254 ≡ sum_a M P 254 = ap (λ (l : List ℕ). sum_a M l 254) s ∙ sum_a-front M P (drop 508 b) 254 (omega arith) in
    let fb : sum_b M b 254 ≡ sum_b M P 254 = ap (λ (l : List ℕ). sum_b M l 254) s ∙ sum_b-front M P (drop 508 b) 254 (omega arith) in
    let a : part b 508 2 ≡ bytes 2 (sum_a M P 254) = number-back b 508 2 (sum_a M P 254) B (omega arith) (w.1 ∙ fa) in
    let c : part b 510 2 ≡ bytes 2 (sum_b M P 254) = number-back b 510 2 (sum_b M P 254) B (omega arith) (w.2 ∙ fb) in
    sym (part-all b 512 w.0) ∙ part-add b 0 508 4 ∙ ap (λ (l : List ℕ). part b 0 508 ++ l) (part-add b 508 2 2) ∙ (λ i. part-front b 508 i ++ (a i ++ c i))
