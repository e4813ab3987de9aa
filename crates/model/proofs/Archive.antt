-- The laws of the archive's calls: what a call's result is as a number, and each way out of opening a reader and of reading a record.
use Rattle.std.proofs.Common.{◌≡◌, ℕ, ◌+◌, List, [], ◌∷◌, length, replicate, eqb, Result, Ok, Err, Some, None, refl, ap, sym, ◌∙◌, arith, eq-eqb, ne_eqb}
use Rattle.laws.specs.declared.Refusal.{Refusal}
use Rattle.laws.specs.Choice.{pick}
use Rattle.laws.specs.Refusal.{number, refused_with, given_done, refusal, unless}
use Rattle.laws.proofs.Refusals.{refusal-0, refusal-first, unless-0, unless-no}
use Rattle.laws.proofs.Told.{number-some}
use Rattle.image.specs.Calls.{restoring_refusal}
use Rattle.coding.specs.Answer.{refused_by}
use Rattle.reader.specs.declared.Found.{Found}
use Rattle.reader.specs.declared.Start.{Start}
use Rattle.reader.specs.Read.{Reading, Opened, reading_of, reading_at, opened_reader}
use Rattle.reader.specs.Told.{started}
use Rattle.model.specs.Archive.{restoring_answer, in_two, reader_opened, record_read}

-- "0, or 4,294,967,296 plus the refusal"
done-is : (r : Result Unit Refusal) → given_done r ≡ unless (refused_with r) 0 refused_by
done-is (Ok u) = sym (unless-0 0 refused_by refl)
done-is (Err c) = sym (unless-no 0 refused_by (number-some c))

pub restored-as : (image : List ℕ) (room : ℕ) (r : Result Unit Refusal) → refused_with r ≡ restoring_refusal image room → given_done r ≡ restoring_answer image room
unfolding restoring_answer
restored-as image room r e = done-is r ∙ ap (λ (c : ℕ). unless c 0 refused_by) e

-- an answer in two words
module _ (words : List ℕ) where
  not-two : (answer : ℕ × List ℕ) → (length words ≡ 2 → ⊥) → in_two words answer ≡ (4294967298, words)
  unfolding in_two
  not-two answer h =
      let e : refusal ((eqb (length words) 2, 2) ∷ []) ≡ 2 = refusal-first [] _ 2 [] tt (ne_eqb (length words) 2 h) in
      rw e (unless-no _ _ (omega arith))

  in_two_lem : length words ≡ 2 → (answer : ℕ × List ℕ) → in_two words answer ≡ answer
  unfolding in_two
  in_two_lem two answer = unless-0 _ _ (refusal-0 ((eqb (length words) 2, 2) ∷ []) (eq-eqb (length words) 2 two, tt))

-- opening a reader
module _ (image words : List ℕ) where
  pub opened-2 : (length words ≡ 2 → ⊥) → (4294967298, words) ≡ reader_opened image words
  unfolding reader_opened
  opened-2 h = sym (not-two words _ h)

  module _ (two : length words ≡ 2) where
    opened-by : (r : Opened) → r ≡ opened_reader image → reader_opened image words ≡ (unless r.refusal 0 refused_by, (r.length ∷ r.place ∷ []))
    unfolding reader_opened
    opened-by r e = rw (← e) (in_two_lem words two _)

    pub opened-0 : (s : Start) → started (Ok s) ≡ opened_reader image → (0, (s.length ∷ s.place ∷ [])) ≡ reader_opened image words
    opened-0 s e = sym (opened-by (started (Ok s)) e ∙ ap (λ (n : ℕ). (n, (s.length ∷ s.place ∷ []))) (unless-0 0 refused_by refl))

    pub opened-no : (c : Refusal) → started (Err c) ≡ opened_reader image → (4294967296 + number c, replicate (length words) 0) ≡ reader_opened image words
    opened-no c e = rw two (sym (opened-by (started (Err c)) e ∙ ap (λ (n : ℕ). (n, (0 ∷ 0 ∷ []))) (unless-no 0 refused_by (number-some c))))

-- a record's words
module _ (image : List ℕ) (p : ℕ) (words : List ℕ) where
  pub record-2 : (length words ≡ 2 → ⊥) → (4294967298, words) ≡ record_read image p words
  unfolding record_read
  record-2 h = sym (not-two words _ h)

  module _ (two : length words ≡ 2) where
    record-by : (r : Reading) → r ≡ reading_at image p → record_read image p words ≡ pick r.found (1, (r.leaf ∷ r.start ∷ [])) (0, words)
    unfolding record_read
    record-by r e = rw (← e) (in_two_lem words two _)

    pub record-end : reading_of p None ≡ reading_at image p → (0, words) ≡ record_read image p words
    record-end e = sym (record-by (reading_of p None) e)

    pub record_is : (f : Found) → reading_of p (Some f) ≡ reading_at image p → (1, (f.leaf ∷ f.start ∷ [])) ≡ record_read image p words
    record_is f e = sym (record-by (reading_of p (Some f)) e)
