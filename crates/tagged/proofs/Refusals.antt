-- The refusals, a law for each way out, and what an answer says of its numbers.
use mathlib.Core.Path.{◌≡◌, refl, ap, sym, ◌∙◌}
use mathlib.Core.Bool.{Bool, true, false}
use mathlib.Core.List.{List, [], ◌∷◌, ◌++◌}
use Prim.Native.Nat.{ℕ, ◌+◌, ◌-◌, ◌≤◌, ◌<◌}
use native.Mathlib.Omega.{arith}
use lib.Dec.{ltb, leb}
use lib.ListN.{length}
use borrow.Author.Tests.{eq-eqb, ne_eqb, lt-ltb, le-ltb, le-leb, lt-leb, leb-true}
use Rattle.std.specs.Prelude.{Option, Some, None, Ok}
use Rattle.laws.specs.Choice.{pick, both}
use Rattle.laws.specs.Refusal.{refusal}
use Rattle.laws.proofs.Choice.{both_true, both_left, both_right, both-false-left, both-false-right}
use Rattle.laws.proofs.Refusals.{Hold, refusal-0, refusal-hold, refusal-first, refusal-then, refusal-past, unless-0, unless-no}
use Rattle.laws.specs.Scan.{count_from}
use Rattle.geometry.specs.TagMemory.{leaf_of, groups, memory_length}
use Rattle.geometry.proofs.Places.{groups-most}
use Rattle.memory.specs.PlainReading.{sized}
use Rattle.memory.specs.True.{is_true}
use Rattle.memory.proofs.Sized.{sized-hold, small, long}
use Rattle.tagged.specs.Tagged.{Told, told, found_or_not, group_given, is_marked, lowest, leaves_from, inside, tests, tests_as_true, said, refused, between, between_as_true, group_number, leaves_number}

module _ (n a b : ℕ) where
  pub inside-after : b < a → refusal (inside n a b) ≡ 6
  inside-after h = refusal-first [] (both (leb a b) (leb b (groups n))) 6 [] tt (both-false-left (leb a b) (leb b (groups n)) (lt-leb a b h))

  pub inside-over : groups n < b → refusal (inside n a b) ≡ 6
  inside-over h = refusal-first [] (both (leb a b) (leb b (groups n))) 6 [] tt (both-false-right (leb a b) (leb b (groups n)) (lt-leb b (groups n) h))

  pub inside-0 : a ≤ b → b ≤ groups n → refusal (inside n a b) ≡ 0
  inside-0 h l = refusal-0 (inside n a b) (both_true (leb a b) (leb b (groups n)) (le-leb a b h) (le-leb b (groups n) l), tt)

  inside-hold : refusal (inside n a b) ≡ 0 → both (leb a b) (leb b (groups n)) ≡ true
  inside-hold e = (refusal-hold (inside n a b) refl e).0

  in_order : refusal (inside n a b) ≡ 0 → a ≤ b
  in_order e = leb-true a b (both_left (leb a b) (leb b (groups n)) (inside-hold e))

  not-over : refusal (inside n a b) ≡ 0 → b ≤ groups n
  not-over e = leb-true b (groups n) (both_right (leb a b) (leb b (groups n)) (inside-hold e))

-- an answer by a test: the group where it holds, else none
as_found : (t : Bool) (x k : ℕ) → found_or_not (pick t (Some x) None) k ≡ record { refusal = 0; found = t; group = pick t x 0; leaves = k }
as_found true x k = refl
as_found false x k = refl

as_number : (t : Bool) (x : ℕ) → group_given (Ok (pick t (Some x) None)) ≡ pick t (pick t x 0) 8589934592
as_number true x = refl
as_number false x = refl

-- numbers that fit the code
pub record Fit (n : ℕ) (m : List ℕ) (a b : ℕ) : Type 0 where
  pub few : n ≤ 262144
  pub long : length m ≡ memory_length n
  pub ordered : a ≤ b
  pub within : b ≤ groups n
  pub narrow : groups n ≤ 4194304

fits : (n : ℕ) (m : List ℕ) (a b : ℕ) → refusal (sized n m) ≡ 0 → refusal (inside n a b) ≡ 0 → Fit n m a b
fits n m a b e f = record {
  few = small n m e;
  long = long n m e;
  ordered = in_order n a b f;
  within = not-over n a b f;
  narrow = groups-most n 262144 (small n m e);
}

module _ (n : ℕ) (m : List ℕ) (a b : ℕ) where
  pub misfit-then : 0 < refusal (sized n m) → refusal (tests n m a b) ≡ refusal (sized n m)
  misfit-then h = refusal-then (sized n m) ((is_true n m, 3) ∷ inside n a b) h

  pub misfit-as-true : 0 < refusal (sized n m) → refusal (tests_as_true n m a b) ≡ refusal (sized n m)
  misfit-as-true h = refusal-then (sized n m) (inside n a b) h

  pub untrue-3 : refusal (sized n m) ≡ 0 → is_true n m ≡ false → refusal (tests n m a b) ≡ 3
  untrue-3 e h = refusal-first (sized n m) (is_true n m) 3 (inside n a b) (sized-hold n m e) h

  pub true-then : refusal (sized n m) ≡ 0 → is_true n m ≡ true → refusal (tests n m a b) ≡ refusal (inside n a b)
  true-then e h =
      let s = sized-hold n m e in
      refusal-past (sized n m ++ (is_true n m, 3) ∷ []) (inside n a b) (s.0, (s.1.0, (h, tt)))

  pub sized-then : refusal (sized n m) ≡ 0 → refusal (tests_as_true n m a b) ≡ refusal (inside n a b)
  sized-then e = refusal-past (sized n m) (inside n a b) (sized-hold n m e)

  -- nothing is refused: the numbers are in their limits
  tests-hold : refusal (tests n m a b) ≡ 0 → (refusal (sized n m) ≡ 0) × (refusal (inside n a b) ≡ 0)
  tests-hold e =
      let h : Hold (tests n m a b) = refusal-hold (tests n m a b) refl e in
      (refusal-0 (sized n m) (h.0, (h.1.0, tt)), refusal-0 (inside n a b) h.1.1.1)

  pub true-if : refusal (tests n m a b) ≡ 0 → is_true n m ≡ true
  true-if e = let h : Hold (tests n m a b) = refusal-hold (tests n m a b) refl e in h.1.1.0

  tests_as_true-hold : refusal (tests_as_true n m a b) ≡ 0 → (refusal (sized n m) ≡ 0) × (refusal (inside n a b) ≡ 0)
  tests_as_true-hold e =
      let h : Hold (tests_as_true n m a b) = refusal-hold (tests_as_true n m a b) refl e in
      (refusal-0 (sized n m) (h.0, (h.1.0, tt)), refusal-0 (inside n a b) h.1.1)

  pub fit : refusal (tests n m a b) ≡ 0 → Fit n m a b
  fit e = let h = tests-hold e in fits n m a b h.0 h.1

  pub fit-as-true : refusal (tests_as_true n m a b) ≡ 0 → Fit n m a b
  fit-as-true e = let h = tests_as_true-hold e in fits n m a b h.0 h.1

  -- the leaves
  pub leaves_none : b ≤ a → leaves_from n m a b ≡ 0
  unfolding leaves_from
  leaves_none h = rw (le-ltb a b h)

  pub leaves-some : (k l r : ℕ) → a < b → k ≡ leaf_of a → l ≡ leaf_of (b - 1) → r ≡ count_from (is_marked n m) k (l + 1) → r ≡ leaves_from n m a b
  unfolding leaves_from
  leaves-some k l r h e f q = rw (lt-ltb a b h) (q ∙ rw (e, f))

  -- what is said where nothing is refused
  found-is : (l : ℕ) → l ≡ lowest n m a b → l < b → ltb (lowest n m a b) b ≡ true
  found-is l e h = lt-ltb (lowest n m a b) b (omega arith)

  none_is : (l : ℕ) → l ≡ lowest n m a b → b ≤ l → ltb (lowest n m a b) b ≡ false
  none_is l e h = le-ltb (lowest n m a b) b (omega arith)

  pub between-no : (c : ℕ) → c ≡ refusal (tests n m a b) → 0 < c → between n m a b ≡ refused c
  unfolding between
  between-no c e h = unless-no (said n m a b) refused (omega arith) ∙ rw (sym e)

  pub between-found : refusal (tests n m a b) ≡ 0 → (l k : ℕ) → l ≡ lowest n m a b → l < b → k ≡ leaves_from n m a b
      → between n m a b ≡ record { refusal = 0; found = true; group = l; leaves = k }
  unfolding between
  between-found z l k e h f = unless-0 (said n m a b) refused z ∙ rw (found-is l e h, sym e, sym f)

  pub between_none : refusal (tests n m a b) ≡ 0 → (l k : ℕ) → l ≡ lowest n m a b → b ≤ l → k ≡ leaves_from n m a b
      → between n m a b ≡ record { refusal = 0; found = false; group = 0; leaves = k }
  unfolding between
  between_none z l k e h f = unless-0 (said n m a b) refused z ∙ rw (none_is l e h, sym f)

  -- the lowest group, where there is one
  pub lowest-found : (l : ℕ) → l ≡ lowest n m a b → l < b → Some l ≡ pick (ltb (lowest n m a b) b) (Some (lowest n m a b)) None
  lowest-found l e h = rw (found-is l e h) (ap Some e)

  pub lowest-none : (l : ℕ) → l ≡ lowest n m a b → b ≤ l → None ≡ pick (ltb (lowest n m a b) b) (Some (lowest n m a b)) None
  lowest-none l e h = rw (none_is l e h)

  -- what the calls answer where nothing is refused: o is the lowest group, k counts the leaves
  module _ (o : Option ℕ) (e : o ≡ pick (ltb (lowest n m a b) b) (Some (lowest n m a b)) None) where
    pub told-said : refusal (tests n m a b) ≡ 0 → (k : ℕ) → k ≡ leaves_from n m a b → told (Ok (record { group = o; leaves = k })) ≡ between n m a b
    unfolding between
    told-said z k f = rw (e, f) (as_found (ltb (lowest n m a b) b) (lowest n m a b) (leaves_from n m a b)) ∙ sym (unless-0 (said n m a b) refused z)

    pub number-said : refusal (tests n m a b) ≡ 0 → group_given (Ok o) ≡ group_number (between n m a b)
    unfolding between group_number
    number-said z = rw (e, unless-0 {c = refusal (tests n m a b)} (said n m a b) refused z) (as_number (ltb (lowest n m a b) b) (lowest n m a b))

    pub number-as-true : refusal (tests_as_true n m a b) ≡ 0 → group_given (Ok o) ≡ group_number (between_as_true n m a b)
    unfolding between_as_true group_number
    number-as-true z = rw (e, unless-0 {c = refusal (tests_as_true n m a b)} (said n m a b) refused z) (as_number (ltb (lowest n m a b) b) (lowest n m a b))

  pub leaves-said : refusal (tests n m a b) ≡ 0 → leaves_number (between n m a b) ≡ leaves_from n m a b
  unfolding between leaves_number
  leaves-said z = rw (unless-0 {c = refusal (tests n m a b)} (said n m a b) refused z)

  pub leaves-none-said : (c : ℕ) → c ≡ refusal (tests n m a b) → 0 < c → leaves_number (between n m a b) ≡ 4294967296 + c
  unfolding leaves_number
  leaves-none-said c e h = rw (between-no c e h, ne_eqb c 0 (λ z. absurd (omega arith)))

  -- of a true memory both calls answer the same
  pub as-true-same : is_true n m ≡ true → between_as_true n m a b ≡ between n m a b
  unfolding between between_as_true refusal
  as-true-same h = rw h

  -- the numbers for C
  pub number-no : (c : ℕ) → c ≡ refusal (tests n m a b) → 0 < c → group_number (between n m a b) ≡ 4294967296 + c
  unfolding group_number
  number-no c e h = rw (between-no c e h, ne_eqb c 0 (λ z. absurd (omega arith)))

  pub group-no : (c : ℕ) → c ≡ refusal (tests_as_true n m a b) → 0 < c → group_number (between_as_true n m a b) ≡ 4294967296 + c
  unfolding between_as_true group_number
  group-no c e h = rw (unless-no {c = refusal (tests_as_true n m a b)} (said n m a b) refused (omega arith), sym e, ne_eqb c 0 (λ z. omega arith))

  pub group-found : refusal (tests_as_true n m a b) ≡ 0 → (l : ℕ) → l ≡ lowest n m a b → l < b → group_number (between_as_true n m a b) ≡ l
  unfolding between_as_true group_number
  group-found z l e h = rw (unless-0 {c = refusal (tests_as_true n m a b)} (said n m a b) refused z, found-is l e h) (sym e)

  pub group-none : refusal (tests_as_true n m a b) ≡ 0 → (l : ℕ) → l ≡ lowest n m a b → b ≤ l → group_number (between_as_true n m a b) ≡ 8589934592
  unfolding between_as_true group_number
  group-none z l e h = rw (unless-0 {c = refusal (tests_as_true n m a b)} (said n m a b) refused z, none_is l e h)

  pub leaves-no : (c : ℕ) → c ≡ refusal (tests_as_true n m a b) → 0 < c → leaves_number (between_as_true n m a b) ≡ 4294967296 + c
  unfolding between_as_true leaves_number
  leaves-no c e h = rw (unless-no {c = refusal (tests_as_true n m a b)} (said n m a b) refused (omega arith), sym e, ne_eqb c 0 (λ z. omega arith))

  pub leaves-is : refusal (tests_as_true n m a b) ≡ 0 → leaves_number (between_as_true n m a b) ≡ leaves_from n m a b
  unfolding between_as_true leaves_number
  leaves-is z = rw (unless-0 {c = refusal (tests_as_true n m a b)} (said n m a b) refused z)

-- the same numbers of any answer
module _ (t : Told) where
  pub count_no : (t.refusal ≡ 0 → ⊥) → leaves_number t ≡ 4294967296 + t.refusal
  unfolding leaves_number
  count_no h = rw (ne_eqb t.refusal 0 h)

  pub count-is : t.refusal ≡ 0 → leaves_number t ≡ t.leaves
  unfolding leaves_number
  count-is h = rw (eq-eqb t.refusal 0 h)

-- the number for C of what was refused, and of what was told
pub leaves-refused : (c : ℕ) → 0 < c → 4294967296 + c ≡ leaves_number (refused c)
unfolding leaves_number
leaves-refused c h = rw (ne_eqb c 0 (λ z. omega arith))

pub leaves-found : (g : Option ℕ) (l : ℕ) → l ≡ leaves_number (found_or_not g l)
unfolding leaves_number
leaves-found (Some g) l = refl
leaves-found None l = refl
