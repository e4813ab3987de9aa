-- 02 E1: "whether any tag is set from group A up to but not including group B", and how many tagged leaves there are.
use Rattle.std.specs.Prelude.{Bool, true, false, Result, Ok, Err, Option, Some, None, List, [], ◌∷◌, ◌++◌, ℕ, ◌+◌, ◌-◌, eqb, ltb, leb}
use Rattle.laws.specs.Choice.{pick, both, no}
use Rattle.laws.specs.declared.Refusal.{Refusal}
use Rattle.laws.specs.Refusal.{Tests, refusal, unless, number}
use Rattle.laws.specs.Scan.{first_from, count_from}
use Rattle.geometry.specs.TagMemory.{leaf_of, groups}
use Rattle.memory.specs.PlainReading.{leaf_bit, plain_group, sized}
use Rattle.memory.specs.True.{is_true}
use Rattle.tagged.specs.declared.Tagged.{Tagged}

-- some tag of group g is set: it reads not zero
unfoldable pub is_tagged : ℕ → List ℕ → ℕ → Bool
is_tagged n m g = no (eqb (plain_group n m g) 0)

-- leaf k has bit 1
unfoldable pub is_marked : ℕ → List ℕ → ℕ → Bool
is_marked n m k = eqb (leaf_bit n m k) 1

-- "The answer is the lowest group with a set tag, or none, and must equal a reading of every group": B where there is none
unfoldable pub lowest : ℕ → List ℕ → (a b : ℕ) → ℕ
lowest n m a b = first_from (is_tagged n m) a b

-- "the number of tagged leaves from A's leaf to that of group B - 1, both counted"; "A = B answers none and 0 leaves"
unfoldable pub leaves_from : ℕ → List ℕ → (a b : ℕ) → ℕ
leaves_from n m a b = pick (ltb a b) (count_from (is_marked n m) (leaf_of a) (leaf_of (b - 1) + 1)) 0

-- "Refusals: 1, 2, 3, then 6 for A > B or B > 16n."
abbrev pub inside : (n a b : ℕ) → Tests
inside n a b = (both (leb a b) (leb b (groups n)), 6) ∷ []

abbrev pub tests : ℕ → List ℕ → (a b : ℕ) → Tests
tests n m a b = sized n m ++ (is_true n m, 3) ∷ inside n a b

-- the same with the memory taken as true, whatever its bytes are
abbrev pub tests_as_true : ℕ → List ℕ → (a b : ℕ) → Tests
tests_as_true n m a b = sized n m ++ inside n a b

-- an answer: the refusal's number, 0 if none; whether a tagged group was found, and which; the number of tagged leaves
pub record Told : Type 0 where
  pub refusal : ℕ
  pub found : Bool
  pub group : ℕ
  pub leaves : ℕ

-- what there is to say, and of a refusal: its number, the rest 0
abbrev pub said : ℕ → List ℕ → (a b : ℕ) → Told
said n m a b = record {
  refusal = 0;
  found = ltb (lowest n m a b) b;
  group = pick (ltb (lowest n m a b) b) (lowest n m a b) 0;
  leaves = leaves_from n m a b;
}

abbrev pub refused : ℕ → Told
refused c = record { refusal = c; found = false; group = 0; leaves = 0 }

-- "Is anything tagged between here and there?"
unfoldable pub between : ℕ → List ℕ → (a b : ℕ) → Told
between n m a b = unless (refusal (tests n m a b)) (said n m a b) refused

unfoldable pub between_as_true : ℕ → List ℕ → (a b : ℕ) → Told
between_as_true n m a b = unless (refusal (tests_as_true n m a b)) (said n m a b) refused

-- for C, as one number: the group, 8,589,934,592 for none, or 4,294,967,296 plus the refusal
unfoldable pub group_number : Told → ℕ
group_number t = pick (eqb t.refusal 0) (pick t.found t.group 8589934592) (4294967296 + t.refusal)

-- the leaves, or 4,294,967,296 plus the refusal
unfoldable pub leaves_number : Told → ℕ
leaves_number t = pick (eqb t.refusal 0) t.leaves (4294967296 + t.refusal)

-- what the call answers, as that
abbrev pub found_or_not : Option ℕ → ℕ → Told
found_or_not (Some g) leaves = record { refusal = 0; found = true; group = g; leaves = leaves }
found_or_not None leaves = record { refusal = 0; found = false; group = 0; leaves = leaves }

abbrev pub told : Result Tagged Refusal → Told
told (Ok t) = found_or_not t.group t.leaves
told (Err r) = refused (number r)

-- the group alone, as one number
abbrev pub group_given : Result (Option ℕ) Refusal → ℕ
group_given (Ok (Some g)) = g
group_given (Ok None) = 8589934592
group_given (Err r) = 4294967296 + number r
