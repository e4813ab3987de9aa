-- 01 "The replay program": the form of a script's line, and what it asks for.
use Rattle.std.specs.Prelude.{List, [], ◌∷◌, Bool, true, false, ℕ, zero, suc, ◌+◌, ◌-◌, ◌*◌, eqb, ltb, leb, length, get_or, Option, Some, None}
use Rattle.laws.specs.Choice.{pick, both, either}
use Rattle.laws.specs.Scan.{all}
use Rattle.script.specs.declared.Command.{Command}
use Rattle.script.specs.declared.Command.TheVariants.{New, Read, Write, Step, Drain}

-- "Line 1: `n N L T` .. Then `r T G O`, `w T G V O`, `s T`, `d`: issue a read or write, step, drain." `bad` is any other line.
pub data Asks : Type 0 where
  news : (n l t : ℕ) → Asks
  reads : (x g : ℕ) (bottom : Bool) → Asks
  writes : (x g v : ℕ) (bottom : Bool) → Asks
  steps : (x : ℕ) → Asks
  drains : Asks
  bad : Asks

-- what each case of a command asks for; no command is any other line
abbrev pub asks : Option Command → Asks
asks None = bad
asks (Some (New n l t)) = news n l t
asks (Some (Read x g bottom)) = reads x g bottom
asks (Some (Write x g v bottom)) = writes x g v bottom
asks (Some (Step x)) = steps x
asks (Some Drain) = drains

-- "single spaces": a line is its fields with one space between two
abbrev pub before : (space : Bool) → ℕ → List (List ℕ) → List (List ℕ)
before true x fs = [] ∷ fs
before false x [] = (x ∷ []) ∷ []
before false x (f ∷ fs) = (x ∷ f) ∷ fs

unfoldable pub fields : List ℕ → List (List ℕ)
fields [] = [] ∷ []
fields (x ∷ xs) = before (eqb x 32) x (fields xs)

-- the value of a digit, `0` to `9` and `a` to `f`; 16 for any other byte
unfoldable pub digit_of : ℕ → ℕ
digit_of b = pick (both (leb 48 b) (leb b 57)) (b - 48) (pick (both (leb 97 b) (leb b 102)) (b - 87) 16)

-- the number that the first i bytes of a field spell
unfoldable pub spells : (base : ℕ) → List ℕ → ℕ → ℕ
spells base f zero = 0
spells base f (suc i) = spells base f i * base + digit_of (get_or f i 0)

-- a field of so many digits
unfoldable pub is_numeral : (base least most : ℕ) → List ℕ → Bool
is_numeral base least most f = both (both (leb least (length f)) (leb (length f) most)) (all (λ i. ltb (digit_of (get_or f i 0)) base) (length f))

-- the number that a field spells; none where it is not of so many digits
unfoldable pub numeral : (base least most : ℕ) → List ℕ → Option ℕ
numeral base least most f = pick (is_numeral base least most f) (Some (spells base f (length f))) None

-- "other numbers decimal, 1 to 9 digits"
abbrev pub is_decimal : List ℕ → Bool
is_decimal f = is_numeral 10 1 9 f

abbrev pub decimal_of : List ℕ → ℕ
decimal_of f = spells 10 f (length f)

abbrev pub decimal : List ℕ → Option ℕ
decimal f = numeral 10 1 9 f

-- "V is 8 lower-case hex digits"
abbrev pub is_hex : List ℕ → Bool
is_hex f = is_numeral 16 8 8 f

abbrev pub hex_of : List ℕ → ℕ
hex_of f = spells 16 f (length f)

abbrev pub hex : List ℕ → Option ℕ
hex f = numeral 16 8 8 f

-- a field that is one letter
unfoldable pub is_letter : List ℕ → ℕ → Bool
is_letter f c = both (eqb (length f) 1) (eqb (get_or f 0 0) c)

-- "O is `t` or `b`"
unfoldable pub is_order : List ℕ → Bool
is_order f = either (is_letter f 116) (is_letter f 98)

-- the order of a field, whether it is `b`; none where it is no order
unfoldable pub order : List ℕ → Option Bool
order f = pick (is_order f) (Some (is_letter f 98)) None

-- `s T`
unfoldable pub step_line : List ℕ → Asks
step_line x = pick (is_decimal x) (steps (decimal_of x)) bad

-- `n N L T`
unfoldable pub new_line : List ℕ → List ℕ → List ℕ → Asks
new_line n l t =
    pick (both (is_decimal n) (both (is_decimal l) (is_decimal t))) (news (decimal_of n) (decimal_of l) (decimal_of t)) bad

-- `r T G O`
unfoldable pub read_line : List ℕ → List ℕ → List ℕ → Asks
read_line x g o =
    pick (both (is_decimal x) (both (is_decimal g) (is_order o))) (reads (decimal_of x) (decimal_of g) (is_letter o 98)) bad

-- `w T G V O`
unfoldable pub write_line : List ℕ → List ℕ → List ℕ → List ℕ → Asks
write_line x g v o =
    pick (both (is_decimal x) (both (is_decimal g) (both (is_hex v) (is_order o)))) (writes (decimal_of x) (decimal_of g) (hex_of v) (is_letter o 98)) bad

-- the line by its letter, and by how many fields it has
unfoldable pub of_fields : List (List ℕ) → Asks
of_fields [] = bad
of_fields (a ∷ []) = pick (is_letter a 100) drains bad
of_fields (a ∷ b ∷ []) = pick (is_letter a 115) (step_line b) bad
of_fields (a ∷ b ∷ c ∷ []) = bad
of_fields (a ∷ b ∷ c ∷ d ∷ []) = pick (is_letter a 110) (new_line b c d) (pick (is_letter a 114) (read_line b c d) bad)
of_fields (a ∷ b ∷ c ∷ d ∷ e ∷ []) = pick (is_letter a 119) (write_line b c d e) bad
of_fields (a ∷ b ∷ c ∷ d ∷ e ∷ f ∷ fs) = bad

-- "at most 64 bytes a line, newline apart"
unfoldable pub asks_for : List ℕ → Asks
asks_for line = pick (leb (length line) 64) (of_fields (fields line)) bad
