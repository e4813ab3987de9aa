-- Laws of the lines: each way out of the grammar's cases, by the tests that lead there.
use mathlib.Core.Path.{◌≡◌, refl}
use mathlib.Core.List.{List, [], ◌∷◌}
use mathlib.Core.Bool.{Bool, true, false}
use Prim.Native.Nat.{ℕ, ◌≤◌, ◌<◌}
use lib.Dec.{eqb}
use lib.ListN.{length}
use borrow.Author.Tests.{le-leb, lt-leb}
use Rattle.std.specs.Prelude.{Some, None}
use Rattle.laws.specs.Choice.{both}
use Rattle.script.specs.Script.{news, reads, writes, steps, drains, bad, before, fields, is_decimal, decimal, is_hex, hex, is_letter, is_order, order, step_line, new_line, read_line, write_line, of_fields, asks_for}
use Rattle.script.proofs.Laws.{no_decimal, a_decimal, a-hex, an_order}

module _ (x : List ℕ) where
  pub not_step : None ≡ decimal x → bad ≡ step_line x
  unfolding step_line
  not_step h = rw (no_decimal _ h)

  pub a-step : (v : ℕ) → Some v ≡ decimal x → steps v ≡ step_line x
  unfolding step_line
  a-step v h = let p = a_decimal _ _ h in rw (p.0, p.1)

module _ (n l t : List ℕ) where
  pub not_new : both (is_decimal n) (both (is_decimal l) (is_decimal t)) ≡ false → bad ≡ new_line n l t
  unfolding new_line
  not_new h = rw h

  pub a-new : (vn vl vt : ℕ) → Some vn ≡ decimal n → Some vl ≡ decimal l → Some vt ≡ decimal t → news vn vl vt ≡ new_line n l t
  unfolding new_line both
  a-new vn vl vt hn hl ht =
      let p = a_decimal _ _ hn in
      let q = a_decimal _ _ hl in
      let r = a_decimal _ _ ht in
      rw (p.0, q.0, r.0, p.1, q.1, r.1)

module _ (x g o : List ℕ) where
  pub not-read : both (is_decimal x) (both (is_decimal g) (is_order o)) ≡ false → bad ≡ read_line x g o
  unfolding read_line
  not-read h = rw h

  pub a_read : (vx vg : ℕ) (b : Bool) → Some vx ≡ decimal x → Some vg ≡ decimal g → Some b ≡ order o → reads vx vg b ≡ read_line x g o
  unfolding read_line both
  a_read vx vg b hx hg ho =
      let p = a_decimal _ _ hx in
      let q = a_decimal _ _ hg in
      let r = an_order _ _ ho in
      rw (p.0, q.0, r.0, p.1, q.1, r.1)

module _ (x g v o : List ℕ) where
  pub not-write : both (is_decimal x) (both (is_decimal g) (both (is_hex v) (is_order o))) ≡ false → bad ≡ write_line x g v o
  unfolding write_line
  not-write h = rw h

  pub a_write : (vx vg vv : ℕ) (b : Bool) → Some vx ≡ decimal x → Some vg ≡ decimal g → Some vv ≡ hex v → Some b ≡ order o → writes vx vg vv b ≡ write_line x g v o
  unfolding write_line both
  a_write vx vg vv b hx hg hv ho =
      let p = a_decimal _ _ hx in
      let q = a_decimal _ _ hg in
      let r = a-hex _ _ hv in
      let s = an_order _ _ ho in
      rw (p.0, q.0, r.0, s.0, p.1, q.1, r.1, s.1)

-- the rest is one field
module _ (rest : List ℕ) (e : fields rest ≡ rest ∷ []) where
  pub drain-line : is_letter rest 100 ≡ true → drains ≡ of_fields (fields rest)
  unfolding of_fields
  drain-line h = rw (e, h)

  pub no-drain-line : is_letter rest 100 ≡ false → bad ≡ of_fields (fields rest)
  unfolding of_fields
  no-drain-line h = rw (e, h)

  module _ (a : List ℕ) where
    pub step_line_lem : is_letter a 115 ≡ true → step_line rest ≡ of_fields (a ∷ fields rest)
    unfolding of_fields
    step_line_lem h = rw (e, h)

    pub no-step-line : is_letter a 115 ≡ false → bad ≡ of_fields (a ∷ fields rest)
    unfolding of_fields
    no-step-line h = rw (e, h)

    pub no-three : (b : List ℕ) → bad ≡ of_fields (a ∷ b ∷ fields rest)
    unfolding of_fields
    no-three b = rw e

    module _ (b c : List ℕ) where
      pub new_line_lem : is_letter a 110 ≡ true → new_line b c rest ≡ of_fields (a ∷ b ∷ c ∷ fields rest)
      unfolding of_fields
      new_line_lem h = rw (e, h)

      pub read-line : is_letter a 110 ≡ false → is_letter a 114 ≡ true → read_line b c rest ≡ of_fields (a ∷ b ∷ c ∷ fields rest)
      unfolding of_fields
      read-line h g = rw (e, h, g)

      pub no-four-line : is_letter a 110 ≡ false → is_letter a 114 ≡ false → bad ≡ of_fields (a ∷ b ∷ c ∷ fields rest)
      unfolding of_fields
      no-four-line h g = rw (e, h, g)

      module _ (d : List ℕ) where
        pub write-line : is_letter a 119 ≡ true → write_line b c d rest ≡ of_fields (a ∷ b ∷ c ∷ d ∷ fields rest)
        unfolding of_fields
        write-line h = rw (e, h)

        pub no-write-line : is_letter a 119 ≡ false → bad ≡ of_fields (a ∷ b ∷ c ∷ d ∷ fields rest)
        unfolding of_fields
        no-write-line h = rw (e, h)

-- every line has a field, so six are no line
more : (a b c d e : List ℕ) (space : Bool) (x : ℕ) (fs : List (List ℕ)) → bad ≡ of_fields (a ∷ b ∷ c ∷ d ∷ e ∷ before space x fs)
unfolding of_fields
more a b c d e true x fs = refl
more a b c d e false x [] = refl
more a b c d e false x (f ∷ fs) = refl

pub no_six : (a b c d e xs : List ℕ) → bad ≡ of_fields (a ∷ b ∷ c ∷ d ∷ e ∷ fields xs)
unfolding of_fields fields
no_six a b c d e [] = refl
no_six a b c d e (x ∷ xs) = more a b c d e (eqb x 32) x (fields xs)

pub too_long : (xs : List ℕ) → 64 < length xs → bad ≡ asks_for xs
unfolding asks_for
too_long xs h = rw (lt-leb (length xs) 64 h)

pub not-too-long : (xs : List ℕ) → length xs ≤ 64 → of_fields (fields xs) ≡ asks_for xs
unfolding asks_for
not-too-long xs h = rw (le-leb (length xs) 64 h)
