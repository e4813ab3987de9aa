-- Laws of refusals: 0 says that every test holds; the first that fails gives its number.
use mathlib.Core.Path.{◌≡◌, refl}
use mathlib.Core.List.{[], ◌∷◌, ◌++◌}
use mathlib.Core.Bool.{Bool, true, false}
use mathlib.Core.Logic.{◌⊎◌, inl, inr, ⊎_elim}
use Prim.Native.Nat.{ℕ, zero, suc, ◌<◌}
use native.Mathlib.Omega.{arith}
use lib.Dec.{eqb}
use borrow.Author.Tests.{eq-eqb, ne_eqb}
use Rattle.laws.specs.Choice.{pick}
use Rattle.laws.specs.Refusal.{Tests, refusal, unless}
use Rattle.laws.proofs.Choice.{not-both-ways}

-- every test holds
abbrev pub Hold : Tests → Type 0
Hold [] = Unit {0}
Hold (t ∷ ts) = (t.0 ≡ true) × Hold ts

-- no refusal has the number i
abbrev pub lacks : ℕ → Tests → Bool
lacks i [] = true
lacks i (t ∷ ts) = pick (eqb t.1 i) false (lacks i ts)

pub refusal-0 : (ts : Tests) → Hold ts → refusal ts ≡ 0
unfolding refusal
refusal-0 [] h = refl
refusal-0 (t ∷ ts) h = rw h.0 (refusal-0 ts h.1)

-- and back, since no refusal is 0
lacks-one : (b p q : Bool) (k c i : ℕ) → eqb c i ≡ p → pick p false q ≡ true → pick b k c ≡ i → (b ≡ true) × (q ≡ true) × (k ≡ i)
lacks-one true false q k c i l n e = (refl, n, e)
lacks-one false false q k c i l n e = absurd (not-both-ways (eq-eqb c i e) l)
lacks-one b true q k c i l n e = absurd (not-both-ways n refl)

pub refusal-hold : (ts : Tests) → lacks 0 ts ≡ true → refusal ts ≡ 0 → Hold ts
unfolding refusal
refusal-hold [] n e = tt
refusal-hold (t ∷ ts) n e =
    let h = lacks-one t.0 (eqb t.1 0) (lacks 0 ts) (refusal ts) t.1 0 refl n e in
    (h.0, refusal-hold ts h.1 h.2)

-- a number that is none of the tests' is not given
pub refusal-other : (ts : Tests) (i : ℕ) → lacks i ts ≡ true → 0 < i → refusal ts ≡ i → ⊥
unfolding refusal
refusal-other [] i n h e = omega arith
refusal-other (t ∷ ts) i n h e =
    let l = lacks-one t.0 (eqb t.1 i) (lacks i ts) (refusal ts) t.1 i refl n e in
    refusal-other ts i l.1 h l.2

-- tests before others: refused by one of them, or by the others
then_one : (b : Bool) (k j c : ℕ) → 0 < pick b k c → (0 < k → j ≡ k) → pick b j c ≡ pick b k c
then_one true k j c h f = f h
then_one false k j c h f = refl

pub refusal-then : (ts us : Tests) → 0 < refusal ts → refusal (ts ++ us) ≡ refusal ts
unfolding refusal
refusal-then [] us h = absurd (omega arith)
refusal-then (t ∷ ts) us h = then_one t.0 (refusal ts) (refusal (ts ++ us)) t.1 h (refusal-then ts us)

pub refusal-past : (ts us : Tests) → Hold ts → refusal (ts ++ us) ≡ refusal us
unfolding refusal
refusal-past [] us h = refl
refusal-past (t ∷ ts) us h = rw h.0 (refusal-past ts us h.1)

-- the first test that fails, those before it holding
pub refusal-first : (before : Tests) (b : Bool) (c : ℕ) (after : Tests) → Hold before → b ≡ false → refusal (before ++ (b, c) ∷ after) ≡ c
unfolding refusal
refusal-first [] b c after h e = rw e
refusal-first (t ∷ ts) b c after h e = rw h.0 (refusal-first ts b c after h.1 e)

-- refused or not
pub refused-or-not : (c : ℕ) → (c ≡ 0) ⊎ (0 < c)
refused-or-not zero = inl refl
refused-or-not (suc c) = inr (omega arith)

-- what a call does
module _ {A : Type 0} {c : ℕ} (a : A) (f : ℕ → A) where
  pub unless-0 : c ≡ 0 → unless c a f ≡ a
  unfolding unless
  unless-0 e = rw e

  pub unless-no : 0 < c → unless c a f ≡ f c
  unfolding unless
  unless-no h = rw (ne_eqb c 0 (λ z. omega arith))

  -- what holds of both holds of it
  pub unless-by : (P : A → Type 0) → (c ≡ 0 → P a) → (0 < c → P (f c)) → P (unless c a f)
  unless-by P p q = ⊎_elim (λ e. rw (unless-0 e) (p e)) (λ h. rw (unless-no h) (q h)) (refused-or-not c)
