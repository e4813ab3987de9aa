-- A chunk line by line: what is to do from any line on is the whole of it, however many lines are allowed for.
use mathlib.Core.Path.{◌≡◌, refl, sym, ◌∙◌}
use mathlib.Core.Bool.{true, false}
use mathlib.Core.List.{List}
use mathlib.Core.Logic.{◌⊎◌, inl, inr}
use Prim.Native.Nat.{ℕ, zero, suc, ◌+◌, ◌-◌, ◌≤◌, ◌<◌}
use native.Mathlib.Omega.{arith}
use lib.ListN.{length}
use borrow.Author.Tests.{ltb-true, le-ltb}
use Rattle.laws.proofs.Choice.{true-or-false, both_left, both-false-left}
use Rattle.rules.specs.Run.{Kept}
use Rattle.script.specs.Script.{Asks}
use Rattle.rules.specs.Calls.{Out}
use Rattle.play.specs.Play.{Played, line_end, goes_on, line_done, played}

pub line_end-from : (input : List ℕ) (at : ℕ) → at ≤ line_end input at
unfolding line_end
line_end-from input at = omega arith

pub goes_on-end : (input : List ℕ) (p : Played) → goes_on input p ≡ true → line_end input p.taken < length input
unfolding goes_on
goes_on-end input p h = ltb-true _ _ (both_left _ _ h)

-- no line is left where the chunk is taken to its end
at-end : (input : List ℕ) (p : Played) → length input ≤ p.taken → goes_on input p ≡ false
unfolding goes_on
at-end input p q = let l = line_end-from input p.taken in let e : length input ≤ line_end input p.taken = omega arith in both-false-left _ _ (le-ltb _ _ e)

module _ (rule : Kept → Asks → Out) where
  pub taken_more : (input : List ℕ) (p : Played) → (line_done rule input p).taken ≡ line_end input p.taken + 1
  unfolding line_done
  taken_more input p = refl

  module _ (input : List ℕ) (p : Played) where
    pub played-stops : (f : ℕ) → goes_on input p ≡ false → played rule f input p ≡ p
    unfolding played
    played-stops zero h = refl
    played-stops (suc f) h = rw h

    pub played-goes : (f : ℕ) → goes_on input p ≡ true → played rule (suc f) input p ≡ played rule f input (line_done rule input p)
    unfolding played
    played-goes f h = rw h

  -- any two numbers of lines that are enough give the same
  pub played-enough : (f g : ℕ) (input : List ℕ) (p : Played) → length input ≤ p.taken + f → length input ≤ p.taken + g → played rule f input p ≡ played rule g input p
  played-enough zero g input p a b =
      let e : goes_on input p ≡ false = at-end input p (omega arith) in
      played-stops input p zero e ∙ sym (played-stops input p g e)
  played-enough (suc f) zero input p a b =
      let e : goes_on input p ≡ false = at-end input p (omega arith) in
      played-stops input p (suc f) e ∙ sym (played-stops input p zero e)
  played-enough (suc f) (suc g) input p a b =
      by (λ h. let e = goes_on-end input p h in let l = line_end-from input p.taken in let t = taken_more input p in
      played-enough f g input (line_done rule input p) (omega arith) (omega arith)) (true-or-false (goes_on input p))
    where
      by : (goes_on input p ≡ true → played rule f input (line_done rule input p) ≡ played rule g input (line_done rule input p)) → (goes_on input p ≡ true) ⊎ (goes_on input p ≡ false)
          → played rule (suc f) input p ≡ played rule (suc g) input p
      by more (inl h) = played-goes input p f h ∙ more h ∙ sym (played-goes input p g h)
      by more (inr h) = played-stops input p (suc f) h ∙ sym (played-stops input p (suc g) h)

  -- a turn of the loop: what is left to do after one more line is what was left to do before it
  pub played-turn : (input : List ℕ) (p : Played) → goes_on input p ≡ true
      → played rule (length input - (line_done rule input p).taken) input (line_done rule input p) ≡ played rule (length input - p.taken) input p
  played-turn input p h =
      let e = goes_on-end input p h in
      let l = line_end-from input p.taken in
      let t = taken_more input p in
      let s : length input - p.taken ≡ suc (length input - p.taken - 1) = omega arith in
      rw s (sym (played-goes input p (length input - p.taken - 1) h
      ∙ played-enough (length input - p.taken - 1) (length input - (line_done rule input p).taken) input (line_done rule input p) (omega arith) (omega arith)))
