-- Each public function has one answer: what a call did names its answer, its state, its transfers and its bytes, so two results that a promise allows are equal.
use mathlib.Core.Path.{◌≡◌, sym, ap, ◌∙◌}
use mathlib.Core.List.{List}
use mathlib.Core.Bool.{Bool}
use Prim.Native.Nat.{ℕ}
use Rattle.std.specs.Prelude.{Result}
use Rattle.laws.specs.declared.Refusal.{Refusal}
use Rattle.laws.specs.Refusal.{refused_with}
use Rattle.tracker.specs.declared.Access.{Access}
use Rattle.tracker.specs.declared.Transfers.{Transfers}
use Rattle.tracker.specs.declared.Answer.{Answer}
use Rattle.tracker.proofs.One.{says-one}
use Rattle.rules.specs.State as rules
use Rattle.rules.specs.Whole.{whole}
use Rattle.rules.specs.Calls as calls
use Rattle.rules.specs.Calls.{fresh, opened, issue, step, drain, show, show_no}
use Rattle.whole.proofs.Numbers.{refused_one}
use Rattle.cache.specs.declared.State.{State}
use Rattle.cache.specs.declared.Out.{Out}
use Rattle.cache.specs.Seen.{seen, did}

-- the state of the code that is seen so
abbrev state_of : rules.State → State
state_of s = record { shape = s.shape; lines = s.lines; trackers = s.trackers }

-- two states that are seen alike are one
pub seen_one : (a b : State) → seen a ≡ seen b → a ≡ b
seen_one a b e = ap state_of e

-- two calls that did the same answered alike and left the same
module _ (a b : Out) (x y m k : List ℕ) (e : did a x m ≡ did b y k) where
  pub did-one : a ≡ b
  did-one =
      together a.state b.state a.answer b.answer a.transfers b.transfers (seen_one a.state b.state (ap (λ (o : calls.Out). o.state) e))
      (says-one a.answer b.answer (ap (λ (o : calls.Out). o.said) e)) (ap (λ (o : calls.Out). o.transfers) e)
    where
      together : (s t : State) (c d : Answer) (f g : Transfers) → s ≡ t → c ≡ d → f ≡ g
          → ◌≡◌ {A = Out} (record { state = s; answer = c; transfers = f }) (record { state = t; answer = d; transfers = g })
      together s t c d f g p q h = rw (p, q, h)

  pub bytes_one : x ≡ y
  bytes_one = ap (λ (o : calls.Out). o.bytes) e

  pub memory-one : m ≡ k
  memory-one = ap (λ (o : calls.Out). o.memory) e

-- two calls that are refused with one number, or not refused, answered alike
pub told_one : {c : ℕ} (a b : Result Unit Refusal) → refused_with a ≡ c → refused_with b ≡ c → a ≡ b
told_one = refused_one

-- two results that a promise `did .. ≡ o` allows
abbrev Alike : Out → Out → (x y m k : List ℕ) → Type 0
Alike a b x y m k = (a ≡ b) × (x ≡ y) × (m ≡ k)

one : {o : calls.Out} (a b : Out) (x y m k : List ℕ) → did a x m ≡ o → did b y k ≡ o → Alike a b x y m k
one a b x y m k p q = let e : did a x m ≡ did b y k = p ∙ sym q in (did-one a b x y m k e, bytes_one a b x y m k e, memory-one a b x y m k e)

module _ (bytes memory : List ℕ) (a b : Out) (x y m k : List ℕ) where
  pub one-fresh : (n t l : ℕ) → did a x m ≡ fresh n t l bytes memory → did b y k ≡ fresh n t l bytes memory → Alike a b x y m k
  one-fresh n t l = one a b x y m k

  pub one-open : (n t l : ℕ) → did a x m ≡ opened n t l bytes memory → did b y k ≡ opened n t l bytes memory → Alike a b x y m k
  one-open n t l = one a b x y m k

  pub one-issue : (s : State) (i : ℕ) (access : Access)
      → did a x m ≡ issue (seen s) bytes memory i access → did b y k ≡ issue (seen s) bytes memory i access → Alike a b x y m k
  one-issue s i access = one a b x y m k

  pub one-step : (s : State) (i : ℕ) → did a x m ≡ step (seen s) bytes memory i → did b y k ≡ step (seen s) bytes memory i → Alike a b x y m k
  one-step s i = one a b x y m k

  pub one-drain : (s : State) → did a x m ≡ drain (seen s) bytes memory → did b y k ≡ drain (seen s) bytes memory → Alike a b x y m k
  one-drain s = one a b x y m k

module _ (s : State) (bytes memory : List ℕ) (k : ℕ) where
  pub one-whole : (a b : Bool) → a ≡ whole (seen s) → b ≡ whole (seen s) → a ≡ b
  one-whole a b p q = p ∙ sym q

  pub one-show : (a b : List ℕ) → a ≡ show (seen s) bytes memory k → b ≡ show (seen s) bytes memory k → a ≡ b
  one-show a b p q = p ∙ sym q

  pub one-show-refusal : (a b : Result Unit Refusal) → refused_with a ≡ show_no (seen s) bytes memory k → refused_with b ≡ show_no (seen s) bytes memory k → a ≡ b
  one-show-refusal = told_one
