-- Each promise of this crate allows one result for one input.
use mathlib.Core.Path.{◌≡◌, refl, ap, sym, ◌∙◌}
use mathlib.Core.List.{List}
use mathlib.Core.Bool.{Bool, true, false}
use Rattle.std.specs.Prelude.{Option, Some, None}
use Prim.Native.Nat.{ℕ}
use lib.Dec.{eqb}
use lib.ListN.{length}
use Rattle.laws.specs.Choice.{pick}
use Rattle.tracker.specs.declared.Answer.{Answer}
use Rattle.tracker.specs.declared.Transfers.{Transfers}
use Rattle.tracker.specs.Answer.{says}
use Rattle.rules.specs.State.{zero_state}
use Rattle.cache.specs.declared.State.{State}
use Rattle.cache.specs.Seen.{seen}
use Rattle.cache.proofs.One.{seen_one}
use Rattle.coding.specs.Seen.{is_coded, coded_state}
use Rattle.coding.specs.Words.{state_words, coded, decoded, codes}
use Rattle.coding.specs.Answer.{number_of, answer_words, said_coded, answer_coded}

pub codes-one : (w : List ℕ) {r s : Bool} → r ≡ codes w → s ≡ codes w → r ≡ s
codes-one w p q = p ∙ sym q

-- the state, or none
pub decode-answer-one : (w : List ℕ) (x y : Option State) → (is_coded x ≡ codes w) × (coded_state x ≡ pick (codes w) (decoded w) zero_state)
    → (is_coded y ≡ codes w) × (coded_state y ≡ pick (codes w) (decoded w) zero_state) → x ≡ y
decode-answer-one w (Some r) (Some s) p q = ap (λ (x : State). Some x) (seen_one r s (p.1 ∙ sym q.1))
decode-answer-one w (Some r) None p q = let e : ◌≡◌ true false = p.0 ∙ sym q.0 in cc
decode-answer-one w None (Some s) p q = let e : ◌≡◌ false true = p.0 ∙ sym q.0 in cc
decode-answer-one w None None p q = refl

pub decode-one : (w : List ℕ) {b c : Bool} {r s : State}
    → (b ≡ codes w) × (seen r ≡ pick (codes w) (decoded w) zero_state) → (c ≡ codes w) × (seen s ≡ pick (codes w) (decoded w) zero_state) → (b ≡ c) × (r ≡ s)
decode-one w {r = r} {s = s} p q = (p.0 ∙ sym q.0, seen_one r s (p.1 ∙ sym q.1))

pub encode_one : (s : State) (w : List ℕ) {a b : List ℕ}
    → a ≡ pick (eqb (length w) state_words) (coded (seen s)) w → b ≡ pick (eqb (length w) state_words) (coded (seen s)) w → a ≡ b
encode_one s w p q = p ∙ sym q

pub number-of-one : (answer : Answer) {r s : ℕ} → r ≡ number_of (says answer) → s ≡ number_of (says answer) → r ≡ s
number-of-one answer p q = p ∙ sym q

pub put-said-one : (answer : Answer) (t : Transfers) (w : List ℕ) {a b : List ℕ}
    → a ≡ pick (eqb (length w) answer_words) (said_coded (says answer) t) w → b ≡ pick (eqb (length w) answer_words) (said_coded (says answer) t) w → a ≡ b
put-said-one answer t w p q = p ∙ sym q

pub put-answer-one : (answer : Answer) (t : Transfers) (w : List ℕ) {a b : List ℕ}
    → a ≡ pick (eqb (length w) answer_words) (answer_coded (says answer) t w) w → b ≡ pick (eqb (length w) answer_words) (answer_coded (says answer) t w) w → a ≡ b
put-answer-one answer t w p q = p ∙ sym q
