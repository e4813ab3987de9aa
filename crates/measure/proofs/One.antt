-- Each promise of this crate allows one result for one input.
use mathlib.Core.Path.{◌≡◌, sym, ◌∙◌}
use Rattle.std.specs.Prelude.{Option}
use Rattle.output.specs.declared.Transfers.{Transfers}
use mathlib.Core.List.{List}
use Prim.Native.Nat.{ℕ}
use Rattle.measure.specs.declared.Pair.{Pair}
use Rattle.measure.specs.declared.Tally.{Tally}
use Rattle.measure.specs.Pair.{pair_of, one_pair, drift_of, differing}
use Rattle.measure.specs.Sheet.{no_tally, added}

pub compare-one : (recorded replayed : List ℕ) {r s : Pair} → r ≡ pair_of recorded replayed → s ≡ pair_of recorded replayed → r ≡ s
compare-one recorded replayed p q = p ∙ sym q

pub only-one-one : {r s : Pair} → r ≡ one_pair → s ≡ one_pair → r ≡ s
only-one-one p q = p ∙ sym q

pub drift-one : (pair : Pair) {r s : ℕ} → r ≡ drift_of pair → s ≡ drift_of pair → r ≡ s
drift-one pair p q = p ∙ sym q

pub other-transfers-one : (pair : Pair) {r s : Option (Transfers × Transfers)} → r ≡ differing pair → s ≡ differing pair → r ≡ s
other-transfers-one pair p q = p ∙ sym q

pub new-one : {r s : Tally} → r ≡ no_tally → s ≡ no_tally → r ≡ s
new-one p q = p ∙ sym q

pub add-one : (tally : Tally) (pair : Pair) {r s : Tally} → r ≡ added tally pair → s ≡ added tally pair → r ≡ s
add-one tally pair p q = p ∙ sym q
