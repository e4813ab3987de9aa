-- `cleaned` meets its contract: a line that is changed is no free one.
use mathlib.Core.Path.{sym, ◌∙◌}
use Prim.Native.Nat.{◌-◌, ◌%◌}
use native.Mathlib.Omega.{arith}
use borrow.Author.Tests.{eqb-true}
use Rattle.line.specs.Word.{changed}
use Rattle.line.proofs.cleaned.Goals as goal

pub overflow_sub-result : goal.overflow_sub-result
unfolding changed
overflow_sub-result c = omega (arith, eqb-true ((c.args.w - 1) % 2) 1 (sym c.changed.ensures ∙ c.if-changed.true))
