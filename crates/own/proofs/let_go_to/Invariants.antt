-- `let_go_to` meets its contract. The invariant: levels 1 to e are let go.
use mathlib.Core.Path.{◌≡◌}
use Rattle.rules.specs.Step.{let_go}
use Rattle.own.specs.Own.{line_on}
use Rattle.own.proofs.let_go_to.Given as goal

abbrev pub invariant-loop-e : goal.invariant-loop-e
invariant-loop-e l = l.lines ≡ let_go l.phase (line_on l.own) l.e l.initial.lines
