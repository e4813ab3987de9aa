-- Each refusal by its law, in order; past each test what it says holds.
use mathlib.Core.Path.{sym, ◌∙◌}
use native.Mathlib.Omega.{arith}
use Rattle.geometry.proofs.Limits.{in_limits-most}
use Rattle.prediction.proofs.RunsOf.{is_run-within}
use Rattle.prediction.proofs.Refusals.{refused-1, refused-15, refused-2-tags, refused-2-bits, ready-0}
use Rattle.prediction.proofs.Runs.lent.Goals as goal
use Rattle.prediction.proofs.Runs.lent.Goals.{then-tags-block_place-via-then-tags-block_place, then-tags-block_place-via-else-tags-block_place+then-bits-bits_length}

pub returns-then-not-in_limits-clause-told : goal.returns-then-not-in_limits-clause-told
returns-then-not-in_limits-clause-told c = sym (refused-1 _ _ _ _ (sym c.if-not-in_limits.ensures))

pub returns-then-not-is_run-clause-told : goal.returns-then-not-is_run-clause-told
returns-then-not-is_run-clause-told c =
    sym (refused-15 _ _ _ _ (sym c.if-not-in_limits.ensures) (sym c.if-not-is_run.ensures))

pub overflow_cast-runs : goal.overflow_cast-runs
overflow_cast-runs c = omega (arith, in_limits-most 1 c.args.n (sym c.if-not-in_limits.ensures))

pub overflow_cast-runs-2 : goal.overflow_cast-runs-2
overflow_cast-runs-2 c = omega (arith, (is_run-within c.args.c (sym c.if-not-is_run.ensures)).1)

pub invariant_of-runs : goal.invariant_of-runs
invariant_of-runs c =
    let within = is_run-within c.args.c (sym c.if-not-is_run.ensures) in
    record { few = in_limits-most 1 c.args.n (sym c.if-not-in_limits.ensures); some = within.0; short = within.1 }

pub returns-then-tags-block_place-clause-told : goal.returns-then-tags-block_place-clause-told
returns-then-tags-block_place-clause-told c =
    let limits = sym c.if-not-in_limits.ensures in
    let run = sym c.if-not-is_run.ensures in
    elim c.then-tags-block_place.branch [
      | then-tags-block_place-via-then-tags-block_place w ↦
          sym (refused-2-tags _ _ _ _ limits run (λ q. w.if-tags-block_place.true (q ∙ sym c.block_place.ensures)))
      | then-tags-block_place-via-else-tags-block_place+then-bits-bits_length w ↦
          sym (refused-2-bits _ _ _ _ limits run (w.if-tags-block_place.false ∙ c.block_place.ensures) (λ q. w.if-bits-bits_length.true (q ∙ sym w.bits_length.ensures)))
    ]

pub returns-clause-told : goal.returns-clause-told
returns-clause-told c =
    sym (ready-0 _ _ _ _ (record {
      limits = sym c.if-not-in_limits.ensures;
      run = sym c.if-not-is_run.ensures;
      tags = c.if-tags-block_place.false ∙ c.block_place.ensures;
      bits = c.if-bits-bits_length.false ∙ c.bits_length.ensures;
    }))
