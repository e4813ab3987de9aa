-- `salvage::put_kept` meets its contract: the record, and its block closed where it is the seventh.
use mathlib.Core.Path.{ap, sym, ◌∙◌}
use mathlib.Core.List.{List}
use Prim.Native.Nat.{ℕ, ◌+◌, ◌/◌}
use Rattle.salvage.specs.Walk.{closed_at}
use Rattle.salvage.proofs.Walk.{record-mid, record-full}
use Rattle.salvage.proofs.put_kept.Goals as goal

pub returns-then-slot-eq6 : goal.returns-then-slot-eq6
returns-then-slot-eq6 c = c.close_at.ensures ∙ ap (λ (x : List ℕ). closed_at x (1 + c.args.p / 7) 7) c.put_record.ensures ∙ sym (record-full _ c.args.p _ c.if-slot-eq6.true)

pub returns-else-slot-eq6 : goal.returns-else-slot-eq6
returns-else-slot-eq6 c = c.put_record.ensures ∙ sym (record-mid _ c.args.p _ c.if-slot-eq6.false)
