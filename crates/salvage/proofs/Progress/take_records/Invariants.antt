-- `salvage::Progress::take_records` meets its contract: the first i records are taken.
use Prim.Native.Nat.{◌+◌, ◌≤◌}
use Rattle.damaged.specs.Taken.{take_records}
use Rattle.salvage.specs.Goes.{Goes}
use Rattle.salvage.proofs.Progress.take_records.Given as goal

abbrev pub invariant-loop-i : goal.invariant-loop-i
invariant-loop-i l =
    record {
      few : l.self.listed ≤ l.initial.self.listed + l.i;
      goes : Goes (λ t. take_records l.initial.self.n l.block.j l.block.bytes.now t l.i) l.initial.self l.initial.output l.initial.list l.self l.output l.list;
    }
