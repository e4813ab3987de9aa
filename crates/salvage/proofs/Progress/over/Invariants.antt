-- `salvage::Progress::over` meets its contract: the blocks before block j are taken.
use mathlib.Core.Path.{◌≡◌}
use Prim.Native.Nat.{◌*◌, ◌-◌, ◌≤◌}
use Rattle.form.specs.Test.{leaves_in}
use Rattle.damaged.specs.Taken.{take_blocks}
use Rattle.salvage.specs.Goes.{Has}
use Rattle.salvage.proofs.Progress.over.Given as goal

abbrev pub invariant-loop-j : goal.invariant-loop-j
invariant-loop-j l =
    record {
      of : l.walk.n ≡ leaves_in l.image;
      few : l.walk.listed ≤ 7 * (l.j - 1);
      has : Has l.initial.output l.initial.list (take_blocks l.image (l.j - 1)) l.walk l.output l.list;
    }
