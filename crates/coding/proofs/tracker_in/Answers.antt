-- `tracker_in` meets its contract: each word is as narrow as its field.
use mathlib.Core.Path.{refl}
use native.Mathlib.Omega.{arith}
use Rattle.coding.specs.Words.{tracker_in}
use Rattle.coding.proofs.Trackers.{coded-below}
use Rattle.coding.proofs.Turns.{narrow}
use Rattle.coding.proofs.tracker_in.Goals as goal

pub phase_of-requires : goal.phase_of-requires
phase_of-requires c =
    let a = c.args in
    coded-below _ (narrow a.words.now a.at c.requires.1).phase

pub overflow_cast-result : goal.overflow_cast-result
overflow_cast-result c = let a = c.args in omega (arith, (narrow a.words.now a.at c.requires.1).group)

pub overflow_cast-result-2 : goal.overflow_cast-result-2
overflow_cast-result-2 c = let a = c.args in omega (arith, (narrow a.words.now a.at c.requires.1).value)

pub overflow_cast-result-3 : goal.overflow_cast-result-3
overflow_cast-result-3 c = let a = c.args in omega (arith, (narrow a.words.now a.at c.requires.1).turns)

pub overflow_cast-result-4 : goal.overflow_cast-result-4
overflow_cast-result-4 c = let a = c.args in omega (arith, (narrow a.words.now a.at c.requires.1).fetched)

pub overflow_cast-result-5 : goal.overflow_cast-result-5
overflow_cast-result-5 c = let a = c.args in omega (arith, (narrow a.words.now a.at c.requires.1).back)

pub returns : goal.returns
unfolding tracker_in
returns c = rw c.phase_of.ensures refl
