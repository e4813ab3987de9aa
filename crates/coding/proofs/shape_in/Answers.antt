-- `shape_in` meets its contract, word by word.
use mathlib.Core.Path.{refl}
use Rattle.coding.specs.Words.{shape_in}
use Rattle.coding.proofs.Turns.{coding}
use native.Mathlib.Omega.{arith}
use Rattle.coding.proofs.shape_in.Goals as goal

pub bounds-words-0 : goal.bounds-words-0
bounds-words-0 c =
    let q = (coding c.args.words.now c.requires).size in omega arith

pub overflow_cast-result : goal.overflow_cast-result
overflow_cast-result c =
    omega (arith, (coding c.args.words.now c.requires).n)

pub bounds-words-1 : goal.bounds-words-1
bounds-words-1 c =
    let q = (coding c.args.words.now c.requires).size in omega arith

pub overflow_cast-result-2 : goal.overflow_cast-result-2
overflow_cast-result-2 c =
    omega (arith, (coding c.args.words.now c.requires).t)

pub bounds-words-2 : goal.bounds-words-2
bounds-words-2 c =
    let q = (coding c.args.words.now c.requires).size in omega arith

pub bounds-words-3 : goal.bounds-words-3
bounds-words-3 c =
    let q = (coding c.args.words.now c.requires).size in omega arith

pub returns : goal.returns
unfolding shape_in
returns c = refl
