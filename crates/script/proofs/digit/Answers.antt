-- `script::digit` meets its contract: a byte by the two ranges of digits.
use borrow.Author.Tests.{le-leb, lt-leb}
use native.Mathlib.Omega.{arith}
use Rattle.laws.specs.Choice.{both}
use Rattle.script.specs.Script.{digit_of}
use Rattle.script.proofs.digit.Goals as goal

pub returns-in-48-to-57 : goal.returns-in-48-to-57
unfolding digit_of both
returns-in-48-to-57 c =
    let b = c.args.b in
    simp (le-leb 48 b (omega arith), le-leb b 57 (omega arith)) (omega arith, omega arith)

pub returns-in-97-to-102 : goal.returns-in-97-to-102
unfolding digit_of both
returns-in-97-to-102 c =
    let b = c.args.b in
    simp (lt-leb b 57 (omega arith), le-leb 48 b (omega arith), le-leb 97 b (omega arith), le-leb b 102 (omega arith)) (omega arith, omega arith)

pub returns-in_default : goal.returns-in_default
unfolding digit_of both
returns-in_default c =
    let b = c.args.b in
    simp (lt-leb 48 b (omega arith), lt-leb 97 b (omega arith))

pub returns-in_default-2 : goal.returns-in_default-2
unfolding digit_of both
returns-in_default-2 c =
    let b = c.args.b in
    simp (le-leb 48 b (omega arith), lt-leb b 57 (omega arith), lt-leb 97 b (omega arith))

pub returns-in_default-3 : goal.returns-in_default-3
unfolding digit_of both
returns-in_default-3 c =
    let b = c.args.b in
    simp (le-leb 48 b (omega arith), lt-leb b 57 (omega arith), le-leb 97 b (omega arith), lt-leb b 102 (omega arith))
