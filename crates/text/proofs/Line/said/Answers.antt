-- `text::Line::said` meets its contract: each case's own pieces.
use native.Mathlib.Omega.{arith}
use Rattle.wording.proofs.Numbers.{length-decimal, places-8, places-16}
use Rattle.text.proofs.Lines.{says-ok, says-wait, says-moved, says-read, says-done, says_same, says-no, said_put, length-read}
use Rattle.text.proofs.Line.said.Goals as goal

pub read-requires : goal.read-requires
read-requires c =
    omega (arith, places-16 c.from-in-Read.result (omega arith))

pub counted-requires : goal.counted-requires
counted-requires c =
    omega (arith, places-16 c.from-in-Done.result (omega arith))

pub counted-requires-in-Same : goal.counted-requires-in-Same
counted-requires-in-Same c =
    omega (arith, places-16 c.from-in-Same.result (omega arith))

pub counted-requires-in-No : goal.counted-requires-in-No
counted-requires-in-No c =
    omega (arith, places-8 c.from-in-No.result (omega arith))

pub returns-in-Accepted : goal.returns-in-Accepted
returns-in-Accepted c =
    let a = c.args in
    said_put a.answer a.self.now c.put.new.self _ (says-ok a.answer c.in-Accepted.is) (omega arith) c.put.ensures

pub returns-in-Wait : goal.returns-in-Wait
returns-in-Wait c =
    let a = c.args in
    said_put a.answer a.self.now c.put-in-Wait.new.self _ (says-wait a.answer c.in-Wait.is) (omega arith) c.put-in-Wait.ensures

pub returns-in-Moved : goal.returns-in-Moved
returns-in-Moved c =
    let a = c.args in
    said_put a.answer a.self.now c.put-in-Moved.new.self _ (says-moved a.answer c.in-Moved.is) (omega arith) c.put-in-Moved.ensures

pub returns-in-Read : goal.returns-in-Read
returns-in-Read c =
    let a = c.args in
    let w = c.from-in-Read in
    let x = c.from in
    said_put a.answer a.self.now c.read.new.self _ (says-read a.answer x.result w.result _ _ c.in-Read.is x.ensures w.ensures) (omega (arith, length-read x.result w.result, places-16 w.result (omega arith))) c.read.ensures

pub returns-in-Done : goal.returns-in-Done
returns-in-Done c =
    let a = c.args in
    let w = c.from-in-Done in
    said_put a.answer a.self.now c.counted.new.self _ (says-done a.answer w.result _ c.in-Done.is w.ensures) (omega (arith, length-decimal w.result, places-16 w.result (omega arith))) c.counted.ensures

pub returns-in-Same : goal.returns-in-Same
returns-in-Same c =
    let a = c.args in
    let w = c.from-in-Same in
    said_put a.answer a.self.now c.counted-in-Same.new.self _ (says_same a.answer w.result _ c.in-Same.is w.ensures) (omega (arith, length-decimal w.result, places-16 w.result (omega arith))) c.counted-in-Same.ensures

pub returns-in-No : goal.returns-in-No
returns-in-No c =
    let a = c.args in
    let w = c.from-in-No in
    said_put a.answer a.self.now c.counted-in-No.new.self _ (says-no a.answer w.result _ c.in-No.is w.ensures) (omega (arith, length-decimal w.result, places-8 w.result (omega arith))) c.counted-in-No.ensures
