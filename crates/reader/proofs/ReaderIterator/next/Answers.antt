-- A reader's `next` meets its contract: what stands at the place is told, and the place after it kept.
use Rattle.std.proofs.Common.{◌+◌, ◌≤◌, length, Some, refl, ◌∙◌, arith}
use Rattle.laws.proofs.Put.{part-is}
use Rattle.reader.specs.Read.{the_end, reading_of}
use Rattle.reader.proofs.Place.{content-room, content-is, moves-on}
use Rattle.reader.proofs.ReaderIterator.next.Goals as goal

pub returns-in_err-found-clause-steps : goal.returns-in_err-found-clause-steps
returns-in_err-found-clause-steps c =
    let r = c.args.self.now in
    rw c.from_residual.ensures (c.in_err-found.ensures, content-is r.image.now r.place (the_end r.place) c.in_err-found.ensures, refl)

pub overflow_add-content : goal.overflow_add-content
overflow_add-content c =
    let r = c.args.self.now in
    let h : c.in_ok-found.found.start + 64 ≤ length r.image.now = content-room r.image.now r.place (reading_of r.place (Some c.in_ok-found.found)) c.in_ok-found.ensures refl in
    omega (arith, h)

pub slice_bounds-content-end : goal.slice_bounds-content-end
slice_bounds-content-end c =
    let r = c.args.self.now in
    let h : c.in_ok-found.found.start + 64 ≤ length r.image.now = content-room r.image.now r.place (reading_of r.place (Some c.in_ok-found.found)) c.in_ok-found.ensures refl in
    omega (arith, h)

pub returns-clause-steps : goal.returns-clause-steps
returns-clause-steps c =
    let r = c.args.self.now in
    let e = c.in_ok-found.ensures in
    (e, part-is r.image.now c.in_ok-found.found.start 64 ∙ content-is r.image.now r.place (reading_of r.place (Some c.in_ok-found.found)) e, refl)

pub returns-clause-goes : goal.returns-clause-goes
returns-clause-goes c =
    let r = c.args.self.now in
    let m = moves-on r.image.now r.place (reading_of r.place (Some c.in_ok-found.found)) c.in_ok-found.ensures refl in
    record { on = λ _. (tt, tt, omega (arith, m)); keeps = tt; rests = λ _. tt }
