-- `drain` meets its contract: refused, or the rows are drained.
use mathlib.Core.Path.{◌≡◌, sym, ap, ◌∙◌}
use borrow.Author.Rules.{rules}
use lib.ListN.{length}
use Rattle.laws.proofs.Told.{number-some}
use Rattle.rules.specs.Calls as calls
use Rattle.cache.specs.Seen.{seen}
use Rattle.cache.proofs.Refusals.{drain-refused, drain-accepted}
use Rattle.cache.proofs.State.drain.Goals as goal

pub returns-in-Err : goal.returns-in-Err
returns-in-Err c =
    let a = c.args in
    c.refuse.ensures _ _ ∙ sym (drain-refused (seen a.self) a.bytes.now a.memory.now _ c.in-Err.ensures (number-some c.in-Err.r))

pub returns : goal.returns
returns c =
    let a = c.args in
    let long : length a.self.lines ≡ 64 = search (rules, c.well_formed.0) in
    let m = c.drain-transfers.new.memory in
    ap (λ (o : calls.Out). record { said = o.said; state = o.state; bytes = a.bytes.now; memory = m; transfers = c.drain-transfers.result }) (c.accept.ensures a.bytes.now m)
    ∙ drain-accepted (seen a.self) a.bytes.now a.memory.now (sym c.in_default.ensures) long c.drain-transfers.ensures
