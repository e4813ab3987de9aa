-- `salvage::salvage_length` meets its contract: the salvage, and its answer as one number.
use mathlib.Core.Path.{refl, ap, ◌∙◌}
use native.Mathlib.Omega.{arith}
use Rattle.std.specs.Prelude.{Ok, Err}
use Rattle.std.proofs.lemmas.Result.{err_from_is_err_and}
use Rattle.laws.proofs.Told.{number-some}
use Rattle.salvage.specs.Salvage.{Left, told, left, as_number}
use Rattle.salvage.proofs.Refusals.{length-no, length-is}
use Rattle.salvage.proofs.salvage_length.Goals as goal

pub returns-in_err-salvaged : goal.returns-in_err-salvaged
returns-in_err-salvaged c = let r = c.in_err-salvaged.field-0.0 in
    let e = c.in_err-salvaged.ensures in
    let p = err_from_is_err_and c.from_residual.result c.from_residual.ensures.1 in
    rw (p.1, p.2) (length-no (left (told (Err r)) c.salvage.new.output c.salvage.new.list) (λ z. omega (arith, number-some r)) ∙ ap as_number e, ap (λ (t : Left). t.answer.refusal) e)

pub returns : goal.returns
returns c = let e = c.in_ok-salvaged.ensures in
    (length-is (left (told (Ok c.in_ok-salvaged.salvaged)) c.salvage.new.output c.salvage.new.list) refl ∙ ap as_number e, ap (λ (t : Left). t.answer.refusal) e)
