-- `restoring::restore` meets its contract, by a law for each refusal in its order.
use Rattle.std.proofs.Common.{sym, ◌∙◌, arith}
use Rattle.std.proofs.lemmas.Result.{err_from_is_err_and}
use Rattle.laws.proofs.Told.{number-some}
use Rattle.form.specs.Test.{form_of}
use Rattle.form.proofs.Rules.{accepted, accepted-fits}
use Rattle.restoring.proofs.Filling.{untested, unfit, filled_in}
use Rattle.restoring.proofs.restore.Goals as goal

pub returns-in_err-image_test : goal.returns-in_err-image_test
returns-in_err-image_test c = let a = c.args in
    let p = err_from_is_err_and c.from_residual.result c.from_residual.ensures.1 in
    let told = c.in_err-image_test.ensures in
    let r = untested a.image.now a.memory.now (λ e. omega (arith, told, e, number-some c.in_err-image_test.field-0.0)) in
    rw (p.1, p.2) (told ∙ r.0, r.1)

pub returns-then-memory-memory_length : goal.returns-then-memory-memory_length
returns-then-memory-memory_length c = let a = c.args in
    unfit a.image.now a.memory.now (sym c.in_ok-image_test.ensures) (λ e. c.if-memory-memory_length.true (cc (e)))

pub put_records-requires : goal.put_records-requires
put_records-requires c = let a = c.args in
    (c.if-memory-memory_length.false ∙ c.memory_length.ensures, c.recorded_in.ensures, omega (arith, c.recorded_in.ensures, accepted-fits (form_of a.image.now) a.image.now (accepted (form_of a.image.now) a.image.now (sym c.in_ok-image_test.ensures))))

pub returns : goal.returns
returns c = let a = c.args in
    let r = filled_in a.image.now a.memory.now (sym c.in_ok-image_test.ensures) (cc) in
    (r.0, cc r.1)
