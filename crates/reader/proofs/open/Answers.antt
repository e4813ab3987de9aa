-- `open` meets its contract: the reader has the image where the test refuses nothing; else there is none.
use Rattle.std.proofs.Common.{[], refl, sym, arith}
use Rattle.std.proofs.lemmas.Result.{err_from_is_err_and}
use Rattle.laws.proofs.Told.{number-some}
use Rattle.laws.proofs.Refusals.{unless-0, unless-no}
use Rattle.image.specs.Calls.{opened_image}
use Rattle.reader.proofs.open.Goals as goal

pub returns-in_err-image_test : goal.returns-in_err-image_test
unfolding opened_image
returns-in_err-image_test c =
    let p = err_from_is_err_and c.from_residual.result c.from_residual.ensures.1 in
    let told = c.in_err-image_test.ensures in
    rw (p.1, p.2) (sym (unless-no c.args.image.now (λ k. []) (omega (arith, told, number-some c.in_err-image_test.field-0.0))), refl, told)

pub returns : goal.returns
unfolding opened_image
returns c = (sym (unless-0 c.args.image.now (λ k. []) (sym c.in_ok-image_test.ensures)), refl, c.in_ok-image_test.ensures)
