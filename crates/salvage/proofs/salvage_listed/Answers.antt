-- `salvage::salvage_listed` meets its contract, by a law for each way out.
use mathlib.Core.Path.{◌≡◌, sym, ◌∙◌}
use native.Mathlib.Omega.{arith}
use Rattle.std.proofs.lemmas.Result.{err_from_is_err_and}
use Rattle.laws.specs.Refusal.{number, refusal}
use Rattle.laws.proofs.Told.{number-some}
use Rattle.salvage.specs.Salvage.{head_tests}
use Rattle.salvage.proofs.Refusals.{some, whole, listed-no, listed-is}
use Rattle.salvage.proofs.salvage_listed.Goals as goal

pub returns-in_err-test_head : goal.returns-in_err-test_head
returns-in_err-test_head c = let r = c.in_err-test_head.field-0.0 in
    let e = c.in_err-test_head.ensures in
    let p = err_from_is_err_and c.from_residual.result c.from_residual.ensures.1 in
    rw (p.1, p.2) (listed-no c.args.image.now (number r) e (λ z. omega (arith, number-some r)), e)

pub count-counted-requires : goal.count-counted-requires
count-counted-requires c = let m = c.args.image.now in
    let e : refusal (head_tests m) ≡ 0 = sym c.in_ok-test_head.ensures in
    (some m e, whole m e)

pub returns : goal.returns
returns c = let m = c.args.image.now in
    let e : refusal (head_tests m) ≡ 0 = sym c.in_ok-test_head.ensures in
    (c.count-counted.ensures.2 ∙ listed-is m e, sym e)
