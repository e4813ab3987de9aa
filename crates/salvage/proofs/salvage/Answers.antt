-- `salvage::salvage` meets its contract, by a law for each refusal in its order.
use mathlib.Core.Logic.{⊎_elim}
use mathlib.Core.Path.{◌≡◌, sym, ◌∙◌}
use native.Mathlib.Omega.{arith}
use lib.ListN.{length}
use Rattle.std.proofs.lemmas.Result.{err_from_is_err_and}
use Rattle.laws.specs.Refusal.{number, refusal}
use Rattle.laws.proofs.Told.{number-some}
use Rattle.salvage.specs.Salvage.{head_tests, new_image, left}
use Rattle.salvage.proofs.Refusals.{some, whole, length-new, head-refused, short-output, short-list, salvages}
use Rattle.salvage.proofs.salvage.Goals as goal

pub returns-in_err-test_head : goal.returns-in_err-test_head
returns-in_err-test_head c = let a = c.args in
    let r = c.in_err-test_head.field-0.0 in
    let p = err_from_is_err_and c.from_residual.result c.from_residual.ensures.1 in
    rw (p.1, p.2) (head-refused a.image.now a.output.now a.list.now (number r) c.in_err-test_head.ensures (λ z. omega (arith, number-some r)))

pub count-counted-requires : goal.count-counted-requires
count-counted-requires c = let m = c.args.image.now in
    let e : refusal (head_tests m) ≡ 0 = sym c.in_ok-test_head.ensures in
    (some m e, whole m e)

pub returns-then-output-long : goal.returns-then-output-long
returns-then-output-long c = let a = c.args in
    let m = a.image.now in
    let e : refusal (head_tests m) ≡ 0 = sym c.in_ok-test_head.ensures in
    ⊎_elim
    (λ h. short-output m a.output.now a.list.now e (omega (arith, length-new m e, c.count-counted.ensures.1, c.length_for-long.ensures)))
    (λ h. short-list m a.output.now a.list.now e (omega (arith, c.count-counted.ensures.2)))
    c.then-output-long.either

pub put_salvaged-requires : goal.put_salvaged-requires
put_salvaged-requires c = let m = c.args.image.now in
    let e : refusal (head_tests m) ≡ 0 = sym c.in_ok-test_head.ensures in
    (some m e, whole m e, c.count-counted.ensures.1, omega (arith, c.length_for-long.ensures), omega (arith, c.count-counted.ensures.2))

pub returns : goal.returns
returns c = let a = c.args in
    let m = a.image.now in
    let e : refusal (head_tests m) ≡ 0 = sym c.in_ok-test_head.ensures in
    let n = c.count-counted in
    let p = c.put_salvaged.ensures in
    let long : c.length_for-long.result ≡ length (new_image m) = omega (arith, length-new m e, n.ensures.1, c.length_for-long.ensures) in
    (λ i. left (record { refusal = 0; length = long i; listed = n.ensures.2 i }) (p.0 i) (p.1 i))
    ∙ sym (salvages m a.output.now a.list.now e (omega arith) (omega (arith, n.ensures.2)))
