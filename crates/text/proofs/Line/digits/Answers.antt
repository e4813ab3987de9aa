-- `text::Line::digits` meets its contract: the digits stand in place of the bytes there.
use mathlib.Core.Path.{ap, refl, sym, ◌∙◌}
use native.Mathlib.Omega.{arith}
use lib.ListN.{length}
use Rattle.laws.proofs.Put.{splice-is}
use Rattle.wording.specs.Text.{digits}
use Rattle.wording.proofs.Numbers.{length_digits}
use Rattle.text.proofs.Writes.{length_mid}
use Rattle.text.proofs.Line.digits.Goals as goal

pub returns : goal.returns
returns c =
    let a = c.args in
    let s = a.self.now in
    let n = length_mid s.out.now s.at a.w (omega arith) in
    let e = c.put_digits.ensures ∙ ap (λ j. digits a.base j a.v) n in
    let l = length_digits a.base a.w a.v in
    (splice-is s.out.now s.at a.w (omega arith) e (ap length e ∙ l ∙ sym n), omega (arith, l), refl)
