-- `output::digits` meets its contract: what is left to read from here gives the whole answer.
use Rattle.std.proofs.Common.{◌≡◌, ◌-◌, ◌∙◌, refl, length, arith}
use Rattle.output.proofs.Lines.{digits-stop, digits-go, digits-end}
use Rattle.output.proofs.digits.Goals as goal

pub returns-in_default : goal.returns-in_default
returns-in_default c = digits-stop _ _ _ refl _ _ c.in_default.ensures ∙ c.loop-i.invariant.2

pub loop-i-preserved : goal.loop-i-preserved
loop-i-preserved c =
    let e = c.in-Some.ensures in (
      omega arith,
      omega (arith, c.min-value.ensures),
      rw c.min-value.ensures
          (digits-go _ _ _ e.0 (length c.args.s.now - c.loop-i.i) _ _ (omega arith) (λ h. omega arith) ∙ c.loop-i.invariant.2),
    )

pub returns : goal.returns
returns c =
    let e : c.max.result ≡ c.loop-i.i = omega (arith, c.max.ensures) in
    rw e (digits-end _ _ _ _ (omega arith) ∙ c.loop-i.invariant.2)
