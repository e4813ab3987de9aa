-- `script::numeral` meets its contract: the bytes passed are digits, and v is what they spell.
use mathlib.Core.Path.{◌≡◌, sym, ◌∙◌, ap}
use mathlib.Core.Logic.{⊎_elim}
use Prim.Native.Nat.{◌<◌, ◌+◌, ◌*◌}
use native.Mathlib.Omega.{arith}
use lib.ListN.{length}
use Rattle.laws.proofs.Scan.{all-zero}
use Rattle.script.specs.Script.{spells}
use Rattle.script.proofs.Laws.{digit_at, spells-none, one_more, all_digits, has_room, short, long, strange, good, no_number, a-number}
use Rattle.script.proofs.numeral.Goals as goal

pub returns-then-field-least : goal.returns-then-field-least
returns-then-field-least c =
    no_number _ _ _ _ (⊎_elim (λ l. short _ _ _ _ l) (λ h. long _ _ _ _ h.1) c.then-field-least.either)

pub loop-b-init : goal.loop-b-init
loop-b-init c =
    let a = c.args in
    (sym (spells-none a.base a.field.now), all-zero (digit_at a.base a.field.now))

pub returns-in_err-d : goal.returns-in_err-d
returns-in_err-d c =
    rw c.from_residual.ensures (no_number _ _ _ _ (strange _ _ _ _ c.loop-b.b-index (omega arith) (omega (arith, c.in_err-d.ensures))))

pub returns-then-base-d : goal.returns-then-base-d
returns-then-base-d c =
    no_number _ _ _ _ (strange _ _ _ _ c.loop-b.b-index (omega arith) (omega (arith, c.in_ok-d.ensures.0)))

pub overflow_mul-v : goal.overflow_mul-v
overflow_mul-v c =
    let l = c.loop-b in
    let r : l.v * c.args.base + c.in_ok-d.d < 4294967296 = has_room c.args.base c.args.field.now l.b-index l.v _ l.invariant.0 c.in_ok-d.ensures.0 c.args.most 4294967296 c.requires.0 c.requires.2 (omega arith) l.invariant.1 (omega arith) in
    omega arith

pub overflow_add-v : goal.overflow_add-v
overflow_add-v c =
    let l = c.loop-b in
    let r : l.v * c.args.base + c.in_ok-d.d < 4294967296 = has_room c.args.base c.args.field.now l.b-index l.v _ l.invariant.0 c.in_ok-d.ensures.0 c.args.most 4294967296 c.requires.0 c.requires.2 (omega arith) l.invariant.1 (omega arith) in
    omega arith

pub loop-b-preserved : goal.loop-b-preserved
loop-b-preserved c =
    let a = c.args in
    let l = c.loop-b in (
      one_more a.base a.field.now l.b-index l.v _ l.invariant.0 c.in_ok-d.ensures.0,
      all_digits a.base a.field.now l.b-index l.v _ l.invariant.0 c.in_ok-d.ensures.0 l.invariant.1 (omega arith),
    )

pub returns : goal.returns
returns c =
    let a = c.args in
    let l = c.loop-b in
    let e : l.b-index ≡ length a.field.now = omega arith in
    a-number a.base a.least a.most a.field.now l.v
    (good _ _ _ _ (omega arith) (omega arith) (rw e at l.invariant.1))
    (l.invariant.0 ∙ ap (spells a.base a.field.now) e)
