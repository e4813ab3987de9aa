-- `writing::write_image` meets its contract, by a law for each refusal in its order.
use mathlib.Core.Path.{◌≡◌, sym, ◌∙◌}
use native.Mathlib.Omega.{arith}
use lib.ListN.{length}
use Rattle.geometry.specs.TagMemory.{memory_length}
use Rattle.geometry.proofs.Limits.{in_limits-most}
use Rattle.form.specs.Encode.{image_of}
use Rattle.form.proofs.Refusals.{length-image, refusal-1, refusal-2, refusal-3, refusal-9, refusal-none, refused, accepted}
use Rattle.writing.proofs.write_image.Goals as goal

pub returns-then-not-in_limits : goal.returns-then-not-in_limits
returns-then-not-in_limits c = let a = c.args in
    let e = refusal-1 a.n a.memory.now (length a.output.now) (sym c.in_limits.ensures ∙ c.if-not-in_limits.true) in
    let r = refused a.n a.memory.now a.output.now 0 e in
    (r.0, sym e, r.1)

pub overflow_cast-leaves : goal.overflow_cast-leaves
overflow_cast-leaves c = omega (arith, in_limits-most 1 _ (sym c.in_limits.ensures ∙ c.if-not-in_limits.false))

pub returns-then-memory-memory_length : goal.returns-then-memory-memory_length
returns-then-memory-memory_length c = let a = c.args in
    let e = refusal-2 a.n a.memory.now (length a.output.now) (sym c.in_limits.ensures ∙ c.if-not-in_limits.false) (λ e. c.if-memory-memory_length.true (e ∙ sym c.memory_length.ensures)) in
    let r = refused a.n a.memory.now a.output.now 1 e in
    (r.0, sym e, r.1)

pub returns-then-not-is_true : goal.returns-then-not-is_true
returns-then-not-is_true c = let a = c.args in
    let e = refusal-3 a.n a.memory.now (length a.output.now) (sym c.in_limits.ensures ∙ c.if-not-in_limits.false) (omega (arith, c.memory_length.ensures)) (sym c.is_true.ensures ∙ c.if-not-is_true.true) in
    let r = refused a.n a.memory.now a.output.now 2 e in
    (r.0, sym e, r.1)

pub count_marked-m-requires : goal.count_marked-m-requires
count_marked-m-requires c = (
  omega (arith, in_limits-most 1 _ (sym c.in_limits.ensures ∙ c.if-not-in_limits.false)),
  omega (arith, c.memory_length.ensures),
  sym c.is_true.ensures ∙ c.if-not-is_true.false,
)

pub returns-then-output-long : goal.returns-then-output-long
returns-then-output-long c = let a = c.args in
    let h = (sym c.in_limits.ensures ∙ c.if-not-in_limits.false) in
    let l : length a.memory.now ≡ memory_length a.n = (omega (arith, c.memory_length.ensures)) in
    let e = refusal-9 a.n a.memory.now (length a.output.now) h l (sym c.is_true.ensures ∙ c.if-not-is_true.false)
    (omega (arith, c.length_for-long.ensures, length-image a.n a.memory.now c.count_marked-m.result (omega arith) c.count_marked-m.ensures)) in
    let r = refused a.n a.memory.now a.output.now 8 e in
    (r.0, sym e, r.1)

pub invariant_of-source : goal.invariant_of-source
invariant_of-source c =
    record {
      limit = in_limits-most 1 _ (sym c.in_limits.ensures ∙ c.if-not-in_limits.false);
      sized = omega (arith, c.memory_length.ensures);
      counted = c.count_marked-m.ensures;
    }

pub returns : goal.returns
returns c = let a = c.args in
    let h = (sym c.in_limits.ensures ∙ c.if-not-in_limits.false) in
    let l : length a.memory.now ≡ memory_length a.n = (omega (arith, c.memory_length.ensures)) in
    let e : length (image_of a.n a.memory.now) ≡ c.length_for-long.result = length-image a.n a.memory.now c.count_marked-m.result (omega arith) c.count_marked-m.ensures ∙ sym c.length_for-long.ensures in
    let z = refusal-none a.n a.memory.now (length a.output.now) h l (sym c.is_true.ensures ∙ c.if-not-is_true.false) (omega arith) in
    let r = accepted a.n a.memory.now a.output.now c.length_for-long.result z (sym e) in
    (r.0, sym z, c.put_image.ensures ∙ r.1)
