-- Each promise of this crate allows one result for one input: the answer, and the lent bytes, equal a definition.
use mathlib.Core.Path.{◌≡◌}
use mathlib.Core.List.{List, ◌++◌}
use Prim.Native.Nat.{ℕ, ◌+◌, ◌*◌}
use lib.ListN.{length}
use Rattle.std.specs.Prelude.{Result}
use Rattle.geometry.proofs.One.{one}
use Rattle.laws.specs.declared.Refusal.{Refusal}
use Rattle.laws.proofs.Told.{answer-one}
use Rattle.laws.specs.Bytes.{put_w, bytes}
use Rattle.laws.specs.Refusal.{refused_with, given}
use Rattle.form.specs.Encode.{version2, headed, closed, blocks_for}
use Rattle.form.specs.Calls.{writing_refusal, writing_answer, written}

-- of writing an image: what is answered, what is refused, and what is left
pub write-image-one : (n : ℕ) (mem output : List ℕ) {x y : Result ℕ Refusal} {o p : List ℕ}
    → (given x ≡ writing_answer n mem (length output)) × (refused_with x ≡ writing_refusal n mem (length output)) × (o ≡ written n mem output)
    → (given y ≡ writing_answer n mem (length output)) × (refused_with y ≡ writing_refusal n mem (length output)) × (p ≡ written n mem output) → (x ≡ y) × (o ≡ p)
write-image-one n mem output {x = x} {y = y} a b = (answer-one x y (one a.0 b.0) (one a.1 b.1), one a.2 b.2)

pub length-for-one : (m : ℕ) {r s : ℕ} → r ≡ 512 * (1 + blocks_for m) → s ≡ 512 * (1 + blocks_for m) → r ≡ s
length-for-one m = one

pub put-record-one : (row : List ℕ) (at leaf : ℕ) (content : List ℕ) {r s : List ℕ} → r ≡ put_w 68 row at (bytes 4 leaf ++ content) → s ≡ put_w 68 row at (bytes 4 leaf ++ content) → r ≡ s
put-record-one row at leaf content = one

pub close-block-one : (row : List ℕ) (j c : ℕ) {r s : List ℕ} → r ≡ closed 65536 row j c → s ≡ closed 65536 row j c → r ≡ s
close-block-one row j c = one

pub put-head-one : (row : List ℕ) (n m : ℕ) {r s : List ℕ} → r ≡ headed version2 row n m → s ≡ headed version2 row n m → r ≡ s
put-head-one row n m = one
