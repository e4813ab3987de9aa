-- Each promise of this crate allows one result for one input: the answer, or the lent bytes, equal a definition.
use Rattle.std.proofs.Common.{◌≡◌, ℕ, Bool, List, sym, ◌∙◌}
use Rattle.laws.specs.Bytes.{put_w, bytes, number_at}
use Rattle.sums.specs.Check.{check_right, with_check, modulus_for}

pub two-at-one : (row : List ℕ) (at : ℕ) {r s : ℕ} → r ≡ number_at 2 row at → s ≡ number_at 2 row at → r ≡ s
two-at-one row at p q = p ∙ sym q

pub put-two-one : (row : List ℕ) (at v : ℕ) {r s : List ℕ} → r ≡ put_w 2 row at (bytes 2 v) → s ≡ put_w 2 row at (bytes 2 v) → r ≡ s
put-two-one row at v p q = p ∙ sym q

pub check-right-one : (version : ℕ) (block : List ℕ) {r s : Bool} → r ≡ check_right (modulus_for version) block → s ≡ check_right (modulus_for version) block → r ≡ s
check-right-one version block p q = p ∙ sym q

pub seal-one : (block : List ℕ) {r s : List ℕ} → r ≡ with_check 65536 block → s ≡ with_check 65536 block → r ≡ s
seal-one block p q = p ∙ sym q
