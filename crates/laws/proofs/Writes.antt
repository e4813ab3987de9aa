-- Writes one after the other: a write of nothing, a second write right after the first, stores beside one, and what then stands there; rows of one value.
use mathlib.Core.Path.{◌≡◌, refl, ap, sym, ◌∙◌}
use mathlib.Core.List.{List, [], ◌∷◌, ◌++◌, append_assoc, append-nil}
use Prim.Native.Nat.{ℕ, zero, suc, ◌+◌, ◌≤◌, ◌<◌}
use native.Mathlib.Numerals.{add-one}
use native.Mathlib.Nat.{add-zero}
use native.Mathlib.Omega.{arith}
use lib.ListN.{length, take, drop, get_or, set, replicate, take-append-drop, length-append, length-replicate, replicate-append-replicate}
use lib.Seq.{length-take-le, take_at, drop-drop, drop-append-add, drop-cons, drop-length, set_at, take-suc, append_snoc}
use Rattle.laws.specs.Bytes.{part, splice}
use Rattle.laws.proofs.Splice.{length-part'}
use Rattle.laws.proofs.Parts.{part-add}

pub splice-none : (l : List ℕ) (at : ℕ) → splice l at [] ≡ l
unfolding splice
splice-none l at = rw (add-zero) (take-append-drop at l)

-- a second write right after the first
pub splice-then : (l : List ℕ) (at : ℕ) (v w : List ℕ) (p : ℕ) → p ≡ at + length v → p ≤ length l → splice (splice l at v) p w ≡ splice l at (v ++ w)
unfolding splice
splice-then l at v w p e h =
    let t : length (take at l) ≡ at = length-take-le at l (omega arith) in
    let a : take at l ++ (v ++ drop (at + length v) l) ≡ (take at l ++ v) ++ drop (at + length v) l = sym (append_assoc (take at l) v (drop (at + length v) l)) in
    let tv : length (take at l ++ v) ≡ p = omega (arith, length-append (take at l) v) in
    let q : at + length v + length w ≡ at + length (v ++ w) = omega (arith, length-append v w) in
    let d : drop (p + length w) ((take at l ++ v) ++ drop (at + length v) l) ≡ drop (at + length (v ++ w)) l =
    ap (λ (k : ℕ). drop (k + length w) ((take at l ++ v) ++ drop (at + length v) l)) (sym tv) ∙ drop-append-add (take at l ++ v) (drop (at + length v) l) (length w)
    ∙ drop-drop (length w) (at + length v) l ∙ ap (λ (k : ℕ). drop k l) q in
    rw (a, d, take_at (take at l ++ v) (drop (at + length v) l) p tv) (simp append_assoc)

-- a byte before those that are there
pub splice-cons : (m : List ℕ) (p d : ℕ) (ds : List ℕ) → suc p + length ds ≤ length m → set (splice m (suc p) ds) p d ≡ splice m p (d ∷ ds)
unfolding splice
splice-cons m p d ds h =
    let l : p < length m = omega arith in
    let n : p + suc (length ds) ≡ suc p + length ds = omega arith in
    rw (take-suc m p 0 l, n, append_snoc (take p m) (get_or m p 0) (ds ++ drop (suc p + length ds) m))
    (set_at (take p m) (get_or m p 0) (ds ++ drop (suc p + length ds) m) d p (length-take-le p m (omega arith)))

-- one store right after a write
pub splice-set : (l : List ℕ) (at : ℕ) (v : List ℕ) (x k : ℕ) → k ≡ at + length v → k < length l → set (splice l at v) k x ≡ splice l at (v ++ (x ∷ []))
unfolding splice
splice-set l at v x k e h =
    let tv : length (take at l ++ v) ≡ k = omega (arith, length-append (take at l) v, length-take-le at l (omega arith)) in
    let q : at + length (v ++ (x ∷ [])) ≡ suc k = omega (arith, length-append v (x ∷ [])) in
    let a : take at l ++ (v ++ drop k l) ≡ (take at l ++ v) ++ (get_or l k 0 ∷ drop (suc k) l) = rw (← drop-cons l k 0 h) (sym (append_assoc (take at l) v (drop k l))) in
    rw (← e, a, set_at (take at l ++ v) (get_or l k 0) (drop (suc k) l) x k tv, q) (simp append_assoc)

-- a copy of n bytes of s, then of the w after them
pub splice-part-more : (d : List ℕ) (at : ℕ) (s : List ℕ) (from n w : ℕ) → at + n ≤ length d → from + n ≤ length s
    → splice (splice d at (part s from n)) (at + n) (part s (from + n) w) ≡ splice d at (part s from (n + w))
splice-part-more d at s from n w g h =
    let l : length (part s from n) ≡ n = length-part' s from n h in
    splice-then d at (part s from n) (part s (from + n) w) (at + n) (omega arith) g ∙ ap (splice d at) (sym (part-add s from n w))

-- a turn of a loop that copies, and of one that fills
pub splice-copy : (l : List ℕ) (at : ℕ) (s : List ℕ) (i : ℕ) → at + length s ≤ length l → i < length s → set (splice l at (take i s)) (at + i) (get_or s i 0) ≡ splice l at (take (i + 1) s)
splice-copy l at s i h hi =
    let t : length (take i s) ≡ i = length-take-le i s (omega arith) in
    rw (add-one i, take-suc s i 0 hi) (splice-set l at (take i s) (get_or s i 0) (at + i) (omega arith) (omega arith))

pub splice-fill : (l : List ℕ) (at z i : ℕ) → at + i < length l → set (splice l at (replicate i z)) (at + i) z ≡ splice l at (replicate (i + 1) z)
splice-fill l at z i h =
    let t : length (replicate i z) ≡ i = length-replicate i z in
    rw (← replicate-append-replicate i 1 z) (splice-set l at (replicate i z) z (at + i) (omega arith) (omega arith))

-- a write up to the end
pub splice-end : (l : List ℕ) (at : ℕ) (v : List ℕ) → at + length v ≡ length l → splice l at v ≡ take at l ++ v
unfolding splice
splice-end l at v e = rw (e, drop-length, append-nil)

-- what stands at the start, once it is written
pub take-splice : (l v : List ℕ) (n : ℕ) → length v ≡ n → take n (splice l 0 v) ≡ v
unfolding splice
take-splice l v n e = take_at v (drop (0 + length v) l) n e

pub get_d_replicate : {A : Type 0} (k i : ℕ) (a : A) → get_or (replicate k a) i a ≡ a
get_d_replicate zero i a = refl
get_d_replicate (suc k) zero a = refl
get_d_replicate (suc k) (suc i) a = get_d_replicate k i a
