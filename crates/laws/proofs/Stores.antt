-- Stores one after the other are one write; words read one by one are a part.
use mathlib.Core.Path.{◌≡◌, ap, ◌∙◌}
use mathlib.Core.List.{List, [], ◌∷◌}
use Prim.Native.Nat.{ℕ, zero, suc, ◌+◌, ◌≤◌, ◌<◌}
use native.Mathlib.Omega.{arith}
use lib.ListN.{length, get_or, set}
use lib.Seq.{drop-cons}
use Rattle.laws.specs.Bytes.{part, splice}
use Rattle.laws.proofs.Value.{splice-sets}
use Rattle.laws.proofs.Parts.{part_none}
use Rattle.laws.proofs.Writes.{splice-end}

-- four from the front
pub stores-4 : (w : List ℕ) (a b c d : ℕ) → 4 ≤ length w → set (set (set (set w 0 a) 1 b) 2 c) 3 d ≡ splice w 0 (a ∷ b ∷ c ∷ d ∷ [])
stores-4 w a b c d h = splice-sets (a ∷ b ∷ c ∷ d ∷ []) w 0 h

-- eight from `at` on
pub stores-8 : (w : List ℕ) (at a b c d e f g i : ℕ) → at + 8 ≤ length w
    → set (set (set (set (set (set (set (set w at a) (at + 1) b) (at + 2) c) (at + 3) d) (at + 4) e) (at + 5) f) (at + 6) g) (at + 7) i ≡ splice w at (a ∷ b ∷ c ∷ d ∷ e ∷ f ∷ g ∷ i ∷ [])
stores-8 w at a b c d e f g i h =
    let p1 : at + 1 ≡ suc at = omega arith in
    let p2 : at + 2 ≡ suc (suc at) = omega arith in
    let p3 : at + 3 ≡ suc (suc (suc at)) = omega arith in
    let p4 : at + 4 ≡ suc (suc (suc (suc at))) = omega arith in
    let p5 : at + 5 ≡ suc (suc (suc (suc (suc at)))) = omega arith in
    let p6 : at + 6 ≡ suc (suc (suc (suc (suc (suc at))))) = omega arith in
    let p7 : at + 7 ≡ suc (suc (suc (suc (suc (suc (suc at)))))) = omega arith in
    rw (p1, p2, p3, p4, p5, p6, p7) (splice-sets (a ∷ b ∷ c ∷ d ∷ e ∷ f ∷ g ∷ i ∷ []) w at h)

-- a write of all there is
pub splice_all : (w v : List ℕ) → length v ≡ length w → splice w 0 v ≡ v
splice_all w v e = splice-end w 0 v (omega arith)

-- n words from a on, one by one
abbrev listed : List ℕ → ℕ → ℕ → List ℕ
listed l a zero = []
listed l a (suc n) = get_or l a 0 ∷ listed l (suc a) n

part-more : (l : List ℕ) (a n : ℕ) → a < length l → part l a (suc n) ≡ get_or l a 0 ∷ part l (suc a) n
unfolding part
part-more l a n h = rw (drop-cons l a 0 h)

part-listed : (l : List ℕ) (a n : ℕ) → a + n ≤ length l → part l a n ≡ listed l a n
part-listed l a zero h = part_none l a
part-listed l a (suc n) h = part-more l a n (omega arith) ∙ ap (λ (t : List ℕ). get_or l a 0 ∷ t) (part-listed l (suc a) n (omega arith))

pub part-1 : (l : List ℕ) (a : ℕ) → a < length l → part l a 1 ≡ get_or l a 0 ∷ []
part-1 l a h = part-listed l a 1 (omega arith)

pub part-4 : (l : List ℕ) → 4 ≤ length l → part l 0 4 ≡ get_or l 0 0 ∷ get_or l 1 0 ∷ get_or l 2 0 ∷ get_or l 3 0 ∷ []
part-4 l h = part-listed l 0 4 h

pub part-8 : (l : List ℕ) (a : ℕ) → a + 8 ≤ length l
    → part l a 8 ≡ get_or l a 0 ∷ get_or l (a + 1) 0 ∷ get_or l (a + 2) 0 ∷ get_or l (a + 3) 0 ∷ get_or l (a + 4) 0 ∷ get_or l (a + 5) 0 ∷ get_or l (a + 6) 0 ∷ get_or l (a + 7) 0 ∷ []
part-8 l a h =
    let p1 : a + 1 ≡ suc a = omega arith in
    let p2 : a + 2 ≡ suc (suc a) = omega arith in
    let p3 : a + 3 ≡ suc (suc (suc a)) = omega arith in
    let p4 : a + 4 ≡ suc (suc (suc (suc a))) = omega arith in
    let p5 : a + 5 ≡ suc (suc (suc (suc (suc a)))) = omega arith in
    let p6 : a + 6 ≡ suc (suc (suc (suc (suc (suc a))))) = omega arith in
    let p7 : a + 7 ≡ suc (suc (suc (suc (suc (suc (suc a)))))) = omega arith in
    rw (p1, p2, p3, p4, p5, p6, p7) (part-listed l a 8 h)
