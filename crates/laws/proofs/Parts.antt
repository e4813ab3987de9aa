-- Parts of parts, what stands where in lists put together, and the numbers in them.
use mathlib.Core.Path.{◌≡◌, refl, ap, sym, ◌∙◌}
use mathlib.Core.List.{List, [], ◌++◌}
use mathlib.Core.Logic.{⊎_elim}
use Prim.Native.Nat.{ℕ, ◌+◌, ◌^◌, ◌≤◌, ◌<◌}
use native.Mathlib.Omega.{arith}
use lib.ListN.{length, take, drop, get_or, set, length-set, length-append, length-drop, get_or-eq_default}
use lib.Seq.{ext_get_or, get_or-set_other, take_all, take_at, drop_at, drop-append-le, drop-append-add, take-append-le, take-add, drop-drop}
use Rattle.laws.specs.Bytes.{part, value, bytes, number_at, Bytes}
use Rattle.laws.proofs.Splice.{lt-or-ge, get_d_part, length-part'}
use Rattle.laws.proofs.Value.{length-bytes, value-bytes, bytes-value, number_at-fits}

pub part-part : (m : List ℕ) (a n b w : ℕ) → a + n ≤ length m → b + w ≤ n → part (part m a n) b w ≡ part m (a + b) w
part-part m a n b w h g =
    let ln : length (part m a n) ≡ n = length-part' m a n h in
    let li : length (part (part m a n) b w) ≡ w = length-part' (part m a n) b w (omega arith) in
    let lo : length (part m (a + b) w) ≡ w = length-part' m (a + b) w (omega arith) in
    ext_get_or 0 (part (part m a n) b w) (part m (a + b) w) (li ∙ sym lo)
    (λ i s. let e : a + (b + i) ≡ a + b + i = omega arith in
    get_d_part (part m a n) b w i (omega arith) ∙ get_d_part m a n (b + i) (omega arith) ∙ ap (λ (x : ℕ). get_or m x 0) e ∙ sym (get_d_part m (a + b) w i (omega arith)))

pub number_at-part : (w : ℕ) (m : List ℕ) (a n b : ℕ) → a + n ≤ length m → b + w ≤ n → number_at w (part m a n) b ≡ number_at w m (a + b)
number_at-part w m a n b h g =
    let ln : length (part m a n) ≡ n = length-part' m a n h in
    number_at-fits w (part m a n) b (omega arith) ∙ ap value (part-part m a n b w h g) ∙ sym (number_at-fits w m (a + b) (omega arith))

-- the front of a list, however short that is
part-whole : (m : List ℕ) (n : ℕ) → length m ≤ n → part m 0 n ≡ m
unfolding part
part-whole m n h = take_all n m h

pub number_at-front : (w : ℕ) (m : List ℕ) (n b : ℕ) → b + w ≤ n → number_at w (part m 0 n) b ≡ number_at w m b
number_at-front w m n b g =
    ⊎_elim
    (λ (h : length m < n). ap (λ (l : List ℕ). number_at w l b) (part-whole m n (omega arith)))
    (λ (h : n ≤ length m). let e : 0 + b ≡ b = omega arith in number_at-part w m 0 n b (omega arith) g ∙ ap (number_at w m) e)
    (lt-or-ge (length m) n)

-- a piece of a list put together
pub piece : (l p b t : List ℕ) (a w : ℕ) → l ≡ p ++ (b ++ t) → length p ≡ a → length b ≡ w → part l a w ≡ b
unfolding part
piece l p b t a w e h g = rw (e, drop_at p (b ++ t) a h) (take_at b t w g)

pub part_left : (p t : List ℕ) (a w : ℕ) → a + w ≤ length p → part (p ++ t) a w ≡ part p a w
unfolding part
part_left p t a w h = rw (drop-append-le a p t (omega arith)) (take-append-le w (drop a p) t (omega (arith, length-drop a p)))

pub part_right : (p t : List ℕ) (b a w : ℕ) → length p ≡ b → part (p ++ t) (b + a) w ≡ part t a w
unfolding part
part_right p t b a w h = rw (← h, drop-append-add p t a)

pub part-all : (l : List ℕ) (w : ℕ) → length l ≡ w → part l 0 w ≡ l
part-all l w h = part-whole l w (omega arith)

pub part-front : (l : List ℕ) (w : ℕ) → part l 0 w ≡ take w l
unfolding part
part-front l w = refl

pub part_none : (l : List ℕ) (a : ℕ) → part l a 0 ≡ []
unfolding part
part_none l a = refl

pub part-add : (l : List ℕ) (a v w : ℕ) → part l a (v + w) ≡ part l a v ++ part l (a + v) w
unfolding part
part-add l a v w = take-add v w (drop a l) ∙ ap (λ (k : List ℕ). take v (drop a l) ++ take w k) (drop-drop v a l)

-- a number of the list put together
pub number : (l p t : List ℕ) (a w v : ℕ) → l ≡ p ++ (bytes w v ++ t) → length p ≡ a → v < 256 ^ w → number_at w l a ≡ v
number l p t a w v e h g =
    let lb : length (bytes w v) ≡ w = length-bytes w v in
    let ll : a + w ≤ length l = omega (arith, ap length e, length-append p (bytes w v ++ t), length-append (bytes w v) t) in
    number_at-fits w l a ll ∙ ap value (piece l p (bytes w v) t a w e h lb) ∙ value-bytes w v g

-- and back: the bytes of a number that was read
pub Bytes-part : (l : List ℕ) (a w : ℕ) → a + w ≤ length l → Bytes l → Bytes (part l a w)
unfolding Bytes
Bytes-part l a w h B i =
    ⊎_elim
    (λ (s : i < w). rw (get_d_part l a w i s) (B (a + i)))
    (λ (s : w ≤ i). rw (get_or-eq_default (part l a w) 0 {n = i} (omega (arith, length-part' l a w h))) (omega arith))
    (lt-or-ge i w)

pub number-back : (l : List ℕ) (a w v : ℕ) → Bytes l → a + w ≤ length l → number_at w l a ≡ v → part l a w ≡ bytes w v
number-back l a w v B h e =
    let lp : length (part l a w) ≡ w = length-part' l a w h in
    sym (bytes-value (part l a w) (Bytes-part l a w h B)) ∙ rw (lp, ← number_at-fits w l a h, e)

pub take_part : (l : List ℕ) (a w : ℕ) → take (a + w) l ≡ take a l ++ part l a w
unfolding part
take_part l a w = take-add a w l

-- a part before a store
pub part-set : (l : List ℕ) (a v c w : ℕ) → c + w ≤ a → c + w ≤ length l → part (set l a v) c w ≡ part l c w
part-set l a v c w h g =
    let lp : length (part (set l a v) c w) ≡ w = length-part' (set l a v) c w (omega (arith, length-set l a v)) in
    ext_get_or 0 (part (set l a v) c w) (part l c w) (lp ∙ sym (length-part' l c w g))
    (λ i s. get_d_part (set l a v) c w i (omega arith) ∙ get_or-set_other l a (c + i) v 0 (λ e. absurd (omega arith)) ∙ sym (get_d_part l c w i (omega arith)))
