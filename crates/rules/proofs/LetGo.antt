-- Letting go: each line keeps its block, those that a tracker kept name nobody, and the tracker claims nothing.
use mathlib.Core.Path.{◌≡◌, refl, sym, ap, ◌∙◌, subst}
use mathlib.Core.Bool.{true, false}
use mathlib.Core.List.{List}
use mathlib.Core.Logic.{◌⊎◌, inl, inr, ⊎_elim}
use Prim.Native.Nat.{ℕ, zero, suc, ◌+◌, ◌-◌, ◌<◌, ◌≤◌}
use native.Mathlib.Nat.{eq-or-lt_of_le, le_of_suc-le-suc}
use native.Mathlib.Omega.{arith}
use native.Mathlib.Decide.{ℕ_discrete}
use lib.ListN.{length, set, length-set, get_or-eq_default}
use lib.Seq.{get_or-set_same, get_or-set_other}
use Rattle.laws.specs.Choice.{pick}
use Rattle.laws.proofs.Choice.{not-both-ways, true-or-false}
use Rattle.laws.proofs.Splice.{lt-or-ge}
use Rattle.tracker.specs.declared.Phase.{Phase}
use Rattle.tracker.specs.Tracker.{keeps_at}
use Rattle.line.specs.Word.{used, block_of, changed, holder, held, held_by, line_blocks}
use Rattle.line.specs.Find.{line_of}
use Rattle.line.proofs.Words.{free-held, not-used}
use Rattle.rules.specs.Step.{loosened, let_go}
use Rattle.rules.proofs.Words.{held-holder, loose-holder, held-used, block_of-held_by, changed-held_by, holder-held_by, used-held_by}
use Rattle.rules.proofs.Lined.{at, Has, Held, Apart, Claim, Kept, Lined, Fewer, kept-now, kept_then, block-then, line_of-is, line_of-has, at_same, at_other, new-or-old}
use Rattle.rules.proofs.Ways.{let_go-0, let_go-kept, let_go-not}

-- w' is w, or w with nobody named
pub record Alike (w w' : ℕ) : Type 0 where
  pub used-same : used w' ≡ used w
  pub block_same : block_of w' ≡ block_of w
  pub changed-same : changed w' ≡ changed w
  pub holder-or : (holder w' ≡ holder w) ⊎ (holder w' ≡ 0)

alike : (w : ℕ) → Alike w w
alike w = record { used-same = refl; block_same = refl; changed-same = refl; holder-or = inl refl }

alike_then : {u w w' : ℕ} → Alike u w → Alike w w' → Alike u w'
alike_then a b = record {
  used-same = b.used-same ∙ a.used-same;
  block_same = b.block_same ∙ a.block_same;
  changed-same = b.changed-same ∙ a.changed-same;
  holder-or = ⊎_elim (λ q. ⊎_elim (λ p. inl (q ∙ p)) (λ p. inr (q ∙ p)) a.holder-or) (λ q. inr q) b.holder-or;
}

-- one line loosened
abbrev loose : ℕ → ℕ
loose w = pick (held w) (held_by w 0) w

loose-alike : (w : ℕ) → block_of w < line_blocks → Alike w (loose w)
loose-alike w q = go (true-or-false (held w))
  where
    go : (held w ≡ true) ⊎ (held w ≡ false) → Alike w (loose w)
    go (inl h) = rw h (record {
      used-same = used-held_by w 0 q (omega arith) ∙ sym (held-used w (held-holder w h));
      block_same = block_of-held_by w 0 q (omega arith);
      changed-same = changed-held_by w 0 q (omega arith);
      holder-or = inr (holder-held_by w 0 q (omega arith));
    })
    go (inr h) = rw h (alike w)

loose-nobody : (w : ℕ) → block_of w < line_blocks → holder (loose w) ≡ 0
loose-nobody w q = ⊎_elim (λ h. rw h (holder-held_by w 0 q (omega arith))) (λ h. rw h (loose-holder w h)) (true-or-false (held w))

module _ (lines : List ℕ) (i : ℕ) where
  loosened-here : at (loosened lines i) i ≡ loose (at lines i)
  loosened-here = ⊎_elim (λ (q : i < length lines). get_or-set_same lines i (loose (at lines i)) 0 q) (λ q. past q) (lt-or-ge i (length lines))
    where
      past : length lines ≤ i → at (loosened lines i) i ≡ loose (at lines i)
      past q =
          let e : at lines i ≡ 0 = get_or-eq_default lines 0 q in
          get_or-eq_default (loosened lines i) 0 (rw (length-set lines i (loose (at lines i))) q) ∙ rw (e, free-held) refl

  loosened-other : (j : ℕ) → (j ≡ i → ⊥) → at (loosened lines i) j ≡ at lines j
  loosened-other j n = get_or-set_other lines i j (loose (at lines i)) 0 n

  loosened-alike : (j : ℕ) → block_of (at lines j) < line_blocks → Alike (at lines j) (at (loosened lines i) j)
  loosened-alike j q = go (ℕ_discrete j i)
    where
      go : Dec (j ≡ i) → Alike (at lines j) (at (loosened lines i) j)
      go (yes e) =
          let z : at (loosened lines i) j ≡ loose (at lines j) = subst (λ (k : ℕ). at (loosened lines i) k ≡ loose (at lines k)) (sym e) loosened-here in
          rw z (loose-alike (at lines j) q)
      go (no n) = rw (loosened-other j n) (alike (at lines j))

-- the lines once those of the kept levels 1 to e are loosened
module _ (p : Phase) (own : ℕ → ℕ) (lines : List ℕ) where
  pub let_go-length : (e : ℕ) → length (let_go p own e lines) ≡ length lines
  let_go-length zero = ap length (let_go-0 p own lines)
  let_go-length (suc e) =
      ⊎_elim (λ k. ap length (let_go-kept p own lines e k) ∙ length-set (let_go p own e lines) (own (suc e)) (loose (at (let_go p own e lines) (own (suc e)))) ∙ let_go-length e)
      (λ k. ap length (let_go-not p own lines e k) ∙ let_go-length e) (true-or-false (keeps_at p (suc e)))

  -- a line that is none of them stays
  pub let_go-other : (e j : ℕ) → ((k : ℕ) → k < e → keeps_at p (suc k) ≡ true → j ≡ own (suc k) → ⊥) → at (let_go p own e lines) j ≡ at lines j
  let_go-other zero j n = ap (λ (ls : List ℕ). at ls j) (let_go-0 p own lines)
  let_go-other (suc e) j n =
      let ih : at (let_go p own e lines) j ≡ at lines j = let_go-other e j (λ k l. n k (omega arith)) in
      ⊎_elim (λ k. ap (λ (ls : List ℕ). at ls j) (let_go-kept p own lines e k) ∙ loosened-other (let_go p own e lines) (own (suc e)) j (n e (omega arith) k) ∙ ih)
      (λ k. ap (λ (ls : List ℕ). at ls j) (let_go-not p own lines e k) ∙ ih) (true-or-false (keeps_at p (suc e)))

  module _ (fits : (j : ℕ) → block_of (at lines j) < line_blocks) where
    -- each line is as it was, or names nobody
    pub let_go-alike : (e j : ℕ) → Alike (at lines j) (at (let_go p own e lines) j)
    let_go-alike zero j = rw (let_go-0 p own lines) (alike (at lines j))
    let_go-alike (suc e) j =
        let ih : Alike (at lines j) (at (let_go p own e lines) j) = let_go-alike e j in
        ⊎_elim (λ k. rw (let_go-kept p own lines e k) (alike_then ih (loosened-alike (let_go p own e lines) (own (suc e)) j (rw ih.block_same (fits j)))))
        (λ k. rw (let_go-not p own lines e k) ih) (true-or-false (keeps_at p (suc e)))

    below : (e j : ℕ) → block_of (at (let_go p own e lines) j) < line_blocks
    below e j = rw (let_go-alike e j).block_same (fits j)

    -- and a line of a kept level names nobody
    pub let_go-nobody : (e k : ℕ) → k < e → keeps_at p (suc k) ≡ true → holder (at (let_go p own e lines) (own (suc k))) ≡ 0
    let_go-nobody zero k l h = absurd (omega arith)
    let_go-nobody (suc e) k l h = ⊎_elim (λ q. last q) (λ q. before (let_go-nobody e k q h)) (eq-or-lt_of_le (le_of_suc-le-suc l))
      where
        last : k ≡ e → holder (at (let_go p own (suc e) lines) (own (suc k))) ≡ 0
        last q = subst (λ (d : ℕ). holder (at (let_go p own (suc e) lines) (own (suc d))) ≡ 0) (sym q)
            (rw (let_go-kept p own lines e (subst (λ (d : ℕ). keeps_at p (suc d) ≡ true) q h), loosened-here (let_go p own e lines) (own (suc e))) (loose-nobody _ (below e (own (suc e)))))

        before : holder (at (let_go p own e lines) (own (suc k))) ≡ 0 → holder (at (let_go p own (suc e) lines) (own (suc k))) ≡ 0
        before z = ⊎_elim
            (λ q. rw (let_go-kept p own lines e q)
            (⊎_elim (λ y. y ∙ z) (λ y. y) (loosened-alike (let_go p own e lines) (own (suc e)) (own (suc k)) (below e (own (suc k)))).holder-or))
            (λ q. rw (let_go-not p own lines e q) z) (true-or-false (keeps_at p (suc e)))

-- block b has line i, or none, and line i has no other
pub record Its (lines : List ℕ) (i b : ℕ) : Type 0 where
  pub only : (j : ℕ) → Has lines j b → j ≡ i
  pub no_other : used (at lines i) ≡ true → block_of (at lines i) ≡ b

-- so has the line that is found for it
pub line_of-its : {B l : ℕ} {lines : List ℕ} → Apart B l lines → (b : ℕ) → Its lines (line_of lines l b) b
line_of-its {B} {l} {lines} a b = record {
  only = λ j h. sym (line_of-is a j b h);
  no_other = λ u. ⊎_elim (λ (q : line_of lines l b < l). (line_of-has lines l b q).is_block) (λ q. absurd (not-both-ways u (a.above _ q))) (lt-or-ge (line_of lines l b) l);
}

-- and keeps it where a line is made free, or has the block that it had
pub its-set : {B l : ℕ} {lines : List ℕ} → Apart B l lines → (i w : ℕ) → i < l → (used w ≡ true → Has lines i (block_of w)) → (k b : ℕ) → Its lines k b → Its (set lines i w) k b
its-set {B} {l} {lines} a i w il same k b its = record {
  only = λ j f. ⊎_elim (λ q. q.0 ∙ its.only i (subst (Has lines i) q.2 (same q.1))) (λ q. its.only j q.1) (new-or-old a i w il j b f);
  no_other = λ u. go u (ℕ_discrete k i);
}
  where
    go : used (at (set lines i w) k) ≡ true → Dec (k ≡ i) → block_of (at (set lines i w) k) ≡ b
    go u (yes q) =
        let e : at (set lines i w) k ≡ w = rw q (at_same a i w il) in
        let f : Has lines i (block_of w) = same (ap used (sym e) ∙ u) in
        ap block_of e ∙ sym f.is_block ∙ ap (λ (j : ℕ). block_of (at lines j)) (sym q) ∙ its.no_other (ap (λ (j : ℕ). used (at lines j)) q ∙ f.is-used)
    go u (no q) = let e = at_other a i w il k q in ap block_of e ∙ its.no_other (ap used (sym e) ∙ u)

free-block : block_of 0 ≡ 0
unfolding block_of
free-block = refl

pub blocks-fit : {B l : ℕ} {lines : List ℕ} → Apart B l lines → B < line_blocks → (j : ℕ) → block_of (at lines j) < line_blocks
blocks-fit {B} {l} {lines} a small j =
    ⊎_elim (λ u. omega (arith, a.exists j (block_of (at lines j)) (record { is-used = u; is_block = refl })))
    (λ u. let z : block_of (at lines j) ≡ 0 = ap block_of (not-used _ u) ∙ free-block in omega arith) (true-or-false (used (at lines j)))

-- tracker x lets go of its lines, and claims nothing; the others claim what they did
module _ {B l t h : ℕ} {c : ℕ → Claim} {lines : List ℕ} (v : Lined B l t h c lines) (small : B < line_blocks) (x : ℕ) (xl : x < t) (p : Phase) (own : ℕ → ℕ)
    (by-phase : (e : ℕ) → e < h → (c x).keeps (suc e) ≡ keeps_at p (suc e))
    (its : (e : ℕ) → e < h → (c x).keeps (suc e) ≡ true → Its lines (own (suc e)) ((c x).block (suc e)))
    (c' : ℕ → Claim) (rest : (y e : ℕ) → e < h → (y ≡ x → ⊥) → Fewer (c y) (c' y) (suc e)) (none : (e : ℕ) → e < h → (c' x).keeps (suc e) ≡ false) where
  abbrev after : List ℕ
  after = let_go p own h lines

  fits : (j : ℕ) → block_of (at lines j) < line_blocks
  fits = blocks-fit v.apart small

  as-was : (j b : ℕ) → Has after j b → Has lines j b
  as-was j b f = let a = let_go-alike p own lines fits h j in record { is-used = sym a.used-same ∙ f.is-used; is_block = sym a.block_same ∙ f.is_block }

  not-x : (y e : ℕ) → e < h → (c' y).keeps (suc e) ≡ true → y ≡ x → ⊥
  not-x y e el k q = not-both-ways k (subst (λ (z : ℕ). (c' z).keeps (suc e) ≡ false) (sym q) (none e el))

  -- a line that names another stays
  stays : (y j : ℕ) → (y ≡ x → ⊥) → holder (at lines j) ≡ y + 1 → at after j ≡ at lines j
  stays y j n z = let_go-other p own lines h j (λ e el k q.
      let kept : (c x).keeps (suc e) ≡ true = by-phase e el ∙ k in
      let u : used (at lines j) ≡ true = held-used (at lines j) (omega arith) in
      let b : block_of (at lines j) ≡ (c x).block (suc e) = subst (λ (d : ℕ). used (at lines d) ≡ true → block_of (at lines d) ≡ (c x).block (suc e)) (sym q) (its e el kept).no_other u in
      let m = v.marked x e j xl el kept (record { is-used = u; is_block = b }) in
      n (omega arith))

  pub let-go-lined : Lined B l t h c' after
  let-go-lined = record {
    apart = record {
      long = rw (let_go-length p own lines h) v.apart.long;
      above = λ j q. (let_go-alike p own lines fits h j).used-same ∙ v.apart.above j q;
      exists = λ j b f. v.apart.exists j b (as-was j b f);
      one = λ i j b f g. v.apart.one i j b (as-was i b f) (as-was j b g);
    };
    named = λ j b f q. names j b (as-was j b f) q (let_go-alike p own lines fits h j).holder-or;
    marked = λ y e j yl el k f.
        let n = not-x y e el k in
        let r = rest y e el n in
        let z = v.marked y e j yl el (kept_then r k) (subst (Has lines j) (block-then r k) (as-was j _ f)) in
        ap holder (stays y j n z) ∙ z;
    in-line = λ y e yl el k.
        let n = not-x y e el ((c' y).asks-keeps (suc e) k) in
        let r = rest y e el n in
        subst (Held after y) (sym (block-then r ((c' y).asks-keeps (suc e) k))) (still y _ n (v.in-line y e yl el (r.asks-fewer k)));
  }
    where
      names : (j b : ℕ) → Has lines j b → 0 < holder (at after j) → (holder (at after j) ≡ holder (at lines j)) ⊎ (holder (at after j) ≡ 0)
          → (holder (at after j) ≤ t) × Kept h (c' (holder (at after j) - 1)) b
      names j b f q (inr z) = absurd (omega arith)
      names j b f q (inl z) =
          let r = v.named j b f (omega arith) in
          let o = r.1 in
          rw z (r.0, kept-now o (rest _ o.below o.below-lt (λ yx. its_own o yx)))
        where
          its_own : Kept h (c (holder (at lines j) - 1)) b → holder (at lines j) - 1 ≡ x → ⊥
          its_own o yx =
              let k : (c x).keeps (suc o.below) ≡ true = subst (λ (y : ℕ). (c y).keeps (suc o.below) ≡ true) yx o.is-kept in
              let m : (c x).block (suc o.below) ≡ b = subst (λ (y : ℕ). (c y).block (suc o.below) ≡ b) yx o.its-block in
              let i : j ≡ own (suc o.below) = (its o.below o.below-lt k).only j (subst (Has lines j) (sym m) f) in
              let nobody = let_go-nobody p own lines fits h o.below o.below-lt (sym (by-phase o.below o.below-lt) ∙ k) in
              let zero-here : holder (at after j) ≡ 0 = subst (λ (d : ℕ). holder (at after d) ≡ 0) (sym i) nobody in
              omega arith

      still : (y m : ℕ) → (y ≡ x → ⊥) → Held lines y m → Held after y m
      still y m n f =
          let s = stays y f.line n f.is-holder in
          record {
            line = f.line;
            has-it = record { is-used = ap used s ∙ f.has-it.is-used; is_block = ap block_of s ∙ f.has-it.is_block };
            is-holder = ap holder s ∙ f.is-holder;
          }
