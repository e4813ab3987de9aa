-- Lines that are whole, whatever claims them: no block has two lines, a line names a tracker exactly if this tracker keeps its block, and what a tracker asks for
-- is in a line. Each change of a line, or of what one tracker claims, keeps them so.
use mathlib.Core.Path.{◌≡◌, refl, sym, ap, ◌∙◌, subst}
use mathlib.Core.Bool.{Bool, true, false}
use mathlib.Core.List.{List}
use mathlib.Core.Logic.{◌⊎◌, inl, inr, ⊎_elim}
use Prim.Native.Nat.{ℕ, suc, ◌+◌, ◌-◌, ◌<◌, ◌≤◌}
use native.Mathlib.Omega.{arith}
use native.Mathlib.Decide.{ℕ_discrete}
use lib.ListN.{length, get_or, set, length-set}
use lib.Seq.{get_or-set_same, get_or-set_other}
use Rattle.laws.proofs.Choice.{not-both-ways, true-or-false}
use Rattle.laws.proofs.Splice.{lt-or-ge}
use Rattle.laws.proofs.Scan.{first_holds, first-before, first-is}
use Rattle.line.specs.Word.{used, block_of, holder, has}
use Rattle.line.specs.Find.{line_of}
use Rattle.line.proofs.Words.{has_block, has-used}
use Rattle.rules.proofs.Words.{used-has}

abbrev pub at : List ℕ → ℕ → ℕ
at lines i = get_or lines i 0

-- line i has block b
pub record Has (lines : List ℕ) (i b : ℕ) : Type 0 where
  pub is-used : used (at lines i) ≡ true
  pub is_block : block_of (at lines i) ≡ b

-- some line has block m and names tracker x
pub record Held (lines : List ℕ) (x m : ℕ) : Type 0 where
  pub line : ℕ
  pub has-it : Has lines line m
  pub is-holder : holder (at lines line) ≡ x + 1

-- the lines by themselves: those from l on are free, lined blocks exist (B blocks do) and no block has two lines
pub record Apart (B l : ℕ) (lines : List ℕ) : Type 0 where
  pub long : l ≤ length lines
  pub above : (i : ℕ) → l ≤ i → used (at lines i) ≡ false
  pub exists : (i b : ℕ) → Has lines i b → b < B
  pub one : (i j b : ℕ) → Has lines i b → Has lines j b → i ≡ j

-- what a tracker claims: the levels whose line it keeps, those that it asks to be in a line, and its block of each
pub record Claim : Type 0 where
  pub keeps : ℕ → Bool
  pub asks : ℕ → Bool
  pub block : ℕ → ℕ
  pub asks-keeps : (e : ℕ) → asks e ≡ true → keeps e ≡ true

-- block b is one that a tracker keeps: of a level from 1 to h
pub record Kept (h : ℕ) (a : Claim) (b : ℕ) : Type 0 where
  pub below : ℕ
  pub below-lt : below < h
  pub is-kept : a.keeps (suc below) ≡ true
  pub its-block : a.block (suc below) ≡ b

-- none of the t trackers keeps block b
abbrev pub Unkept : (t h : ℕ) → (ℕ → Claim) → ℕ → Type 0
Unkept t h c b = (x : ℕ) → x < t → Kept h (c x) b → ⊥

-- the lines and who claims them: t trackers, each at the levels 1 to h
pub record Lined (B l t h : ℕ) (c : ℕ → Claim) (lines : List ℕ) : Type 0 where
  pub apart : Apart B l lines
  pub named : (i b : ℕ) → Has lines i b → 0 < holder (at lines i) → (holder (at lines i) ≤ t) × Kept h (c (holder (at lines i) - 1)) b
  pub marked : (x e i : ℕ) → x < t → e < h → (c x).keeps (suc e) ≡ true → Has lines i ((c x).block (suc e)) → holder (at lines i) ≡ x + 1
  pub in-line : (x e : ℕ) → x < t → e < h → (c x).asks (suc e) ≡ true → Held lines x ((c x).block (suc e))

module _ {B l : ℕ} {lines : List ℕ} (a : Apart B l lines) where
  pub low : (i b : ℕ) → Has lines i b → i < l
  low i b h = ⊎_elim (λ q. q) (λ q. absurd (not-both-ways h.is-used (a.above i q))) (lt-or-ge i l)

  -- the line that has the block is the line that is found
  pub line_of-is : (i b : ℕ) → Has lines i b → line_of lines l b ≡ i
  unfolding line_of
  line_of-is i b h = first-is (λ j. has (at lines j) b) l i (low i b h) (used-has _ _ h.is-used h.is_block) (λ k q. none k q (true-or-false (has (at lines k) b)))
    where
      none : (k : ℕ) → k < i → (has (at lines k) b ≡ true) ⊎ (has (at lines k) b ≡ false) → has (at lines k) b ≡ false
      none k q o = ⊎_elim (λ p. absurd (let z : k ≡ i = a.one k i b (record { is-used = has-used _ _ p; is_block = has_block _ _ p }) h in omega arith)) (λ p. p) o

pub line_of-has : (lines : List ℕ) (l b : ℕ) → line_of lines l b < l → Has lines (line_of lines l b) b
unfolding line_of
line_of-has lines l b q =
    let h : has (at lines (line_of lines l b)) b ≡ true = first_holds (λ j. has (at lines j) b) l q in
    record { is-used = has-used _ _ h; is_block = has_block _ _ h }

pub line_of-none : (lines : List ℕ) (l b i : ℕ) → l ≤ line_of lines l b → i < l → Has lines i b → ⊥
unfolding line_of
line_of-none lines l b i q il h =
    not-both-ways (used-has _ _ h.is-used h.is_block) (first-before (λ j. has (at lines j) b) l i (omega arith))

-- The one change of a line: line i becomes w.
module _ {B l : ℕ} {lines : List ℕ} (a : Apart B l lines) (i w : ℕ) (il : i < l) where
  pub at_same : at (set lines i w) i ≡ w
  at_same = get_or-set_same lines i w 0 (omega (arith, a.long))

  pub at_other : (j : ℕ) → (j ≡ i → ⊥) → at (set lines i w) j ≡ at lines j
  at_other j n = get_or-set_other lines i j w 0 n

  -- a line of the new row is the changed one, or an old one
  pub new-or-old : (j b : ℕ) → Has (set lines i w) j b → ((j ≡ i) × (used w ≡ true) × (block_of w ≡ b)) ⊎ ((j ≡ i → ⊥) × Has lines j b)
  new-or-old j b h = go (ℕ_discrete j i)
    where
      go : Dec (j ≡ i) → ((j ≡ i) × (used w ≡ true) × (block_of w ≡ b)) ⊎ ((j ≡ i → ⊥) × Has lines j b)
      go (yes q) = let e : at (set lines i w) j ≡ w = rw q at_same in inl (q, ap used (sym e) ∙ h.is-used, ap block_of (sym e) ∙ h.is_block)
      go (no q) = inr (q, record { is-used = ap used (sym (at_other j q)) ∙ h.is-used; is_block = ap block_of (sym (at_other j q)) ∙ h.is_block })

  pub has_other : (j b : ℕ) → (j ≡ i → ⊥) → Has lines j b → Has (set lines i w) j b
  has_other j b n h = record { is-used = ap used (at_other j n) ∙ h.is-used; is_block = ap block_of (at_other j n) ∙ h.is_block }

  pub has_here : (b : ℕ) → used w ≡ true → block_of w ≡ b → Has (set lines i w) i b
  has_here b u e = record { is-used = ap used at_same ∙ u; is_block = ap block_of at_same ∙ e }

  pub held-other : (x m : ℕ) (h : Held lines x m) → (h.line ≡ i → ⊥) → Held (set lines i w) x m
  held-other x m h n = record { line = h.line; has-it = has_other h.line m n h.has-it; is-holder = ap holder (at_other h.line n) ∙ h.is-holder }

  pub holder-here : holder (at (set lines i w) i) ≡ holder w
  holder-here = ap holder at_same

  module _ (ex : used w ≡ true → block_of w < B) (alone : used w ≡ true → (j : ℕ) → (j ≡ i → ⊥) → Has lines j (block_of w) → ⊥) where
    pub set_apart : Apart B l (set lines i w)
    set_apart = record {
      long = rw (length-set lines i w) a.long;
      above = λ j q. ap used (at_other j (λ e. omega arith)) ∙ a.above j q;
      exists = λ j b h. ⊎_elim (λ c. rw (← c.2) (ex c.1)) (λ c. a.exists j b c.1) (new-or-old j b h);
      one = λ j k b h h'. both-cases j k b (new-or-old j b h) (new-or-old k b h');
    }
      where
        both-cases : (j k b : ℕ) → ((j ≡ i) × (used w ≡ true) × (block_of w ≡ b)) ⊎ ((j ≡ i → ⊥) × Has lines j b)
            → ((k ≡ i) × (used w ≡ true) × (block_of w ≡ b)) ⊎ ((k ≡ i → ⊥) × Has lines k b) → j ≡ k
        both-cases j k b (inl c) (inl d) = c.0 ∙ sym d.0
        both-cases j k b (inl c) (inr d) = absurd (alone c.1 k d.0 (rw c.2 d.1))
        both-cases j k b (inr c) (inl d) = absurd (alone d.1 j c.0 (rw d.2 c.1))
        both-cases j k b (inr c) (inr d) = a.one j k b c.1 d.1

-- at level e a tracker claims a' after a: it keeps the same block, and asks for no other
pub record Fewer (a a' : Claim) (e : ℕ) : Type 0 where
  pub keeps_same : a'.keeps e ≡ a.keeps e
  pub asks-fewer : a'.asks e ≡ true → a.asks e ≡ true
  pub block_same : a.keeps e ≡ true → a'.block e ≡ a.block e

pub unchanged : {a a' : Claim} → a' ≡ a → (e : ℕ) → Fewer a a' e
unchanged q e = record { keeps_same = ap (λ (d : Claim). d.keeps e) q; asks-fewer = λ h. ap (λ (d : Claim). d.asks e) (sym q) ∙ h; block_same = λ _. ap (λ (d : Claim). d.block e) q }

module _ {a a' : Claim} {e : ℕ} (f : Fewer a a' e) where
  pub kept_then : a'.keeps e ≡ true → a.keeps e ≡ true
  kept_then k = sym f.keeps_same ∙ k

  pub block-then : a'.keeps e ≡ true → a'.block e ≡ a.block e
  block-then k = f.block_same (kept_then k)

pub kept-now : {h b : ℕ} {a a' : Claim} (o : Kept h a b) → Fewer a a' (suc o.below) → Kept h a' b
kept-now o f = record { below = o.below; below-lt = o.below-lt; is-kept = f.keeps_same ∙ o.is-kept; its-block = f.block_same o.is-kept ∙ o.its-block }

module _ {B l t h : ℕ} {c : ℕ → Claim} {lines : List ℕ} (v : Lined B l t h c lines) where
  -- a block whose line names nobody is kept by nobody, and the other way round
  pub loose-unkept : (i b : ℕ) → Has lines i b → holder (at lines i) ≡ 0 → Unkept t h c b
  loose-unkept i b f z x xl o = let y = v.marked x o.below i xl o.below-lt o.is-kept (rw o.its-block f) in omega arith

  pub unkept-loose : (i b : ℕ) → Has lines i b → Unkept t h c b → holder (at lines i) ≡ 0
  unkept-loose i b f n = go (ℕ_discrete (holder (at lines i)) 0)
    where
      go : Dec (holder (at lines i) ≡ 0) → holder (at lines i) ≡ 0
      go (yes e) = e
      go (no e) = absurd (let r = v.named i b f (omega arith) in let y = r.0 in n (holder (at lines i) - 1) (omega arith) r.1)

  -- the trackers may claim otherwise
  pub fewer-lined : (c' : ℕ → Claim) → ((x e : ℕ) → e < h → Fewer (c x) (c' x) (suc e)) → Lined B l t h c' lines
  fewer-lined c' f = record {
    apart = v.apart;
    named = λ i b g p. let r = v.named i b g p in (r.0, kept-now r.1 (f _ r.1.below r.1.below-lt));
    marked = λ x e i xl el k g. v.marked x e i xl el (kept_then (f x e el) k) (subst (Has lines i) (block-then (f x e el) k) g);
    in-line = λ x e xl el k. subst (Held lines x) (sym (block-then (f x e el) ((c' x).asks-keeps (suc e) k))) (v.in-line x e xl el ((f x e el).asks-fewer k));
  }

  -- other lines may say the same of their blocks and holders
  pub alike-lined : (ls : List ℕ) → l ≤ length ls → ((i : ℕ) → (used (at ls i) ≡ used (at lines i)) × (block_of (at ls i) ≡ block_of (at lines i)) × (holder (at ls i) ≡ holder (at lines i)))
      → Lined B l t h c ls
  alike-lined ls q s = record {
    apart = record {
      long = q;
      above = λ i p. (s i).0 ∙ v.apart.above i p;
      exists = λ i b g. v.apart.exists i b (was i b g);
      one = λ i j b g g'. v.apart.one i j b (was i b g) (was j b g');
    };
    named = λ i b g p. subst (λ (y : ℕ). (y ≤ t) × Kept h (c (y - 1)) b) (sym (s i).2) (v.named i b (was i b g) (subst (λ (y : ℕ). 0 < y) (s i).2 p));
    marked = λ x e i xl el k g. (s i).2 ∙ v.marked x e i xl el k (was i _ g);
    in-line = λ x e xl el k. let f = v.in-line x e xl el k in
        record {
          line = f.line;
          has-it = record { is-used = (s f.line).0 ∙ f.has-it.is-used; is_block = (s f.line).1 ∙ f.has-it.is_block };
          is-holder = (s f.line).2 ∙ f.is-holder;
        };
  }
    where
      was : (i b : ℕ) → Has ls i b → Has lines i b
      was i b g = record { is-used = sym (s i).0 ∙ g.is-used; is_block = sym (s i).1 ∙ g.is_block }

  module _ (i w : ℕ) (il : i < l) where
    -- a line may be changed, or clean
    pub same-lined : used w ≡ used (at lines i) → block_of w ≡ block_of (at lines i) → holder w ≡ holder (at lines i) → Lined B l t h c (set lines i w)
    same-lined u b z = alike-lined (set lines i w) (rw (length-set lines i w) v.apart.long) (λ j. go j (ℕ_discrete j i))
      where
        go : (j : ℕ) → Dec (j ≡ i) → (used (at (set lines i w) j) ≡ used (at lines j)) × (block_of (at (set lines i w) j) ≡ block_of (at lines j)) × (holder (at (set lines i w) j) ≡ holder (at lines j))
        go j (yes q) = rw (q, at_same v.apart i w il) (u, b, z)
        go j (no q) = rw (at_other v.apart i w il j q) (refl, refl, refl)

    -- a line becomes one that names nobody, of a block that nobody keeps; nobody asks for the block that it had
    pub set-lined : holder w ≡ 0 → (used w ≡ true → block_of w < B) → (used w ≡ true → (j : ℕ) → (j ≡ i → ⊥) → Has lines j (block_of w) → ⊥)
        → (used w ≡ true → Unkept t h c (block_of w)) → ((x e : ℕ) → x < t → e < h → (c x).asks (suc e) ≡ true → Has lines i ((c x).block (suc e)) → ⊥)
        → Lined B l t h c (set lines i w)
    set-lined z ex alone unkept unasked = record {
      apart = set_apart v.apart i w il ex alone;
      named = λ j b g p. names j b p (new-or-old v.apart i w il j b g);
      marked = λ x e j xl el k g. marks x e j xl el k (new-or-old v.apart i w il j _ g);
      in-line = λ x e xl el k. let f = v.in-line x e xl el k in
          held-other v.apart i w il x _ f (λ q. unasked x e xl el k (subst (λ (j : ℕ). Has lines j ((c x).block (suc e))) q f.has-it));
    }
      where
        names : (j b : ℕ) → 0 < holder (at (set lines i w) j) → ((j ≡ i) × (used w ≡ true) × (block_of w ≡ b)) ⊎ ((j ≡ i → ⊥) × Has lines j b)
            → (holder (at (set lines i w) j) ≤ t) × Kept h (c (holder (at (set lines i w) j) - 1)) b
        names j b p (inl g) =
            let e : at (set lines i w) j ≡ w = rw g.0 (at_same v.apart i w il) in
            absurd (let y : 0 < holder w = subst (λ (k : ℕ). 0 < holder k) e p in omega arith)
        names j b p (inr g) =
            let e : at (set lines i w) j ≡ at lines j = at_other v.apart i w il j g.0 in
            rw e (v.named j b g.1 (subst (λ (k : ℕ). 0 < holder k) e p))

        marks : (x e j : ℕ) → x < t → e < h → (c x).keeps (suc e) ≡ true
            → ((j ≡ i) × (used w ≡ true) × (block_of w ≡ (c x).block (suc e))) ⊎ ((j ≡ i → ⊥) × Has lines j ((c x).block (suc e))) → holder (at (set lines i w) j) ≡ x + 1
        marks x e j xl el k (inl g) = absurd (unkept g.1 x xl (record { below = e; below-lt = el; is-kept = k; its-block = sym g.2 }))
        marks x e j xl el k (inr g) = ap holder (at_other v.apart i w il j g.0) ∙ v.marked x e j xl el k g.1

    -- a line that nobody holds is replaced by another that nobody holds
    pub loose-lined : holder (at lines i) ≡ 0 → holder w ≡ 0 → (used w ≡ true → block_of w < B)
        → (used w ≡ true → (j : ℕ) → (j ≡ i → ⊥) → Has lines j (block_of w) → ⊥) → (used w ≡ true → Unkept t h c (block_of w)) → Lined B l t h c (set lines i w)
    loose-lined z z' ex alone unkept =
        set-lined z' ex alone unkept (λ x e xl el k f. loose-unkept i _ f z x xl (record { below = e; below-lt = el; is-kept = (c x).asks-keeps (suc e) k; its-block = refl }))

    -- a line that nobody holds comes to name x, which comes to keep its block, that of level e + 1
    module _ (c' : ℕ → Claim) (x e b : ℕ) (xl : x < t) (el : e < h) (rest : (y k : ℕ) → k < h → (y ≡ x → k ≡ e → ⊥) → Fewer (c y) (c' y) (suc k))
        (now : (c' x).keeps (suc e) ≡ true) (its : (c' x).block (suc e) ≡ b) (was : (c x).keeps (suc e) ≡ false)
        (has-b : Has lines i b) (z : holder (at lines i) ≡ 0) (u : used w ≡ true) (wb : block_of w ≡ b) (wx : holder w ≡ x + 1) where
      free : Unkept t h c b
      free = loose-unkept i b has-b z

      new_apart : Apart B l (set lines i w)
      new_apart = set_apart v.apart i w il (λ _. rw wb (v.apart.exists i b has-b)) (λ _ j n f. n (v.apart.one j i b (rw wb at f) has-b))

      here : (j : ℕ) → j ≡ i → holder (at (set lines i w) j) ≡ x + 1
      here j q = rw q (holder-here v.apart i w il ∙ wx)

      pub held-lined : Lined B l t h c' (set lines i w)
      held-lined = record {
        apart = new_apart;
        named = λ j d g p. names j d p (new-or-old v.apart i w il j d g);
        marked = λ y k j yl kl q g. marks y k j yl kl q g (ℕ_discrete y x) (ℕ_discrete k e);
        in-line = λ y k yl kl q. lines-it y k yl kl q (ℕ_discrete y x) (ℕ_discrete k e);
      }
        where
          names : (j d : ℕ) → 0 < holder (at (set lines i w) j) → ((j ≡ i) × (used w ≡ true) × (block_of w ≡ d)) ⊎ ((j ≡ i → ⊥) × Has lines j d)
              → (holder (at (set lines i w) j) ≤ t) × Kept h (c' (holder (at (set lines i w) j) - 1)) d
          names j d p (inl g) =
              let y : holder (at (set lines i w) j) - 1 ≡ x = omega (arith, here j g.0) in
              (omega (arith, here j g.0), rw y (record { below = e; below-lt = el; is-kept = now; its-block = its ∙ sym wb ∙ g.2 }))
          names j d p (inr g) =
              let q : at (set lines i w) j ≡ at lines j = at_other v.apart i w il j g.0 in
              let r = v.named j d g.1 (subst (λ (k : ℕ). 0 < holder k) q p) in
              let o = r.1 in
              rw q (
                r.0,
                kept-now o (rest _ o.below o.below-lt (λ yx ke.
                    not-both-ways (ap (λ (y : ℕ). (c y).keeps (suc e)) (sym yx) ∙ ap (λ (k : ℕ). (c (holder (at lines j) - 1)).keeps (suc k)) (sym ke) ∙ o.is-kept) was)),
              )

          -- a claim that was
          old : (y k j : ℕ) → y < t → k < h → (c' y).keeps (suc k) ≡ true → Has (set lines i w) j ((c' y).block (suc k)) → (y ≡ x → k ≡ e → ⊥) → holder (at (set lines i w) j) ≡ y + 1
          old y k j yl kl q g n = go (new-or-old v.apart i w il j ((c' y).block (suc k)) g)
            where
              f : Fewer (c y) (c' y) (suc k)
              f = rest y k kl n

              go : ((j ≡ i) × (used w ≡ true) × (block_of w ≡ (c' y).block (suc k))) ⊎ ((j ≡ i → ⊥) × Has lines j ((c' y).block (suc k))) → holder (at (set lines i w) j) ≡ y + 1
              go (inl d) = absurd (free y yl (record { below = k; below-lt = kl; is-kept = kept_then f q; its-block = sym (block-then f q) ∙ sym d.2 ∙ wb }))
              go (inr d) = ap holder (at_other v.apart i w il j d.0) ∙ v.marked y k j yl kl (kept_then f q) (subst (Has lines j) (block-then f q) d.1)

          marks : (y k j : ℕ) → y < t → k < h → (c' y).keeps (suc k) ≡ true → Has (set lines i w) j ((c' y).block (suc k)) → Dec (y ≡ x) → Dec (k ≡ e) → holder (at (set lines i w) j) ≡ y + 1
          marks y k j yl kl q g (no n) d = old y k j yl kl q g (λ yx ke. n yx)
          marks y k j yl kl q g (yes yx) (no n) = old y k j yl kl q g (λ _ ke. n ke)
          marks y k j yl kl q g (yes yx) (yes ke) =
              let m : (c' y).block (suc k) ≡ b = ap (λ (d : ℕ). (c' y).block (suc d)) ke ∙ ap (λ (d : ℕ). (c' d).block (suc e)) yx ∙ its in
              here j (new_apart.one j i b (subst (Has (set lines i w) j) m g) (has_here v.apart i w il b u wb)) ∙ ap (λ (d : ℕ). d + 1) (sym yx)

          still : (y k : ℕ) → y < t → k < h → (c' y).asks (suc k) ≡ true → (y ≡ x → k ≡ e → ⊥) → Held (set lines i w) y ((c' y).block (suc k))
          still y k yl kl q n =
              let f = rest y k kl n in
              let o = v.in-line y k yl kl (f.asks-fewer q) in
              subst (Held (set lines i w) y) (sym (block-then f ((c' y).asks-keeps (suc k) q)))
              (held-other v.apart i w il y _ o (λ s. let r : holder (at lines i) ≡ y + 1 = rw (← s) o.is-holder in omega arith))

          lines-it : (y k : ℕ) → y < t → k < h → (c' y).asks (suc k) ≡ true → Dec (y ≡ x) → Dec (k ≡ e) → Held (set lines i w) y ((c' y).block (suc k))
          lines-it y k yl kl q (no n) d = still y k yl kl q (λ yx ke. n yx)
          lines-it y k yl kl q (yes yx) (no n) = still y k yl kl q (λ _ ke. n ke)
          lines-it y k yl kl q (yes yx) (yes ke) =
              let m : b ≡ (c' y).block (suc k) = sym its ∙ ap (λ (d : ℕ). (c' d).block (suc e)) (sym yx) ∙ ap (λ (d : ℕ). (c' y).block (suc d)) (sym ke) in
              record { line = i; has-it = has_here v.apart i w il _ u (wb ∙ m); is-holder = here i refl ∙ ap (λ (d : ℕ). d + 1) (sym yx) }
