-- The log of a run, kept call by call: what holds of the first calls of any history of events, and how one more event leaves it so.
use mathlib.Core.Path.{◌≡◌, refl, sym, ap, ◌∙◌, subst}
use mathlib.Core.Logic.{◌⊎◌, inl, inr, ⊎_elim}
use Prim.Native.Nat.{ℕ, zero, suc, ◌≤◌, ◌<◌}
use native.Mathlib.Omega.{arith}
use native.Mathlib.Decide.{ℕ_discrete}
use lib.Dec.{eqb}
use borrow.Author.Tests.{eq-eqb, ne_eqb}
use Rattle.tracker.specs.declared.Access.{Access}
use Rattle.laws.specs.Choice.{pick}
use Rattle.laws.proofs.Splice.{lt-or-ge}
use Rattle.demands.specs.Event.{Told, Event, TurnOf}
use Rattle.demands.specs.Row.{Row, after, told, row_at}
use Rattle.demands.specs.Demand2.{When, not_yet, at, Entry}

-- an event as the log needs it: without the turns
pub data Move : Type 0 where
  begins : (x : ℕ) (a : Access) → Move
  goes_on : (x : ℕ) → Move
  ends : (x : ℕ) (b : Told) → Move
  neither : Move

abbrev pub move_of : Event → Move
move_of (Event.begins x a) = begins x a
move_of (Event.goes_on x) = goes_on x
move_of (Event.ends x b turns) = ends x b
move_of Event.drained = neither
move_of Event.refused = neither

abbrev pub MoveOf : ℕ → Move → Type 0
MoveOf x (begins y a) = ⊥
MoveOf x (goes_on y) = y ≡ x
MoveOf x (ends y b) = y ≡ x
MoveOf x neither = ⊥

pub turn_is : (x : ℕ) (e : Event) → MoveOf x (move_of e) → TurnOf x e
turn_is x (Event.goes_on y) h = h
turn_is x (Event.ends y b turns) h = h
turn_is x (Event.begins y a) h = elim h [ ]
turn_is x Event.drained h = elim h [ ]
turn_is x Event.refused h = elim h [ ]

-- what is under way at a tracker: nothing; an access issued at call i, its moment to come; entry p of the log, its end to come, which will tell b
pub data Pending : Type 0 where
  none : Pending
  begun : (i : ℕ) (a : Access) → Pending
  past : (p : ℕ) (b : Told) → Pending

-- ended before call i
abbrev pub Before : When → ℕ → Type 0
Before not_yet i = ⊥
Before (at j) i = j < i

-- a row depends on the accesses before it
pub same_rows : (row : Row) (f g : ℕ → Access) (p : ℕ) → ((q : ℕ) → q < p → f q ≡ g q) → row_at row f p ≡ row_at row g p
unfolding row_at
same_rows row f g zero e = refl
same_rows row f g (suc p) e = rw (same_rows row f g p (λ q l. e q (omega arith)), e p (omega arith))

-- The history is `seen`; the first N calls of it are done, and the moments of the log are below M. Groups are below `limit`.
pub record Inv (seen : ℕ → Move) (limit : ℕ) (start : Row) (M N : ℕ) (row : Row) (pend : ℕ → Pending) (count : ℕ) (log : ℕ → Entry) : Type 0 where
  pub row_is : row ≡ row_at start (λ q. (log q).access) count
  pub small : (i x : ℕ) (a : Access) → i < N → seen i ≡ begins x a → a.group < limit
  pub issue-is : (p : ℕ) → p < count → seen (log p).issued ≡ begins (log p).tracker (log p).access
  pub issue-old : (p : ℕ) → p < count → (log p).issued < N
  pub soon : (p : ℕ) → p < count → (log p).issued < (log p).moment
  pub late : (p : ℕ) → p < count → (log p).moment < M
  pub turn_at : (p : ℕ) → p < count → MoveOf (log p).tracker (seen (log p).moment)
  pub rise : (p q : ℕ) → p < q → q < count → (log p).moment < (log q).moment
  pub end-late : (p j : ℕ) → p < count → (log p).ending ≡ at j → (log p).moment ≤ j
  pub end-old : (p j : ℕ) → p < count → (log p).ending ≡ at j → j < N
  pub end_is : (p j : ℕ) → p < count → (log p).ending ≡ at j → seen j ≡ ends (log p).tracker (told (row_at start (λ q. (log q).access) p) (log p).access)
  pub open_is : (p : ℕ) → p < count → (log p).ending ≡ not_yet → pend (log p).tracker ≡ past p (told (row_at start (λ q. (log q).access) p) (log p).access)
  pub past_is : (x p : ℕ) (b : Told) → pend x ≡ past p b
      → (p < count) × ((log p).tracker ≡ x) × ((log p).ending ≡ not_yet) × (told (row_at start (λ q. (log q).access) p) (log p).access ≡ b)
  pub begun-is : (x i : ℕ) (a : Access) → pend x ≡ begun i a → (i < N) × (seen i ≡ begins x a) × ((p : ℕ) → p < count → (log p).tracker ≡ x → Before (log p).ending i)
  pub issue-had : (i x : ℕ) (a : Access) → i < N → seen i ≡ begins x a → (pend x ≡ begun i a) ⊎ ((p : ℕ) × (p < count) × ((log p).issued ≡ i))
  pub end-had : (j x : ℕ) (a : Told) → j < N → seen j ≡ ends x a → (p : ℕ) × (p < count) × ((log p).ending ≡ at j)
  pub apart : (p q : ℕ) → p < q → q < count → (log p).tracker ≡ (log q).tracker → Before (log p).ending (log q).issued

-- events, and what is under way, of different kinds
pub not-begins : {x : ℕ} {a : Access} → ◌≡◌ {A = Move} neither (begins x a) → ⊥
not-begins {x} {a} e = let z : ◌≡◌ {A = ℕ} 0 1 = cc in omega arith

pub not-ends : {x : ℕ} {b : Told} → ◌≡◌ {A = Move} neither (ends x b) → ⊥
not-ends {x} {b} e = let z : ◌≡◌ {A = ℕ} 0 1 = cc in omega arith

pub goes-not-begins : {x y : ℕ} {a : Access} → ◌≡◌ {A = Move} (goes_on x) (begins y a) → ⊥
goes-not-begins {x} {y} {a} e = let z : ◌≡◌ {A = ℕ} 0 1 = cc in omega arith

pub goes-not-ends : {x y : ℕ} {b : Told} → ◌≡◌ {A = Move} (goes_on x) (ends y b) → ⊥
goes-not-ends {x} {y} {b} e = let z : ◌≡◌ {A = ℕ} 0 1 = cc in omega arith

begins-not-ends : {x y : ℕ} {a : Access} {b : Told} → ◌≡◌ {A = Move} (begins x a) (ends y b) → ⊥
begins-not-ends {x} {y} {a} {b} e = let z : ◌≡◌ {A = ℕ} 0 1 = cc in omega arith

pub none-not-begun : {i : ℕ} {a : Access} → ◌≡◌ {A = Pending} none (begun i a) → ⊥
none-not-begun {i} {a} e = let z : ◌≡◌ {A = ℕ} 0 1 = cc in omega arith

pub none-not-past : {p : ℕ} {b : Told} → ◌≡◌ {A = Pending} none (past p b) → ⊥
none-not-past {p} {b} e = let z : ◌≡◌ {A = ℕ} 0 1 = cc in omega arith

begun-not-past : {i p : ℕ} {a : Access} {b : Told} → ◌≡◌ {A = Pending} (begun i a) (past p b) → ⊥
begun-not-past {i} {p} {a} {b} e = let z : ◌≡◌ {A = ℕ} 0 1 = cc in omega arith

pub open-not-at : {j : ℕ} → ◌≡◌ {A = When} not_yet (at j) → ⊥
open-not-at {j} e = let z : ◌≡◌ {A = ℕ} 0 1 = cc in omega arith

pub same-tracker : {x y : ℕ} {a b : Access} → ◌≡◌ {A = Move} (begins x a) (begins y b) → x ≡ y
same-tracker {x} {y} {a} {b} e = cc

same-access : {x y : ℕ} {a b : Access} → ◌≡◌ {A = Move} (begins x a) (begins y b) → a ≡ b
same-access {x} {y} {a} {b} e = cc

pub same-ender : {x y : ℕ} {a b : Told} → ◌≡◌ {A = Move} (ends x a) (ends y b) → x ≡ y
same-ender {x} {y} {a} {b} e = cc

same-call : {i j : ℕ} → ◌≡◌ {A = When} (at i) (at j) → i ≡ j
same-call {i} {j} e = cc

earlier : (i n : ℕ) → i < suc n → (i < n) ⊎ (i ≡ n)
earlier i n l = ⊎_elim (λ (q : i < n). inl q) (λ (q : n ≤ i). inr (omega arith)) (lt-or-ge i n)

-- a tracker's access under way, changed
unfoldable pub put : (ℕ → Pending) → ℕ → Pending → ℕ → Pending
put f x u y = pick (eqb y x) u (f y)

pub put_same : (f : ℕ → Pending) (x : ℕ) (u : Pending) (y : ℕ) → y ≡ x → put f x u y ≡ u
unfolding put
put_same f x u y e = rw (eq-eqb y x e)

pub put_other : (f : ℕ → Pending) (x : ℕ) (u : Pending) (y : ℕ) → (y ≡ x → ⊥) → put f x u y ≡ f y
unfolding put
put_other f x u y e = rw (ne_eqb y x e)

same_number : {i j : ℕ} {a b : Access} → ◌≡◌ {A = Pending} (begun i a) (begun j b) → i ≡ j
same_number {i} {j} {a} {b} e = cc

same-named : {i j : ℕ} {a b : Access} → ◌≡◌ {A = Pending} (begun i a) (begun j b) → a ≡ b
same-named {i} {j} {a} {b} e = cc

pub same-entry : {p q : ℕ} {b c : Told} → ◌≡◌ {A = Pending} (past p b) (past q c) → p ≡ q
same-entry {p} {q} {b} {c} e = cc

-- the log with entry p ended at call n
abbrev pub shut : (ℕ → Entry) → (p n : ℕ) → ℕ → Entry
shut log p n q = record { tracker = (log q).tracker; access = (log q).access; issued = (log q).issued; moment = (log q).moment; ending = pick (eqb q p) (at n) (log q).ending }

shut-same : (log : ℕ → Entry) (p n q : ℕ) → q ≡ p → (shut log p n q).ending ≡ at n
shut-same log p n q e = rw (eq-eqb q p e)

pub shut-other : (log : ℕ → Entry) (p n q : ℕ) → (q ≡ p → ⊥) → (shut log p n q).ending ≡ (log q).ending
shut-other log p n q e = rw (ne_eqb q p e)

same-told : {p q : ℕ} {b c : Told} → ◌≡◌ {A = Pending} (past p b) (past q c) → b ≡ c
same-told {p} {q} {b} {c} e = cc

-- the log with one entry more
unfoldable pub more : (ℕ → Entry) → ℕ → Entry → ℕ → Entry
more log n e q = pick (eqb q n) e (log q)

pub more-new : (log : ℕ → Entry) (n : ℕ) (e : Entry) → more log n e n ≡ e
unfolding more
more-new log n e = rw (eq-eqb n n refl)

pub more-old : (log : ℕ → Entry) (n : ℕ) (e : Entry) (q : ℕ) → q < n → more log n e q ≡ log q
unfolding more
more-old log n e q l = rw (ne_eqb q n (λ d. absurd (omega arith)))

module _ (seen : ℕ → Move) (limit : ℕ) (start : Row) where
  -- a call that begins and ends nothing
  pub passes : {M N : ℕ} {row : Row} {pend : ℕ → Pending} {count : ℕ} {log : ℕ → Entry} → Inv seen limit start M N row pend count log → M ≤ suc N
      → ((x : ℕ) (a : Access) → seen N ≡ begins x a → ⊥) → ((x : ℕ) (b : Told) → seen N ≡ ends x b → ⊥)
      → Inv seen limit start (suc N) (suc N) row pend count log
  passes {M} {N} {row} {pend} {count} {log} v m nb ne = record {
    row_is = v.row_is;
    small = λ i x a l s. ⊎_elim (λ q. v.small i x a q s) (λ q. absurd (nb x a (ap seen (sym q) ∙ s))) (earlier i N l);
    issue-is = v.issue-is;
    issue-old = λ p l. omega (arith, v.issue-old p l);
    soon = v.soon;
    late = λ p l. omega (arith, v.late p l);
    turn_at = v.turn_at;
    rise = v.rise;
    end-late = v.end-late;
    end-old = λ p j l s. omega (arith, v.end-old p j l s);
    end_is = v.end_is;
    open_is = v.open_is;
    past_is = v.past_is;
    begun-is = λ x i a s. let z = v.begun-is x i a s in (omega (arith, z.0), z.1, z.2);
    issue-had = λ i x a l s. ⊎_elim (λ q. v.issue-had i x a q s) (λ q. absurd (nb x a (ap seen (sym q) ∙ s))) (earlier i N l);
    end-had = λ j x a l s. ⊎_elim (λ q. v.end-had j x a q s) (λ q. absurd (ne x a (ap seen (sym q) ∙ s))) (earlier j N l);
    apart = v.apart;
  }

  -- an access begins
  module _ {M N : ℕ} {row : Row} {pend : ℕ → Pending} {count : ℕ} {log : ℕ → Entry} (v : Inv seen limit start M N row pend count log) (m : M ≤ suc N)
      (x : ℕ) (a : Access) (e : seen N ≡ begins x a) (g : a.group < limit) (f : pend x ≡ none) where
    abbrev pend1 : ℕ → Pending
    pend1 = put pend x (begun N a)

    all-ended : (p : ℕ) → p < count → (log p).tracker ≡ x → (w : When) → (log p).ending ≡ w → Before w N
    all-ended p l t not_yet s = absurd (none-not-past (sym f ∙ ap pend (sym t) ∙ v.open_is p l s))
    all-ended p l t (at j) s = v.end-old p j l s

    past-1 : (y p : ℕ) (b : Told) → pend1 y ≡ past p b → pend y ≡ past p b
    past-1 y p b s = go (ℕ_discrete y x)
      where
        go : Dec (y ≡ x) → pend y ≡ past p b
        go (yes q) = absurd (begun-not-past (sym (put_same pend x (begun N a) y q) ∙ s))
        go (no q) = sym (put_other pend x (begun N a) y q) ∙ s

    begun-1 : (y i : ℕ) (a' : Access) → pend1 y ≡ begun i a' → (i < suc N) × (seen i ≡ begins y a') × ((p : ℕ) → p < count → (log p).tracker ≡ y → Before (log p).ending i)
    begun-1 y i a' s = go (ℕ_discrete y x)
      where
        go : Dec (y ≡ x) → (i < suc N) × (seen i ≡ begins y a') × ((p : ℕ) → p < count → (log p).tracker ≡ y → Before (log p).ending i)
        go (yes q) =
            let z : begun N a ≡ begun i a' = sym (put_same pend x (begun N a) y q) ∙ s in
            let zi : N ≡ i = same_number z in (
              omega arith,
              ap seen (sym zi) ∙ e ∙ ap (begins x) (same-named z) ∙ ap (λ (y' : ℕ). begins y' a') (sym q),
              λ p l t. subst (Before (log p).ending) zi (all-ended p l (t ∙ q) (log p).ending refl),
            )
        go (no q) = let z = v.begun-is y i a' (sym (put_other pend x (begun N a) y q) ∙ s) in (omega (arith, z.0), z.1, z.2)

    had-1 : (i y : ℕ) (a' : Access) → i < suc N → seen i ≡ begins y a' → (pend1 y ≡ begun i a') ⊎ ((p : ℕ) × (p < count) × ((log p).issued ≡ i))
    had-1 i y a' l s = ⊎_elim (λ q. ⊎_elim (λ z. inl (put_other pend x (begun N a) y (λ d. none-not-begun (sym f ∙ ap pend (sym d) ∙ z)) ∙ z)) inr (v.issue-had i y a' q s))
        (λ q. let z : begins x a ≡ begins y a' = sym e ∙ ap seen (sym q) ∙ s in
        inl (put_same pend x (begun N a) y (sym (same-tracker z)) ∙ ap (λ (b : Access). begun N b) (same-access z) ∙ ap (λ (k : ℕ). begun k a') (sym q))) (earlier i N l)

    pub begins-now : Inv seen limit start (suc N) (suc N) row pend1 count log
    begins-now = record {
      row_is = v.row_is;
      small = λ i y a' l s. ⊎_elim (λ q. v.small i y a' q s) (λ q. subst (λ (b : Access). b.group < limit) (same-access (sym e ∙ ap seen (sym q) ∙ s)) g) (earlier i N l);
      issue-is = v.issue-is;
      issue-old = λ p l. omega (arith, v.issue-old p l);
      soon = v.soon;
      late = λ p l. omega (arith, v.late p l);
      turn_at = v.turn_at;
      rise = v.rise;
      end-late = v.end-late;
      end-old = λ p j l s. omega (arith, v.end-old p j l s);
      end_is = v.end_is;
      open_is = λ p l s. let o = v.open_is p l s in put_other pend x (begun N a) (log p).tracker (λ q. none-not-past (sym f ∙ ap pend (sym q) ∙ o)) ∙ o;
      past_is = λ y p b s. v.past_is y p b (past-1 y p b s);
      begun-is = begun-1;
      issue-had = had-1;
      end-had = λ j y b l s. ⊎_elim (λ q. v.end-had j y b q s) (λ q. absurd (begins-not-ends (sym e ∙ ap seen (sym q) ∙ s))) (earlier j N l);
      apart = v.apart;
    }

  -- an access whose moment is behind it ends
  module _ {M N : ℕ} {row : Row} {pend : ℕ → Pending} {count : ℕ} {log : ℕ → Entry} (v : Inv seen limit start M N row pend count log) (m : M ≤ suc N)
      (x p : ℕ) (b : Told) (e : seen N ≡ ends x b) (f : pend x ≡ past p b) where
    abbrev pend2 : ℕ → Pending
    pend2 = put pend x none

    abbrev log2 : ℕ → Entry
    log2 = shut log p N

    here : (p < count) × ((log p).tracker ≡ x) × ((log p).ending ≡ not_yet) × (told (row_at start (λ q. (log q).access) p) (log p).access ≡ b)
    here = v.past_is x p b f

    past-2 : (y : ℕ) (u : Pending) → (none ≡ u → ⊥) → pend2 y ≡ u → (y ≡ x → ⊥) × (pend y ≡ u)
    past-2 y u n s = go (ℕ_discrete y x)
      where
        go : Dec (y ≡ x) → (y ≡ x → ⊥) × (pend y ≡ u)
        go (yes q) = absurd (n (sym (put_same pend x none y q) ∙ s))
        go (no q) = (q, sym (put_other pend x none y q) ∙ s)

    -- an entry of another tracker is another
    other : (q y : ℕ) → (log q).tracker ≡ y → (y ≡ x → ⊥) → q ≡ p → ⊥
    other q y t n d = n (sym t ∙ ap (λ (k : ℕ). (log k).tracker) d ∙ here.1)

    -- an ending of the new log is this one, or an old one
    ending-2 : (q j : ℕ) → (log2 q).ending ≡ at j → ((q ≡ p) × (j ≡ N)) ⊎ ((log q).ending ≡ at j)
    ending-2 q j s = go (ℕ_discrete q p)
      where
        go : Dec (q ≡ p) → ((q ≡ p) × (j ≡ N)) ⊎ ((log q).ending ≡ at j)
        go (yes d) = inl (d, same-call (sym s ∙ shut-same log p N q d))
        go (no d) = inr (sym (shut-other log p N q d) ∙ s)

    late-2 : (q j : ℕ) → q < count → (log2 q).ending ≡ at j → (log q).moment ≤ j
    late-2 q j l s = ⊎_elim (λ z. omega (arith, v.late q l, z.1)) (λ z. v.end-late q j l z) (ending-2 q j s)

    old-2 : (q j : ℕ) → q < count → (log2 q).ending ≡ at j → j < suc N
    old-2 q j l s = ⊎_elim (λ z. omega (arith, z.1)) (λ z. omega (arith, v.end-old q j l z)) (ending-2 q j s)

    is-2 : (q j : ℕ) → q < count → (log2 q).ending ≡ at j → seen j ≡ ends (log q).tracker (told (row_at start (λ r. (log r).access) q) (log q).access)
    is-2 q j l s = ⊎_elim (λ z. ap seen z.1 ∙ e ∙ ap (λ (y : ℕ). ends y b) (sym here.1) ∙ ap (ends (log p).tracker) (sym here.3)
        ∙ ap (λ (k : ℕ). ends (log k).tracker (told (row_at start (λ r. (log r).access) k) (log k).access)) (sym z.0)) (λ z. v.end_is q j l z) (ending-2 q j s)

    open-2 : (q : ℕ) → q < count → (log2 q).ending ≡ not_yet → pend2 (log q).tracker ≡ past q (told (row_at start (λ r. (log r).access) q) (log q).access)
    open-2 q l s = go (ℕ_discrete q p)
      where
        go : Dec (q ≡ p) → pend2 (log q).tracker ≡ past q (told (row_at start (λ r. (log r).access) q) (log q).access)
        go (yes d) = absurd (open-not-at (sym s ∙ shut-same log p N q d))
        go (no d) =
            let o = v.open_is q l (sym (shut-other log p N q d) ∙ s) in
            put_other pend x none (log q).tracker (λ t. d (same-entry (sym o ∙ ap pend t ∙ f))) ∙ o

    had-2 : (j y : ℕ) (b' : Told) → j < suc N → seen j ≡ ends y b' → (q : ℕ) × (q < count) × ((log2 q).ending ≡ at j)
    had-2 j y b' l s = ⊎_elim
        (λ q. let z = v.end-had j y b' q s in (z.0, z.1, shut-other log p N z.0 (λ d. open-not-at (sym here.2 ∙ ap (λ (k : ℕ). (log k).ending) (sym d) ∙ z.2)) ∙ z.2))
        (λ q. (p, here.0, shut-same log p N p refl ∙ ap at (sym q))) (earlier j N l)

    apart-2 : (q r : ℕ) → q < r → r < count → (log q).tracker ≡ (log r).tracker → Before (log2 q).ending (log r).issued
    apart-2 q r l k t = go (ℕ_discrete q p)
      where
        go : Dec (q ≡ p) → Before (log2 q).ending (log r).issued
        go (yes d) = absurd (subst (λ (w : When). Before w (log r).issued) (ap (λ (k : ℕ). (log k).ending) d ∙ here.2) (v.apart q r l k t))
        go (no d) = subst (λ (w : When). Before w (log r).issued) (sym (shut-other log p N q d)) (v.apart q r l k t)

    pub ends_now : Inv seen limit start (suc N) (suc N) row pend2 count log2
    ends_now = record {
      row_is = v.row_is;
      small = λ i y a l s. ⊎_elim (λ q. v.small i y a q s) (λ q. absurd (begins-not-ends (sym s ∙ ap seen q ∙ e))) (earlier i N l);
      issue-is = v.issue-is;
      issue-old = λ q l. omega (arith, v.issue-old q l);
      soon = v.soon;
      late = λ q l. omega (arith, v.late q l);
      turn_at = v.turn_at;
      rise = v.rise;
      end-late = late-2;
      end-old = old-2;
      end_is = is-2;
      open_is = open-2;
      past_is = λ y q b' s.
          let z = past-2 y (past q b') none-not-past s in
          let w = v.past_is y q b' z.1 in
          (w.0, w.1, shut-other log p N q (other q y w.1 z.0) ∙ w.2, w.3);
      begun-is = λ y i a s.
          let z = past-2 y (begun i a) none-not-begun s in
          let w = v.begun-is y i a z.1 in
          (omega (arith, w.0), w.1, λ q l t. subst (λ (u : When). Before u i) (sym (shut-other log p N q (other q y t z.0))) (w.2 q l t));
      issue-had = λ i y a l s. ⊎_elim
          (λ q. ⊎_elim (λ z. inl (put_other pend x none y (λ d. begun-not-past (sym z ∙ ap pend d ∙ f)) ∙ z)) inr (v.issue-had i y a q s))
          (λ q. absurd (begins-not-ends (sym s ∙ ap seen q ∙ e))) (earlier i N l);
      end-had = had-2;
      apart = apart-2;
    }

  -- an access takes effect: the log has one entry more
  module _ {N : ℕ} {row : Row} {pend : ℕ → Pending} {count : ℕ} {log : ℕ → Entry} (v : Inv seen limit start N N row pend count log)
      (x i : ℕ) (a : Access) (f : pend x ≡ begun i a) (st : MoveOf x (seen N)) where
    abbrev new : Entry
    new = record { tracker = x; access = a; issued = i; moment = N; ending = not_yet }

    abbrev log3 : ℕ → Entry
    log3 = more log count new

    abbrev b : Told
    b = told row a

    abbrev pend3 : ℕ → Pending
    pend3 = put pend x (past count b)

    abbrev rows : ℕ → Row
    rows p = row_at start (λ q. (log q).access) p

    abbrev rows3 : ℕ → Row
    rows3 p = row_at start (λ q. (log3 q).access) p

    rows-3 : (p : ℕ) → p ≤ count → rows p ≡ rows3 p
    rows-3 p l = same_rows start (λ q. (log q).access) (λ q. (log3 q).access) p (λ q k. ap (λ (z : Entry). z.access) (sym (more-old log count new q (omega arith))))

    -- what holds of an old entry and its row holds still; what holds of the new one
    old : (P : Entry → Row → Type 0) (p : ℕ) → p < count → P (log p) (rows p) → P (log3 p) (rows3 p)
    old P p l h = subst (λ (z : Entry). P z (rows3 p)) (sym (more-old log count new p l)) (subst (P (log p)) (rows-3 p (omega arith)) h)

    fresh : (P : Entry → Row → Type 0) → P new (rows count) → P (log3 count) (rows3 count)
    fresh P h = subst (λ (z : Entry). P z (rows3 count)) (sym (more-new log count new)) (subst (P new) (rows-3 count (omega arith)) h)

    each : (P : ℕ → Entry → Row → Type 0) → ((p : ℕ) → p < count → P p (log p) (rows p)) → P count new (rows count) → (p : ℕ) → p < suc count → P p (log3 p) (rows3 p)
    each P h k p l = ⊎_elim (λ q. old (P p) p q (h p q)) (λ q. subst (λ (r : ℕ). P r (log3 r) (rows3 r)) (sym q) (fresh (P count) k)) (earlier p count l)

    was : (i < N) × (seen i ≡ begins x a) × ((p : ℕ) → p < count → (log p).tracker ≡ x → Before (log p).ending i)
    was = v.begun-is x i a f

    row-3 : after row a ≡ row_at start (λ q. (log3 q).access) (suc count)
    unfolding row_at
    row-3 = ap (λ (r : Row). after r a) (v.row_is ∙ rows-3 count (omega arith)) ∙ ap (λ (z : Entry). after (rows3 count) z.access) (sym (more-new log count new))

    past-3 : (y p : ℕ) (c : Told) → pend3 y ≡ past p c → (p < suc count) × ((log3 p).tracker ≡ y) × ((log3 p).ending ≡ not_yet) × (told (rows3 p) (log3 p).access ≡ c)
    past-3 y p c s = go (ℕ_discrete y x)
      where
        go : Dec (y ≡ x) → (p < suc count) × ((log3 p).tracker ≡ y) × ((log3 p).ending ≡ not_yet) × (told (rows3 p) (log3 p).access ≡ c)
        go (yes q) =
            let z : past count b ≡ past p c = sym (put_same pend x (past count b) y q) ∙ s in
            let zp : count ≡ p = same-entry z in
            subst (λ (k : ℕ). (k < suc count) × ((log3 k).tracker ≡ y) × ((log3 k).ending ≡ not_yet) × (told (rows3 k) (log3 k).access ≡ c)) zp (
              omega arith,
              fresh (λ e r. e.tracker ≡ y) (sym q),
              fresh (λ e r. e.ending ≡ not_yet) refl,
              fresh (λ e r. told r e.access ≡ c) (ap (λ (r : Row). told r a) (sym v.row_is) ∙ same-told z),
            )
        go (no q) =
            let w = v.past_is y p c (sym (put_other pend x (past count b) y q) ∙ s) in
            (omega (arith, w.0), old (λ e r. e.tracker ≡ y) p w.0 w.1, old (λ e r. e.ending ≡ not_yet) p w.0 w.2, old (λ e r. told r e.access ≡ c) p w.0 w.3)

    begun-3 : (y j : ℕ) (c : Access) → pend3 y ≡ begun j c → (j < N) × (seen j ≡ begins y c) × ((p : ℕ) → p < suc count → (log3 p).tracker ≡ y → Before (log3 p).ending j)
    begun-3 y j c s = go (ℕ_discrete y x)
      where
        go : Dec (y ≡ x) → (j < N) × (seen j ≡ begins y c) × ((p : ℕ) → p < suc count → (log3 p).tracker ≡ y → Before (log3 p).ending j)
        go (yes q) = absurd (begun-not-past (sym s ∙ put_same pend x (past count b) y q))
        go (no q) =
            let w = v.begun-is y j c (sym (put_other pend x (past count b) y q) ∙ s) in
            (w.0, w.1, each (λ p e r. e.tracker ≡ y → Before e.ending j) w.2 (λ t. absurd (q (sym t))))

    had-3 : (j y : ℕ) (c : Access) → j < N → seen j ≡ begins y c → (pend3 y ≡ begun j c) ⊎ ((p : ℕ) × (p < suc count) × ((log3 p).issued ≡ j))
    had-3 j y c l s = ⊎_elim (λ z. go z (ℕ_discrete y x)) (λ z. inr (z.0, omega (arith, z.1), old (λ e r. e.issued ≡ j) z.0 z.1 z.2)) (v.issue-had j y c l s)
      where
        go : pend y ≡ begun j c → Dec (y ≡ x) → (pend3 y ≡ begun j c) ⊎ ((p : ℕ) × (p < suc count) × ((log3 p).issued ≡ j))
        go z (yes q) = inr (count, omega arith, fresh (λ e r. e.issued ≡ j) (same_number (sym f ∙ ap pend (sym q) ∙ z)))
        go z (no q) = inl (put_other pend x (past count b) y q ∙ z)

    pub takes-now : Inv seen limit start (suc N) N (after row a) pend3 (suc count) log3
    takes-now = record {
      row_is = row-3;
      small = v.small;
      issue-is = each (λ p e r. seen e.issued ≡ begins e.tracker e.access) v.issue-is was.1;
      issue-old = each (λ p e r. e.issued < N) v.issue-old was.0;
      soon = each (λ p e r. e.issued < e.moment) v.soon was.0;
      late = each (λ p e r. e.moment < suc N) (λ p l. omega (arith, v.late p l)) (omega arith);
      turn_at = each (λ p e r. MoveOf e.tracker (seen e.moment)) v.turn_at st;
      rise = λ p q l k. each (λ q e r. p < q → (log3 p).moment < e.moment)
          (λ q k l. old (λ e r. e.moment < (log q).moment) p (omega arith) (v.rise p q l k)) (λ l. old (λ e r. e.moment < N) p l (v.late p l)) q k l;
      end-late = λ p j l. each (λ p e r. e.ending ≡ at j → e.moment ≤ j) (λ p l. v.end-late p j l) (λ s. absurd (open-not-at s)) p l;
      end-old = λ p j l. each (λ p e r. e.ending ≡ at j → j < N) (λ p l. v.end-old p j l) (λ s. absurd (open-not-at s)) p l;
      end_is = λ p j l. each (λ p e r. e.ending ≡ at j → seen j ≡ ends e.tracker (told r e.access)) (λ p l. v.end_is p j l) (λ s. absurd (open-not-at s)) p l;
      open_is = each (λ p e r. e.ending ≡ not_yet → pend3 e.tracker ≡ past p (told r e.access))
          (λ p l s. let o = v.open_is p l s in put_other pend x (past count b) (log p).tracker (λ q. begun-not-past (sym f ∙ ap pend (sym q) ∙ o)) ∙ o)
          (λ s. put_same pend x (past count b) x refl ∙ ap (λ (r : Row). past count (told r a)) v.row_is);
      past_is = past-3;
      begun-is = begun-3;
      issue-had = had-3;
      end-had = λ j y c l s. let z = v.end-had j y c l s in (z.0, omega (arith, z.1), old (λ e r. e.ending ≡ at j) z.0 z.1 z.2);
      apart = λ p q l k. each (λ q e r. p < q → (log3 p).tracker ≡ e.tracker → Before (log3 p).ending e.issued)
          (λ q k l. old (λ e r. e.tracker ≡ (log q).tracker → Before e.ending (log q).issued) p (omega arith) (v.apart p q l k))
          (λ l. old (λ e r. e.tracker ≡ x → Before e.ending i) p l (was.2 p l)) q k l;
    }
