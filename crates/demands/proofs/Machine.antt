-- The flat machine keeps the log: each of its calls is an event of the history.
use mathlib.Core.Path.{◌≡◌, refl, sym, ap, ◌∙◌, subst}
use mathlib.Core.Bool.{Bool, true, false}
use mathlib.Core.List.{List, [], ◌∷◌}
use mathlib.Core.Logic.{◌⊎◌, inl, inr}
use Prim.Native.Nat.{ℕ, zero, suc, ◌+◌, ◌≤◌, ◌<◌}
use native.Mathlib.Omega.{arith}
use native.Mathlib.Decide.{ℕ_discrete}
use lib.Dec.{eqb, ltb}
use lib.ListN.{length, set, length-set}
use lib.Seq.{get_or-set_same, get_or-set_other}
use borrow.Author.Tests.{ltb-true, not-true}
use Rattle.tracker.specs.declared.Access.{Access}
use Rattle.laws.proofs.Refusals.{refusal-hold, unless-by}
use Rattle.rules.specs.Calls.{issue_tests, step_tests}
use Rattle.laws.specs.Choice.{pick, both, implies, no as negated}
use Rattle.laws.proofs.Choice.{not-both-ways, pick-by}
use Rattle.geometry.specs.Shape.{below_top}
use Rattle.geometry.specs.TagMemory.{leaf_of, groups}
use Rattle.tracker.specs.declared.Phase.{Phase}
use Rattle.tracker.specs.declared.Phase.TheVariants.{Idle, Probe, Top, Under, Set, Clear}
use Rattle.tracker.specs.declared.Transfers.{Transfers}
use Rattle.tracker.specs.declared.Tracker.{Tracker}
use Rattle.tracker.specs.Tracker.{idle, is_idle, is_idle_at, at_finish, issued, first_phase, after_probe, at, counted}
use Rattle.tracker.proofs.Phases.{idle-unfinished}
use Rattle.tracker.specs.Answer.{Said}
use Rattle.rules.specs.State.{tracker_at, lengths_right}
use Rattle.rules.specs.Run.{Call, issues, steps, drains, lends}
use Rattle.flat.specs.Flat as flat
use Rattle.flat.specs.Flat.{tagged, changes_nothing, has_tag, others_have, Course, by_tags, course, course_of, says, row_by, tracker_by, effect_by, Flat, with_row, Unseen, Given, Reply, flat_issue, flat_step, flat_drain, flat_does, flat_answers, flat_ended}
use Rattle.demands.specs.Event.{Told, event, events, event_at}
use Rattle.demands.specs.Row.{Row, after, told}
use Rattle.demands.specs.Demand2.{Entry}
use Rattle.demands.proofs.Watch.{Watch, taken_by, closed_by, closed, watch_by, watched}
use Rattle.demands.proofs.Log.{Move, begins, goes_on, ends, neither, move_of, Pending, none, begun, past, Inv, not-begins, not-ends, goes-not-begins, goes-not-ends, put_same, put_other, passes, begins-now, ends_now, takes-now}

-- what a step says, as the log needs it
abbrev of_step : ℕ → Said → Move
of_step x a = move_of (event (steps x) a)

-- the tracker's access is the one that its issue named
pub record Named (t : Tracker) (a : Access) : Type 0 where
  pub write-is : t.write ≡ a.write
  pub group-is : t.group ≡ a.group
  pub value-is : t.value ≡ pick a.write a.value 0

after-by : (row : Row) (bottom : Bool) (g v : ℕ) (w : Bool) → pick w (flat.put row g (pick w v 0)) row ≡ after row (record { write = w; bottom = bottom; group = g; value = v })
unfolding both
after-by row bottom g v true = refl
after-by row bottom g v false = refl

after_is : (row : Row) (t : Tracker) (a : Access) → Named t a → flat.after row t ≡ after row a
after_is row t a m = rw (m.write-is, m.group-is, m.value-is) (after-by row a.bottom a.group a.value a.write)

told-pick : (x k : ℕ) (e : Bool) → of_step x (pick e (Said.same k) (Said.done k)) ≡ ends x (pick e Told.same Told.done)
told-pick x k true = refl
told-pick x k false = refl

told-by : (x k r v : ℕ) (w : Bool) → of_step x (pick w (pick (eqb r (pick w v 0)) (Said.same k) (Said.done k)) (Said.read r k)) ≡ ends x (pick w (pick (eqb r v) Told.same Told.done) (Told.read r))
told-by x k r v true = told-pick x k (eqb r v)
told-by x k r v false = refl

told_is : (x : ℕ) (row : Row) (t : Tracker) (a : Access) → Named t a → of_step x (flat.answer row t) ≡ ends x (told row a)
told_is x row t a m = rw (m.write-is, m.group-is, m.value-is) (told-by x _ (row a.group) a.value a.write)

done-pick : (e : Bool) → e ≡ false → pick e Told.same Told.done ≡ Told.done
done-pick e q = rw q

done-by : (r v : ℕ) (w : Bool) → implies w (eqb r (pick w v 0)) ≡ false → pick w (pick (eqb r v) Told.same Told.done) (Told.read r) ≡ Told.done
unfolding implies
done-by r v true h = done-pick (eqb r v) h
done-by r v false h = absurd (not-both-ways refl h)

done-is : (row : Row) (t : Tracker) (a : Access) → Named t a → changes_nothing row t ≡ false → told row a ≡ Told.done
done-is row t a m h = done-by (row a.group) a.value a.write (rw (m.write-is, m.group-is, m.value-is) at h)

-- its moment is to come; it is at Finish
abbrev ToCome : Phase → Type 0
ToCome p = (is_idle_at p ≡ false) × (at_finish p ≡ false)

abbrev Finish : Phase → Type 0
Finish p = at_finish p ≡ true

-- where a step may go, from a phase
abbrev Sound : Row → Tracker → Phase → Course → Type 0
Sound row t p Course.waits = ToCome p
Sound row t p (Course.goes q) = (ToCome p × ToCome q) ⊎ (Finish p × Finish q)
Sound row t p Course.ends = ToCome p
Sound row t p (Course.takes q) = ToCome p × Finish q × (changes_nothing row t ≡ false)
Sound row t p Course.finishes = Finish p

probed-to-come : (top d : ℕ) → ToCome (after_probe top d)
probed-to-come top d = pick-by ToCome (ltb (suc d) top) (λ _. (refl, refl)) (λ _. (refl, refl))

sound : (below : ℕ) (row : Row) (found : ℕ → Bool) (held : Bool) (t : Tracker) (p : Phase) → is_idle_at p ≡ false → Sound row t p (course below row found held t p)
sound below row found held t Idle b = absurd (not-both-ways refl b)
sound below row found held t (Probe zero) b =
    pick-by (Sound row t (Probe 0)) (both (found 0) (changes_nothing row t)) (λ _. (refl, refl)) (λ _. inl ((refl, refl), probed-to-come (suc below) 0))
sound below row found held t (Probe (suc e)) b =
    pick-by (Sound row t (Probe (suc e))) (both (both (found (suc e)) (negated held)) (both (negated (has_tag row t e)) (changes_nothing row t))) (λ _. (refl, refl))
    (λ _. inl ((refl, refl), probed-to-come (suc below) (suc e)))
sound below row found held t Top b = pick-by (Sound row t Top) held (λ _. (refl, refl))
    (λ _. pick-by (Sound row t Top) (both (negated (has_tag row t below)) (changes_nothing row t)) (λ _. (refl, refl)) (λ _. inl ((refl, refl), (refl, refl))))
sound below row found held t (Under zero) b = pick-by (Sound row t (Under 0)) (changes_nothing row t) (λ _. (refl, refl)) (λ c. tags c (tagged row (leaf_of t.group)) (tagged (flat.after row t) (leaf_of t.group)))
  where
    tags : changes_nothing row t ≡ false → (a b : Bool) → Sound row t (Under 0) (by_tags a b)
    tags c true true = (refl, refl)
    tags c true false = ((refl, refl), refl, c)
    tags c false b = ((refl, refl), refl, c)
sound below row found held t (Under (suc e)) b =
    pick-by (Sound row t (Under (suc e))) (both (negated (has_tag row t e)) (changes_nothing row t)) (λ _. (refl, refl)) (λ _. inl ((refl, refl), (refl, refl)))
sound below row found held t (Set d) b = pick-by (Sound row t (Set d)) (both (ltb d below) (negated (others_have row t d))) (λ _. inr (refl, refl)) (λ _. refl)
sound below row found held t (Clear d) b = pick-by (Sound row t (Clear d)) (both (ltb d below) (negated (others_have row t d))) (λ _. inr (refl, refl)) (λ _. refl)

-- what is under way at a tracker of the machine
abbrev pub Fits : Tracker → Pending → Type 0
Fits t none = is_idle t ≡ true
Fits t (begun i a) = ToCome t.phase × Named t a
Fits t (past p b) = Finish t.phase × (b ≡ Told.done)

-- the machine f after the first N calls of a history, with the log so far
pub record Linked (seen : ℕ → Move) (n : ℕ) (start : Row) (N : ℕ) (f : Flat) (w : Watch) : Type 0 where
  pub inv : Inv seen (groups n) start N N f.row w.pend w.count w.log
  pub fits : (x : ℕ) → Fits (tracker_at f.trackers x) (w.pend x)
  pub n-is : f.shape.n ≡ n
  pub long : f.shape.t ≤ length f.trackers

on_row : {seen : ℕ → Move} {limit : ℕ} {start : Row} {M N : ℕ} {row row' : Row} {pend : ℕ → Pending} {count : ℕ} {log : ℕ → Entry} → row ≡ row'
    → Inv seen limit start M N row pend count log → Inv seen limit start M N row' pend count log
on_row {seen} {limit} {start} {M} {N} {row} {row'} {pend} {count} {log} e v = subst (λ (r : Row). Inv seen limit start M N r pend count log) e v

pub idle-none : (t : Tracker) (u : Pending) → Fits t u → is_idle t ≡ true → u ≡ none
idle-none t none h e = refl
idle-none t (begun i a) h e = absurd (not-both-ways e h.0.0)
idle-none t (past p b) h e = absurd (not-both-ways h.0 (idle-unfinished t.phase e))

first-to-come : (b : Bool) → ToCome (first_phase b)
first-to-come true = (refl, refl)
first-to-come false = (refl, refl)

-- a call with other bytes lent
lent-move : (a : Said) (b m : List ℕ) (c : Call) → move_of (event (lends b m c) a) ≡ move_of (event c a)
lent-move Said.ok b m c = refl
lent-move Said.wait b m c = refl
lent-move Said.moved b m c = refl
lent-move (Said.read v k) b m c = refl
lent-move (Said.done k) b m c = refl
lent-move (Said.same k) b m c = refl
lent-move (Said.no r) b m c = refl

module _ (seen : ℕ → Move) (n : ℕ) (start : Row) {N : ℕ} {f : Flat} {w : Watch} (k : Linked seen n start N f w) where
  nothing : seen N ≡ neither → Linked seen n start (suc N) f w
  nothing e = record {
    inv = passes seen (groups n) start k.inv (omega arith) (λ x a s. not-begins (sym e ∙ s)) (λ x b s. not-ends (sym e ∙ s));
    fits = k.fits;
    n-is = k.n-is;
    long = k.long;
  }

  -- a step that goes on
  went : {M : ℕ} {row : Row} {pend : ℕ → Pending} {count : ℕ} {log : ℕ → Entry} (x : ℕ) → Inv seen (groups n) start M N row pend count log → M ≤ suc N → seen N ≡ goes_on x
      → Inv seen (groups n) start (suc N) (suc N) row pend count log
  went x v m e = passes seen (groups n) start v m (λ y a s. goes-not-begins (sym e ∙ s)) (λ y b s. goes-not-ends (sym e ∙ s))

  -- tracker x is now t, with u under way
  module _ (x : ℕ) (xl : x < f.shape.t) (t : Tracker) (row : Row) where
    fits-set : (pend : ℕ → Pending) (u : Pending) → pend x ≡ u → ((y : ℕ) → (y ≡ x → ⊥) → pend y ≡ w.pend y) → Fits t u → (y : ℕ) → Fits (tracker_at (set f.trackers x t) y) (pend y)
    fits-set pend u p o h y = go (ℕ_discrete y x)
      where
        go : Dec (y ≡ x) → Fits (tracker_at (set f.trackers x t) y) (pend y)
        go (yes q) = subst (λ (z : ℕ). Fits (tracker_at (set f.trackers x t) z) (pend z)) (sym q)
            (rw (get_or-set_same f.trackers x t idle (omega (arith, k.long)), p) h)
        go (no q) = rw (get_or-set_other f.trackers x y t idle q, o y q) (k.fits y)

    -- the log is now w', which is w''
    next : (w' w'' : Watch) (u : Pending) → w'' ≡ w' → Inv seen (groups n) start (suc N) (suc N) row w'.pend w'.count w'.log
        → w'.pend x ≡ u → ((y : ℕ) → (y ≡ x → ⊥) → w'.pend y ≡ w.pend y) → Fits t u → Linked seen n start (suc N) (with_row f row x t) w''
    next w' w'' u e v p o h = subst (Linked seen n start (suc N) (with_row f row x t)) (sym e)
        (record { inv = v; fits = fits-set w'.pend u p o h; n-is = k.n-is; long = rw (length-set f.trackers x t) k.long })

  -- a step of tracker x, which is busy, by its course; v is what the row cannot know of it
  module _ (x : ℕ) (xl : x < f.shape.t) (v : Unseen) where
    abbrev t : Tracker
    t = tracker_at f.trackers x

    abbrev after-step : Course → Type 0
    after-step c = Linked seen n start (suc N) (with_row f (row_by f.row t c) x (tracker_by t v.transfers c)) (watch_by N f.row w (effect_by x t c) (of_step x (says f.row t c)))

    -- its moment is to come
    module _ (i : ℕ) (a : Access) (p : w.pend x ≡ begun i a) (h : ToCome t.phase) (m : Named t a) where
      abbrev w1 : Watch
      w1 = taken_by N f.row w x (begun i a)

      abbrev b : Told
      b = told f.row a

      taken_is : taken_by N f.row w x (w.pend x) ≡ w1
      taken_is = ap (taken_by N f.row w x) p

      pend-is : w1.pend x ≡ past w.count b
      pend-is = put_same w.pend x (past w.count b) x refl

      ended_is : closed N (taken_by N f.row w x (w.pend x)) (of_step x (flat.answer f.row t)) ≡ closed_by N w1 x (past w.count b)
      ended_is = ap (λ (z : Watch). closed N z (of_step x (flat.answer f.row t))) taken_is ∙ ap (closed N w1) (told_is x f.row t a m) ∙ ap (closed_by N w1 x) pend-is

      named-still : (q : Phase) (s : Transfers) → ToCome q → Fits (at t q s) (begun i a)
      named-still q s e = (e, record { write-is = m.write-is; group-is = m.group-is; value-is = m.value-is })

      by-course : (c : Course) → Sound f.row t t.phase c → seen N ≡ of_step x (says f.row t c) → after-step c
      by-course Course.waits s e = next x xl (counted t) f.row w w (begun i a) refl (went x k.inv (omega arith) e) p (λ y q. refl) (named-still t.phase t.transfers h)
      by-course (Course.goes q) (inr s) e = absurd (not-both-ways s.0 h.1)
      by-course (Course.goes q) (inl s) e = next x xl (at t q v.transfers) f.row w w (begun i a) refl (went x k.inv (omega arith) e) p (λ y q. refl) (named-still q v.transfers s.1)
      by-course Course.ends s e =
          let told : seen N ≡ ends x b = e ∙ told_is x f.row t a m in
          let taken = takes-now seen (groups n) start k.inv x i a p (rw told refl) in
          let over = ends_now seen (groups n) start taken (omega arith) x w.count b told pend-is in
          next x xl idle (flat.after f.row t) (closed_by N w1 x (past w.count b)) _ none ended_is (on_row (sym (after_is f.row t a m)) over)
          (put_same w1.pend x none x refl) (λ y q. put_other w1.pend x none y q ∙ put_other w.pend x (past w.count b) y q) refl
      by-course (Course.takes q) s e =
          let taken = went x (takes-now seen (groups n) start k.inv x i a p (rw e refl)) (omega arith) e in
          next x xl (at t q v.transfers) (flat.after f.row t) w1 _ (past w.count b) taken_is (on_row (sym (after_is f.row t a m)) taken)
          pend-is (λ y q. put_other w.pend x (past w.count b) y q) (s.1, done-is f.row t a m s.2)
      by-course Course.finishes s e = absurd (not-both-ways s h.1)

    -- its moment is behind it
    module _ (p : ℕ) (b : Told) (u : w.pend x ≡ past p b) (h : Finish t.phase) (d : b ≡ Told.done) where
      by-finish : (c : Course) → Sound f.row t t.phase c → seen N ≡ of_step x (says f.row t c) → after-step c
      by-finish Course.waits s e = absurd (not-both-ways h s.1)
      by-finish (Course.goes q) (inl s) e = absurd (not-both-ways h s.0.1)
      by-finish (Course.goes q) (inr s) e = next x xl (at t q v.transfers) f.row w w (past p b) refl (went x k.inv (omega arith) e) u (λ y z. refl) (s.1, d)
      by-finish Course.ends s e = absurd (not-both-ways h s.1)
      by-finish (Course.takes q) s e = absurd (not-both-ways h s.0.1)
      by-finish Course.finishes s e = next x xl idle f.row (closed_by N w x (past p b)) _ none (ap (closed_by N w x) u)
          (ends_now seen (groups n) start k.inv (omega arith) x p b (e ∙ ap (ends x) (sym d)) u)
          (put_same w.pend x none x refl) (λ y q. put_other w.pend x none y q) refl

    by-pending : (u : Pending) → w.pend x ≡ u → Fits t u → is_idle t ≡ false → (c : Course) → Sound f.row t t.phase c → seen N ≡ of_step x (says f.row t c) → after-step c
    by-pending none p h b c s e = absurd (not-both-ways h b)
    by-pending (begun i a) p h b c s e = by-course i a p h.0 h.1 c s e
    by-pending (past q d) p h b c s e = by-finish q d p h.0 h.1 c s e

    stepped : is_idle t ≡ false → seen N ≡ of_step x (says f.row t (course_of f v.found x)) → after-step (course_of f v.found x)
    stepped b e = by-pending (w.pend x) refl (k.fits x) b (course_of f v.found x) (sound (below_top f.shape) f.row v.found _ t t.phase b) e

  -- an issue to tracker x, which is idle
  module _ (x : ℕ) (xl : x < f.shape.t) where
    begin : (a : Access) → is_idle (tracker_at f.trackers x) ≡ true → a.group < groups n → seen N ≡ begins x a → Linked seen n start (suc N) (with_row f f.row x (issued a)) (closed N w (begins x a))
    begin a h l e =
        next x xl (issued a) f.row (closed N w (begins x a)) _ (begun N a) refl
        (begins-now seen (groups n) start k.inv (omega arith) x a e l (idle-none (tracker_at f.trackers x) (w.pend x) (k.fits x) h))
        (put_same w.pend x (begun N a) x refl) (λ y q. put_other w.pend x (begun N a) y q)
        (first-to-come a.bottom, record { write-is = refl; group-is = refl; value-is = refl })

  abbrev Next : Call → Reply → Type 0
  Next c r = seen N ≡ move_of (event c r.said) → Linked seen n start (suc N) r.flat (watch_by N f.row w r.effect (move_of (event c r.said)))

  one-issue : (v : Unseen) (x : ℕ) (a : Access) → Next (issues x a) (flat_does f v (issues x a))
  unfolding flat_does flat_issue
  one-issue v x a = unless-by _ _ (Next (issues x a))
      (λ q e. let h = refusal-hold (issue_tests f.shape x a f.trackers) refl q in
      begin x (ltb-true _ _ h.0) a h.1.1.0 (subst (λ (z : ℕ). a.group < groups z) k.n-is (ltb-true _ _ h.1.0)) e) (λ _ e. nothing e)

  one-step : (v : Unseen) (x : ℕ) → Next (steps x) (flat_does f v (steps x))
  unfolding flat_does flat_step
  one-step v x = unless-by _ _ (Next (steps x))
      (λ q e. let h = refusal-hold (step_tests f.shape x f.trackers) refl q in stepped x (ltb-true _ _ h.0) v (not-true _ h.1.0) e) (λ _ e. nothing e)

  one-drain : (v : Unseen) → Next drains (flat_does f v drains)
  unfolding flat_does flat_drain
  one-drain v = unless-by _ _ (Next drains) (λ _ e. nothing e) (λ _ e. nothing e)

  one_lent : (v : Unseen) (b m : List ℕ) (c : Call) → Next c (flat_does f v c) → Next (lends b m c) (flat_does f v (lends b m c))
  unfolding flat_does
  one_lent v b m c h = pick-by (Next (lends b m c)) (lengths_right f.shape b m) (λ _ e. by_said (flat_does f v c) h e) (λ _ e. nothing e)
    where
      by_said : (r : Reply) → Next c r → Next (lends b m c) r
      by_said r h e = subst (λ (z : Move). Linked seen n start (suc N) r.flat (watch_by N f.row w r.effect z)) (sym (lent-move r.said b m c)) (h (e ∙ lent-move r.said b m c))

  pub one : (v : Unseen) (c : Call) → Next c (flat_does f v c)
  one v (issues x a) = one-issue v x a
  one v (steps x) = one-step v x
  one v drains = one-drain v
  one v (lends b m c) = one_lent v b m c (one v c)

abbrev pub calls_of : List Given → List Call
calls_of [] = []
calls_of (g ∷ gs) = g.call ∷ calls_of gs

-- the machine, and the log, after one of them
abbrev pub flat_then : Flat → Given → Flat
flat_then f g = (flat_does f g.unseen g.call).flat

abbrev pub watch_then : ℕ → Flat → Watch → Given → Watch
watch_then N f w g = watch_by N f.row w (flat_does f g.unseen g.call).effect (move_of (event g.call (flat_does f g.unseen g.call).said))

-- the calls gs of the machine f are the history from call N on
abbrev pub History : (ℕ → Move) → ℕ → Flat → List Given → Type 0
History seen N f gs = (i : ℕ) → i < length gs → seen (N + i) ≡ move_of (event_at (events (calls_of gs) (flat_answers f gs)) i)

module _ (seen : ℕ → Move) (n : ℕ) (start : Row) where
  pub history-then : (N : ℕ) (f : Flat) (g : Given) (gs : List Given) → History seen N f (g ∷ gs) → History seen (suc N) (flat_then f g) gs
  unfolding flat_answers events
  history-then N f g gs h i l = let z : suc N + i ≡ N + suc i = omega arith in ap seen z ∙ h (suc i) (omega arith)

  pub linked-then : (N : ℕ) (f : Flat) (w : Watch) (g : Given) (gs : List Given) → Linked seen n start N f w → History seen N f (g ∷ gs)
      → Linked seen n start (suc N) (flat_then f g) (watch_then N f w g)
  unfolding flat_answers events
  linked-then N f w g gs k h = one seen n start k g.unseen g.call (let z : N ≡ N + 0 = omega arith in ap seen z ∙ h 0 (omega arith))

  -- a whole run
  pub linked : (gs : List Given) (f : Flat) (w : Watch) (N : ℕ) → Linked seen n start N f w → History seen N f gs → Linked seen n start (N + length gs) (flat_ended f gs) (watched N f w gs)
  unfolding flat_ended watched
  linked [] f w N k h = let z : N ≡ N + 0 = omega arith in subst (λ (m : ℕ). Linked seen n start m f w) z k
  linked (g ∷ gs) f w N k h =
      let z : suc N + length gs ≡ N + suc (length gs) = omega arith in
      subst (λ (m : ℕ). Linked seen n start m (flat_ended (flat_then f g) gs) (watched (suc N) (flat_then f g) (watch_then N f w g) gs)) z
      (linked gs (flat_then f g) (watch_then N f w g) (suc N) (linked-then N f w g gs k h) (history-then N f g gs h))
