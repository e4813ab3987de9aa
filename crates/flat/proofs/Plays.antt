-- A step over the levels plays its flat course: what lines and memory contain is kept, with the row and the tracker that the course leaves.
use mathlib.Core.Path.{◌≡◌, refl, sym, ap, ◌∙◌, subst}
use mathlib.Core.Bool.{Bool, true, false}
use mathlib.Core.List.{List}
use mathlib.Core.Logic.{◌⊎◌, inl, inr, ⊎_elim}
use Prim.Native.Nat.{ℕ, zero, suc, ◌≤◌, ◌<◌}
use native.Mathlib.Omega.{arith}
use lib.Dec.{ltb}
use lib.ListN.{length, set}
use borrow.Author.Tests.{ltb-true}
use Rattle.laws.specs.Choice.{pick, both, no as negated}
use Rattle.laws.proofs.Choice.{not-both-ways, true-or-false, both_true, both_left, both_right, no_true, no-of-false}
use Rattle.geometry.specs.TagMemory.{values, leaf_of, index}
use Rattle.geometry.proofs.Levels.{index-0}
use Rattle.tracker.specs.declared.Phase.{Phase}
use Rattle.tracker.specs.declared.Phase.TheVariants.{Idle, Probe, Top, Under, Set, Clear}
use Rattle.tracker.specs.declared.Transfers.{Transfers}
use Rattle.tracker.specs.declared.Tracker.{Tracker}
use Rattle.tracker.specs.Tracker.{idle, at_finish, level_of, at, counted, after_probe, finish_at}
use Rattle.rules.specs.State.{tracker_at}
use Rattle.rules.specs.Step.{asks_zero}
use Rattle.flat.specs.Flat.{Row, tagged, after, changes_nothing, has_tag, others_have, by_tags, Course, goes, ends, finishes, course, row_by, tracker_by}
use Rattle.flat.proofs.Tags.{untagged}
use Rattle.flat.proofs.Contained.{View, differ, pends, pend, full_by, Counted, is-top, is-full, Fits, Agrees, Keeping, Owns, Tight, Free, Contained}
use Rattle.flat.proofs.Does.{leaf_in, some_with, finish_on, Else, Stays, Brought, Created, PutLeaf, PutBit, DoesLeaf, DoesMap, Does}
use Rattle.flat.proofs.Differ.{false-differ}
use Rattle.flat.proofs.Full.{full-zero}
use Rattle.flat.proofs.Pending.{Quiet, free-quiet, not-finishing, finish-not, pends-not}
use Rattle.flat.proofs.Moves.{stays-brought, brought-else, same_full, bring-step, create-step}
use Rattle.flat.proofs.Leaves.{leaf-step, leaf-fulls}
use Rattle.flat.proofs.Finishes.{went, AtFinish, finish-step, finish-fulls, now_full, on-is, set-now}
use Rattle.flat.proofs.Course.{after_nothing, after-far, new-tag, asks_nothing}
use Rattle.flat.proofs.Decides.{Ready, alone, at_level, full-way, row_zero, under-here, asked-full, reads-full, bit-over, leaf-nothing, leaf-after, leaf-tags, at-finish, finish-goes}
use Rattle.flat.proofs.Tight.{full-up, tight-step}

module _ {t : ℕ} {ts : List Tracker} {row : Row} {v : View} {x : ℕ} (v' : View) (R : Ready t ts row v x) (m : Transfers) where
  abbrev A : Agrees (suc t) ts row v
  A = R.contained.agrees

  xl : x < length ts
  xl = R.x_lt

  abbrev u : Tracker
  u = tracker_at ts x

  abbrev own : ℕ → ℕ
  own e = index e u.group

  abbrev top : ℕ
  top = suc t

  abbrev leaf : ℕ
  leaf = leaf_of u.group

  -- what a course leaves; what a tracker u' leaves over the row as it was
  abbrev After : Course → Type 0
  After c = Contained top (set ts x (tracker_by u m c)) (row_by row u c) v'

  abbrev Now : Tracker → Type 0
  Now u' = Contained top (set ts x u') row v'

  -- of x's blocks that may be empty in a line: each is full, or u' keeps it
  abbrev Right : Tracker → ℕ → Type 0
  Right u' c = (full_by ts row c (own c) ≡ true) ⊎ Owns u' c (own c)

  abbrev Mine : Tracker → ℕ → Type 0
  Mine u' e = (c : ℕ) → c < top → (c ≡ e → ⊥) → Owns u c (own c) → Right u' c

  -- a tracker that x becomes, which is to put no bit
  record Goes (u' : Tracker) : Type 0 where
    calm : at_finish u'.phase ≡ false
    fit : Fits (full_by ts row) u' u'.phase
    low : level_of u'.phase < top
    small : u'.value < values

  rests : Goes idle
  rests = record { calm = refl; fit = tt; low = omega arith; small = omega arith }

  goes_to_lem : (p : Phase) → at_finish p ≡ false → Fits (full_by ts row) (at u p m) p → level_of p < top → Goes (at u p m)
  goes_to_lem p c f l = record { calm = c; fit = f; low = l; small = A.small x }

  -- from a phase before the moment
  module _ (was : at_finish u.phase ≡ false) {u' : Tracker} (G : Goes u') where
    np : (e k : ℕ) → pends u' e k ≡ pends u e k
    np e k = pends-not u' e k (not-finishing u'.phase G.calm e) ∙ sym (pends-not u e k (not-finishing u.phase was e))

    tight : (e : ℕ) → Else v v' e (own e) → (e < top → v'.lined e (own e) ≡ true → Right u' e) → Mine u' e → Tight top (set ts x u') row v'
    tight e E here mine = tight-step R.contained.tight row x xl u' e E (λ c i l d. same_full A x xl u' np c i)
        (λ l n. ⊎_elim (λ z. inl (same_full A x xl u' np e (own e) ∙ z)) (λ z. inr z) (here l n)) mine

    brings : (e : ℕ) → Brought v v' e (own e) → Counted top (full_by ts row) v.lined e (own e) → (e < top → v'.lined e (own e) ≡ true → Right u' e) → Mine u' e → Now u'
    brings e B n here mine = record { agrees = bring-step A x xl u' np G.fit G.low G.small e (own e) B n; tight = tight e (brought-else B) here mine }

    stays : Stays v v' → Mine u' top → Now u'
    stays S mine = brings top (stays-brought S top (own top)) (is-top refl) (λ l n. absurd (omega arith)) mine

    makes : (d : ℕ) → Created v v' d (own (suc d)) → full_by ts row (suc d) (own (suc d)) ≡ false → (suc d < top → v'.lined (suc d) (own (suc d)) ≡ true → Right u' (suc d)) → Mine u' (suc d) → Now u'
    makes d Z f here mine = record { agrees = create-step A x xl u' np G.fit G.low G.small d (own (suc d)) Z f; tight = tight (suc d) Z.only here mine }

  -- it ends, changing nothing, or goes on
  quits-or : (b : Bool) (p : Phase) → (b ≡ true → changes_nothing row u ≡ true) → (b ≡ true → Now idle) → (b ≡ false → Now (at u p m)) → After (pick b ends (goes p))
  quits-or true p q E G = rw (after_nothing row u (q refl)) (E refl)
  quits-or false p q E G = G refl

  -- the test on which bit 0 ends it
  abbrev quits : ℕ → Bool
  quits e = both (negated (has_tag row u e)) (changes_nothing row u)

  quits-nothing : (e : ℕ) → quits e ≡ true → changes_nothing row u ≡ true
  quits-nothing e q = both_right _ (changes_nothing row u) q

  quits-asks : (e : ℕ) → quits e ≡ true → asks_zero u ≡ true
  quits-asks e q = asks_nothing row u (row_zero R e (no_true _ (both_left _ (changes_nothing row u) q))) ∙ quits-nothing e q

  fits_under : Quiet top ts (own top) → (e : ℕ) → e < top → quits e ≡ false → Fits (full_by ts row) (at u (Under e) m) (Under e)
  fits_under quiet e l f z = go (true-or-false (has_tag row u e))
    where
      go : (has_tag row u e ≡ true) ⊎ (has_tag row u e ≡ false) → full_by ts row e (own e) ≡ true
      go (inl r) = full-way R quiet e l ∙ r
      go (inr r) = absurd (not-both-ways (both_true _ _ (no-of-false r) (sym (asks_nothing row u (row_zero R e r)) ∙ z)) f)

  -- a phase that keeps nothing
  keeps-none : (p : Phase) → u.phase ≡ p → ((c : ℕ) → Keeping p c → ⊥) → (u' : Tracker) (e : ℕ) → Mine u' e
  keeps-none p ph n u' e c l d o = absurd (n c (rw ph at o.keeps))

  -- Probe
  probe-on : (d : ℕ) → u.phase ≡ Probe d → Stays v v' → Now (at u (after_probe top d) m)
  probe-on d ph S = go (ltb (suc d) top) refl
    where
      go : (b : Bool) → ltb (suc d) top ≡ b → Now (at u (pick b (Probe (suc d)) Top) m)
      go true q = stays (rw ph refl) (goes_to_lem (Probe (suc d)) refl tt (ltb-true _ _ q)) S (keeps-none (Probe d) ph (λ c z. z) (at u (Probe (suc d)) m) top)
      go false q = stays (rw ph refl) (goes_to_lem Top refl tt (omega arith)) S (keeps-none (Probe d) ph (λ c z. z) (at u Top m) top)

  probe-plays : (d : ℕ) → u.phase ≡ Probe d → Stays v v' → (b : Bool) → (b ≡ true → changes_nothing row u ≡ true) → After (pick b ends (goes (after_probe top d)))
  probe-plays d ph S b q = quits-or b (after_probe top d) q (λ z. stays (rw ph refl) rests S (keeps-none (Probe d) ph (λ c z. z) idle top)) (λ z. probe-on d ph S)

  -- Top
  top-plays : u.phase ≡ Top → Free top ts (own top) → Brought v v' top (own top) → After (pick (quits t) ends (goes (Under t)))
  top-plays ph free B = quits-or (quits t) (Under t) (quits-nothing t) (λ q. come rests)
      (λ q. come (goes_to_lem (Under t) refl (fits_under (free-quiet top ts (own top) free) t (omega arith) q) (omega arith)))
    where
      come : {u' : Tracker} → Goes u' → Now u'
      come {u'} G = brings (rw ph refl) G top B (is-top refl) (λ l n. absurd (omega arith)) (keeps-none Top ph (λ c z. z) u' top)

  -- Under d: what is full on x's way is full above
  module _ (d : ℕ) (ph : u.phase ≡ Under d) where
    under_up : full_by ts row d (own d) ≡ true → (c : ℕ) → c < top → d ≤ c → full_by ts row c (own c) ≡ true
    under_up f c l n = full-up top ts row x xl (alone R (Under d) ph refl) d c n (omega arith) (λ b k. rw ph (not-finishing (Under d) refl b)) f

    kept_above : {c : ℕ} → Owns u c (own c) → d < c
    kept_above o = rw ph at o.keeps

    under-ends : full_by ts row d (own d) ≡ true → (u' : Tracker) (e : ℕ) → Mine u' e
    under-ends f u' e c l n o = inl (under_up f c l (let z = kept_above o in omega arith))

  -- Map
  module _ (e : ℕ) (ph : u.phase ≡ Under (suc e)) (D : DoesMap v v' u e) where
    map-low : suc e < top
    map-low = at_level R (Under (suc e)) ph

    map-step : {u' : Tracker} → Goes u' → (suc e < top → v'.lined (suc e) (own (suc e)) ≡ true → Right u' (suc e)) → Mine u' (suc e) → Now u'
    unfolding both negated
    map-step {u'} G here mine = go u.write (v.bits (suc e) (own (suc e))) refl refl D.made D.fetched
      where
        over : v.bits (suc e) (own (suc e)) ≡ full_by ts row (suc e) (own (suc e))
        over = bit-over R (suc e) ph

        go : (w b : Bool) → u.write ≡ w → v.bits (suc e) (own (suc e)) ≡ b → (both w (negated b) ≡ true → Created v v' e (own (suc e))) → (both w (negated b) ≡ false → Brought v v' (suc e) (own (suc e))) → Now u'
        go false b p q made fetched = brings (rw ph refl) G (suc e) (fetched refl) (is-full (reads-full R (suc e) ph p)) here mine
        go true true p q made fetched = brings (rw ph refl) G (suc e) (fetched refl) (is-full (sym over ∙ q)) here mine
        go true false p q made fetched = makes (rw ph refl) G e (made refl) (sym over ∙ q) here mine

    map-ends : quits e ≡ true → Now idle
    map-ends q = let f = asked-full R (suc e) ph (quits-asks e q) in map-step rests (λ l n. inl f) (under-ends (suc e) ph f idle (suc e))

    map-goes : quits e ≡ false → Now (at u (Under e) m)
    map-goes q = map-step (goes_to_lem (Under e) refl (fits_under (under-here R (suc e) ph) e (omega (arith, map-low)) q) (omega (arith, map-low))) (λ l n. here u.write refl)
        (λ c l n o. inr (record { writes = o.writes; its = refl; keeps = let z = kept_above (suc e) ph o in omega arith }))
      where
        here : (w : Bool) → u.write ≡ w → Right (at u (Under e) m) (suc e)
        here true p = inr (record { writes = p; its = refl; keeps = omega arith })
        here false p = inl (reads-full R (suc e) ph p)

    map-plays : After (pick (quits e) ends (goes (Under e)))
    map-plays = quits-or (quits e) (Under e) (quits-nothing e) map-ends map-goes

  -- Leaf
  module _ (ph : u.phase ≡ Under 0) (D : DoesLeaf v v' u) where
    full-leaf : tagged row leaf ≡ true → full_by ts row 0 (own 0) ≡ true
    full-leaf f = ap (full_by ts row 0) (index-0 u.group) ∙ full-zero (tagged row) (pend ts) leaf ∙ f

    -- where it changes nothing its leaf has a tag
    same-full-leaf : changes_nothing row u ≡ true → full_by ts row 0 (own 0) ≡ true
    same-full-leaf q = ⊎_elim full-leaf (λ f. asked-full R 0 ph (asks_nothing row u (untagged row leaf f u.group refl) ∙ q)) (true-or-false (tagged row leaf))

    leaf-ends : changes_nothing row u ≡ true → Now idle
    leaf-ends q = go (true-or-false u.write) (true-or-false (v.bits 0 leaf))
      where
        f : full_by ts row 0 (own 0) ≡ true
        f = same-full-leaf q

        c : changes_nothing (leaf_in v u) u ≡ true
        c = leaf-nothing R ph ∙ q

        come : Brought v v' 0 leaf → Now idle
        come B = brings (rw ph refl) rests 0 (subst (λ (j : ℕ). Brought v v' 0 j) (sym (index-0 u.group)) B) (is-full f) (λ l n. inl f) (under-ends 0 ph f idle 0)

        go : (u.write ≡ true) ⊎ (u.write ≡ false) → (v.bits 0 leaf ≡ true) ⊎ (v.bits 0 leaf ≡ false) → Now idle
        go (inr w) b = come (D.reads w)
        go (inl w) (inl b) = come (D.same-1 w b c)
        go (inl w) (inr b) = stays (rw ph refl) rests (D.same-0 w b c) (under-ends 0 ph f idle top)

    module _ (q : changes_nothing row u ≡ false) where
      abbrev next : Tracker
      next = tracker_by u m (by_tags (tagged row leaf) (tagged (after row u) leaf))

      new : tagged row leaf ≡ false → tagged (after row u) leaf ≡ true
      new = new-tag row u q

      puts : PutLeaf v v' u
      puts = D.puts (leaf-nothing R ph ∙ q)

      mine-by : (a b : Bool) → tagged row leaf ≡ a → Mine (tracker_by u m (by_tags a b)) 0
      mine-by true b r = under-ends 0 ph (full-leaf r) (tracker_by u m (by_tags true b)) 0
      mine-by false b r = λ c l n o. inr (record { writes = o.writes; its = refl; keeps = kept_above 0 ph o })

      lined-tag : v'.lined 0 leaf ≡ true → tagged (after row u) leaf ≡ true
      lined-tag n = ⊎_elim (λ z. z) (λ z. absurd (puts.dropped (leaf-tags R ph ∙ z) n)) (true-or-false (tagged (after row u) leaf))

      leaf-changes : Contained top (set ts x next) (after row u) v'
      leaf-changes = record {
        agrees = leaf-step (omega arith) A x xl m ph (alone R (Under 0) ph refl) (after row u) (after-far row u) new puts.only
            (λ r h d. puts.groups (⊎_elim (λ z. inl (leaf-tags R ph ∙ z)) (λ z. inr z) r) h d ∙ leaf-after R ph h d);
        tight = tight-step R.contained.tight (after row u) x xl next 0 (subst (λ (j : ℕ). Else v v' 0 j) (sym (index-0 u.group)) puts.only)
            (λ c i l d. leaf-fulls (omega arith) A x xl m ph (alone R (Under 0) ph refl) (after row u) (after-far row u) new c i (λ p z. d p (z ∙ sym (index-0 u.group))))
            (λ l n. inl (ap (full_by (set ts x next) (after row u) 0) (index-0 u.group) ∙ full-zero (tagged (after row u)) (pend (set ts x next)) leaf ∙ lined-tag (rw index-0 at n)))
            (mine-by (tagged row leaf) (tagged (after row u) leaf) refl);
      }

    by_tags_lem : (a b : Bool) → Contained top (set ts x (tracker_by u m (by_tags a b))) (after row u) v' → After (by_tags a b)
    by_tags_lem true true z = z
    by_tags_lem true false z = z
    by_tags_lem false b z = z

    leaf-plays : (b : Bool) → changes_nothing row u ≡ b → After (pick b ends (by_tags (tagged row leaf) (tagged (after row u) leaf)))
    leaf-plays true q = rw (after_nothing row u q) (leaf-ends q)
    leaf-plays false q = by_tags_lem (tagged row leaf) (tagged (after row u) leaf) (leaf-changes q)

  -- Finish
  module _ (s : Bool) (d : ℕ) (ph : u.phase ≡ finish_at s d) (P : PutBit t v v' u s d) where
    abbrev on : Bool
    on = finish_on t v u s d

    F : AtFinish t ts v x s d
    F = at-finish R s d ph

    -- set that ends below the top: the block was full
    was-full : s ≡ true → d < t → on ≡ false → full_by ts row (suc d) (own (suc d)) ≡ true
    was-full q l f = go _ (sym (on-is A xl m F l) ∙ f)
      where
        go : (a : Bool) → differ a (some_with v u s d) ≡ false → a ≡ true
        go true z = refl
        go false z = absurd (not-both-ways (set-now A xl m F q) (sym (false-differ _) ∙ z))

    kept : (z : Bool) → s ≡ z → (c : ℕ) → Owns u c (own c) → (z ≡ true) × (d < c)
    kept true q c o = (refl, rw (ph, q) at o.keeps)
    kept false q c o = absurd (rw (ph, q) at o.keeps)

    finish-mine : (b : Bool) → on ≡ b → Mine (went u m s d b) (suc d)
    finish-mine b q c l n o = go b q (kept s refl c o)
      where
        go : (b : Bool) → on ≡ b → (s ≡ true) × (d < c) → Right (went u m s d b) c
        go true q k = inr (record { writes = o.writes; its = refl; keeps = rw k.0 (let z : d < c = k.1 in omega arith) })
        go false q k = inl (full-up top ts row x xl F.alone (suc d) c k.1 (omega arith) (λ b y. rw ph (finish-not s d b (λ z. omega arith)))
            (was-full k.0 (let z : d < c = k.1 in omega arith) q))

    finish-now : Contained top (set ts x (went u m s d on)) row v'
    finish-now = record {
      agrees = finish-step A xl m F P.only P.bits;
      tight = tight-step R.contained.tight row x xl (went u m s d on) (suc d) P.only (finish-fulls A xl m F)
          (λ l n. inl (now_full A xl m F ∙ still (omega arith) n)) (finish-mine on refl);
    }
      where
        still : d < t → v'.lined (suc d) (own (suc d)) ≡ true → some_with v u s d ≡ true
        still l r = ⊎_elim (λ z. z) (λ z. absurd (P.dropped l z r)) (true-or-false (some_with v u s d))

    by-on : (b : Bool) → Contained top (set ts x (went u m s d b)) row v' → After (pick b (goes (finish_at s (suc d))) finishes)
    by-on true z = z
    by-on false z = z

    finish-plays : After (pick (both (ltb d t) (negated (others_have row u d))) (goes (finish_at s (suc d))) finishes)
    finish-plays = subst (λ (b : Bool). After (pick b (goes (finish_at s (suc d))) finishes)) (finish-goes R s d ph) (by-on on finish-now)

  -- every step of a busy tracker
  pub plays : (held : Bool) → (held ≡ false → Free top ts (own top)) → (p : Phase) → u.phase ≡ p → (p ≡ Idle → ⊥) → Does t v v' held u p → After (course t row (λ e. v.lined e (own e)) held u p)
  plays held free Idle ph busy D = absurd (busy refl)
  plays held free (Probe zero) ph busy D = probe-plays 0 ph D (both (v.lined 0 (own 0)) (changes_nothing row u)) (λ q. both_right (v.lined 0 (own 0)) (changes_nothing row u) q)
  plays held free (Probe (suc e)) ph busy D = probe-plays (suc e) ph D (both (both (v.lined (suc e) (own (suc e))) (negated held)) (quits e))
      (λ q. quits-nothing e (both_right (both (v.lined (suc e) (own (suc e))) (negated held)) (quits e) q))
  plays true free Top ph busy D = stays (rw ph refl) (record { calm = rw ph refl; fit = rw ph tt; low = A.low x; small = A.small x }) D (keeps-none Top ph (λ c z. z) (counted u) top)
  plays false free Top ph busy D = top-plays ph (free refl) D
  plays held free (Under zero) ph busy D = leaf-plays ph D (changes_nothing row u) refl
  plays held free (Under (suc e)) ph busy D = map-plays e ph D
  plays held free (Set d) ph busy D = finish-plays true d ph D
  plays held free (Clear d) ph busy D = finish-plays false d ph D
