-- One call of a run: what it says is what the flat row says, and what it leaves agrees with what the flat row leaves.
use mathlib.Core.Path.{◌≡◌, refl, sym, ap, ◌∙◌, subst}
use mathlib.Core.Bool.{true, false}
use mathlib.Core.List.{List, []}
use mathlib.Core.Logic.{◌⊎◌, inl, inr, ⊎_elim}
use Prim.Native.Nat.{ℕ, ◌<◌}
use native.Mathlib.Omega.{arith}
use lib.ListN.{set}
use Rattle.laws.proofs.Choice.{true-or-false}
use Rattle.laws.specs.Refusal.{refusal, unless}
use Rattle.laws.proofs.Refusals.{refused-or-not, unless-0, unless-no}
use Rattle.geometry.specs.declared.Shape.{Shape}
use Rattle.geometry.specs.Shape.{at_hand, top_of}
use Rattle.geometry.proofs.Shapes.{below-hand}
use Rattle.geometry.specs.TagMemory.{values}
use Rattle.tracker.specs.declared.Access.{Access}
use Rattle.tracker.specs.declared.Tracker.{Tracker}
use Rattle.tracker.specs.Tracker.{is_idle, issued}
use Rattle.tracker.specs.Answer.{ok}
use Rattle.rules.specs.State.{State, tracker_at, lengths_right}
use Rattle.rules.specs.Whole.{whole}
use Rattle.rules.specs.Place.{drained}
use Rattle.rules.specs.Step.{Turned, by_phase}
use Rattle.rules.specs.Calls.{Out, refused, accepted, with_tracker, issue_tests, issue_no, issue, stepped, step_tests, step_no, step, all_idle, drains_to, drain_no, drain}
use Rattle.rules.specs.Run.{Call, issues, steps, drains, lends, Kept, kept, rows_of, elsewhere, does}
use Rattle.rules.proofs.Whole.{Whole, whole-facts}
use Rattle.rules.proofs.Trackers.{tracker-same}
use Rattle.rules.proofs.Calls.{Sound, lengths-hand, turn-by_phase, step_is, step-sound, step-refused, step-free, issue-refused, issue-accepted, issue-free, issue-kept, drain-is, drain-sound, drain-busy, drains as drains-lined}
use Rattle.flat.specs.Flat.{Row, Flat, Unseen, Reply, Course, course_of, says, row_by, tracker_by, effect_by, with_row, refuse, flat_issue, flat_step, flat_drain, flat_does}
use Rattle.flat.specs.Demand.{found, unseen, Value32}
use Rattle.flat.proofs.Moves.{contained-stays}
use Rattle.flat.proofs.Stepped.{contained-issued}
use Rattle.flat.proofs.Viewed.{stays_of, between-same}
use Rattle.flat.proofs.Played.{Means, Plays, plays-by_phase}
use Rattle.flat.proofs.Drains.{drains as drains-same}

-- the flat machine with the accesses of k
abbrev pub flat_with : Kept → Row → Flat
flat_with k row = record { shape = at_hand k.state.shape 0; row = row; trackers = k.state.trackers }

-- what every state of a run has
pub record Ok (k : Kept) (row : Row) : Type 0 where
  pub is_whole : whole k.state ≡ true
  pub right : lengths_right k.state.shape k.bytes k.memory ≡ true
  pub agrees : Means (top_of k.state.shape) k.state.shape.n k.state.shape.l (rows_of k) k.state.trackers row

pub record Follows (k : Kept) (c : Call) (row : Row) : Type 0 where
  pub row' : Row
  pub said-is : (does k c).said ≡ (flat_does (flat_with k row) (unseen k c) c).said
  pub flat-is : (flat_does (flat_with k row) (unseen k c) c).flat ≡ flat_with (kept (does k c)) row'
  pub ok-still : Ok (kept (does k c)) row'
  pub n-is : (does k c).state.shape.n ≡ k.state.shape.n

follows_by : {k : Kept} {c : Call} {row : Row} (o : Out) (p : Reply) (row' : Row) → does k c ≡ o → flat_does (flat_with k row) (unseen k c) c ≡ p
    → o.said ≡ p.said → p.flat ≡ flat_with (kept o) row' → Ok (kept o) row' → o.state.shape.n ≡ k.state.shape.n → Follows k c row
follows_by {k} {c} {row} o p row' e f s g a n = record {
  row' = row';
  said-is = ap (λ (z : Out). z.said) e ∙ s ∙ ap (λ (z : Reply). z.said) (sym f);
  flat-is = ap (λ (z : Reply). z.flat) f ∙ g ∙ ap (λ (z : Out). flat_with (kept z) row') (sym e);
  ok-still = subst (λ (z : Out). Ok (kept z) row') (sym e) a;
  n-is = ap (λ (z : Out). z.state.shape.n) e ∙ n;
}

module _ {k : Kept} {row : Row} (a : Ok k row) where
  -- a refusal
  follows_no : {c : Call} (i : ℕ) → does k c ≡ refused i k.state k.bytes k.memory → flat_does (flat_with k row) (unseen k c) c ≡ refuse i (flat_with k row) → Follows k c row
  follows_no i e f = follows_by (refused i k.state k.bytes k.memory) (refuse i (flat_with k row)) row e f refl refl a refl

  w : Whole k.state
  w = whole-facts k.state a.is_whole

  -- issue
  module _ (x : ℕ) (access : Access) where
    flat-issue : flat_does (flat_with k row) (unseen k (issues x access)) (issues x access) ≡ flat_issue (flat_with k row) x access
    unfolding flat_does
    flat-issue = refl

    does-issue : does k (issues x access) ≡ issue k.state k.bytes k.memory x access
    unfolding does
    does-issue = refl

    flat-refused : 0 < refusal (issue_tests k.state.shape x access k.state.trackers)
        → flat_issue (flat_with k row) x access ≡ refuse (refusal (issue_tests k.state.shape x access k.state.trackers)) (flat_with k row)
    unfolding flat_issue
    flat-refused h = unless-no _ _ h

    module _ (free : refusal (issue_tests k.state.shape x access k.state.trackers) ≡ 0) where
      flat-issued : flat_issue (flat_with k row) x access ≡ (record { said = ok; flat = with_row (flat_with k row) row x (issued access); effect = [] })
      unfolding flat_issue
      flat-issued = unless-0 _ _ free

      issued-means : access.value < values → Means (top_of k.state.shape) k.state.shape.n k.state.shape.l (rows_of k) (set k.state.trackers x (issued access)) row
      issued-means q =
          let h = issue-free k.state k.bytes k.memory a.is_whole a.right x access free in
          record {
            good = a.agrees.good;
            between = a.agrees.between;
            contained = contained-issued (omega arith) a.agrees.contained x (omega (arith, w.tracked.long, h.0)) h.2 access q;
          }

    follows-issue : access.value < values → Follows k (issues x access) row
    follows-issue q = go (refused-or-not (refusal (issue_tests k.state.shape x access k.state.trackers)))
      where
        go : (refusal (issue_tests k.state.shape x access k.state.trackers) ≡ 0) ⊎ (0 < refusal (issue_tests k.state.shape x access k.state.trackers))
            → Follows k (issues x access) row
        go (inr h) = follows_no _ (does-issue ∙ issue-refused k.state k.bytes k.memory a.is_whole a.right x access h) (flat-issue ∙ flat-refused h)
        go (inl e) =
            let is = issue-accepted k.state k.bytes k.memory a.is_whole a.right x access e in
            let s = issue-kept k.state k.bytes k.memory a.is_whole a.right x access in
            follows_by (accepted (with_tracker k.state x (issued access)) k.bytes k.memory)
            (record { said = ok; flat = with_row (flat_with k row) row x (issued access); effect = [] }) row (does-issue ∙ is) (flat-issue ∙ flat-issued e) refl refl
            (record { is_whole = rw is at s.is_whole; right = a.right; agrees = issued-means e q }) refl

  -- step
  module _ (x : ℕ) where
    -- what the row cannot know of a step that leaves the tracker u'
    abbrev told : Tracker → Unseen
    told u' = record { found = found k x; transfers = u'.transfers }

    flat_step_lem : flat_does (flat_with k row) (unseen k (steps x)) (steps x) ≡ flat_step (flat_with k row) (told (tracker_at (does k (steps x)).state.trackers x)) x
    unfolding flat_does unseen
    flat_step_lem = refl

    does-step : does k (steps x) ≡ step k.state k.bytes k.memory x
    unfolding does
    does-step = refl

    module _ (v : Unseen) where
      flat-no : 0 < refusal (step_tests k.state.shape x k.state.trackers)
          → flat_step (flat_with k row) v x ≡ refuse (refusal (step_tests k.state.shape x k.state.trackers)) (flat_with k row)
      unfolding flat_step
      flat-no h = unless-no _ _ h

      flat-turn : refusal (step_tests k.state.shape x k.state.trackers) ≡ 0
          → flat_step (flat_with k row) v x ≡ (let t = tracker_at k.state.trackers x in let c = course_of (flat_with k row) v.found x in
          record { said = says row t c; flat = with_row (flat_with k row) (row_by row t c) x (tracker_by t v.transfers c); effect = effect_by x t c })
      unfolding flat_step
      flat-turn e = unless-0 _ _ e

    module _ (free : refusal (step_tests k.state.shape x k.state.trackers) ≡ 0) where
      xl : x < k.state.shape.t
      xl = (step-free k.state k.bytes k.memory a.is_whole a.right x free).0

      busy : is_idle (tracker_at k.state.trackers x) ≡ false
      busy = (step-free k.state k.bytes k.memory a.is_whole a.right x free).1

      abbrev u : Tracker
      u = tracker_at k.state.trackers x

      abbrev c : Course
      c = course_of (flat_with k row) (found k x) x

      abbrev turn : Turned
      turn = by_phase k.state.shape x u (rows_of k) u.phase

      plays : Plays (top_of k.state.shape) k.state.shape.n k.state.shape.l x k.state.trackers row u c turn
      plays = rw (below-hand k.state.shape 0) (plays-by_phase k.state k.bytes k.memory a.is_whole a.right row a.agrees x xl busy)

      step-turn : step k.state k.bytes k.memory x ≡ stepped k.state x turn
      step-turn = step_is k.state k.bytes k.memory a.is_whole a.right x xl busy ∙ ap (stepped k.state x) (turn-by_phase k.state k.bytes k.memory a.is_whole a.right x xl busy)

      turn-sound : Sound k.state.shape (stepped k.state x turn)
      turn-sound = subst (Sound k.state.shape) step-turn (step-sound k.state k.bytes k.memory a.is_whole a.right x xl busy)

      told_is : tracker_at (does k (steps x)).state.trackers x ≡ turn.tracker
      told_is = ap (λ (z : Out). tracker_at z.state.trackers x) (does-step ∙ step-turn) ∙ tracker-same k.state.trackers x turn.tracker (omega (arith, w.tracked.long, xl))

      follows-turn : Follows k (steps x) row
      follows-turn =
          follows_by (stepped k.state x turn)
          (record { said = says row u c; flat = with_row (flat_with k row) (row_by row u c) x (tracker_by u turn.tracker.transfers c); effect = effect_by x u c })
          (row_by row u c) (does-step ∙ step-turn) (flat_step_lem ∙ ap (λ (z : Tracker). flat_step (flat_with k row) (told z) x) told_is ∙ flat-turn (told turn.tracker) free) plays.said-is
          (ap (λ (z : Tracker). with_row (flat_with k row) (row_by row u c) x z) (sym plays.tracker-is)
          ∙ ap (λ (z : Shape). flat_with (kept (stepped k.state x (record { said = turn.said; shape = z; tracker = turn.tracker; rows = turn.rows; transfers = turn.transfers }))) (row_by row u c)) (sym turn-sound.is-shape))
          (record {
            is_whole = turn-sound.is_whole;
            right = turn-sound.right;
            agrees = subst (λ (z : Shape). Means (top_of z) z.n z.l turn.rows (set k.state.trackers x turn.tracker) (row_by row u c)) (sym turn-sound.is-shape)
                (rw (below-hand k.state.shape turn.shape.hand) plays.means);
          })
          (ap (λ (z : Shape). z.n) turn-sound.is-shape)

    follows-step : Follows k (steps x) row
    follows-step = ⊎_elim (λ e. follows-turn e)
        (λ h. follows_no _ (does-step ∙ step-refused k.state k.bytes k.memory a.is_whole a.right x h) (flat_step_lem ∙ flat-no _ h))
        (refused-or-not (refusal (step_tests k.state.shape x k.state.trackers)))

  -- drain
  flat-drain : flat_does (flat_with k row) (unseen k drains) drains ≡ flat_drain (flat_with k row)
  unfolding flat_does
  flat-drain = refl

  does-drain : does k drains ≡ drain k.state k.bytes k.memory
  unfolding does
  does-drain = refl

  flat-busy : all_idle k.state ≡ false → flat_drain (flat_with k row) ≡ refuse 7 (flat_with k row)
  unfolding flat_drain all_idle refusal unless
  flat-busy e = rw e

  flat-drained : all_idle k.state ≡ true → flat_drain (flat_with k row) ≡ (record { said = ok; flat = flat_with k row; effect = [] })
  unfolding flat_drain all_idle refusal unless
  flat-drained e = rw e

  follows_drain : Follows k drains row
  follows_drain = go (true-or-false (all_idle k.state))
    where
      go : (all_idle k.state ≡ true) ⊎ (all_idle k.state ≡ false) → Follows k drains row
      go (inr e) = follows_no 7 (does-drain ∙ drain-busy k.state k.bytes k.memory a.is_whole a.right e) (flat-drain ∙ flat-busy e)
      go (inl e) =
          let is = drain-is k.state k.bytes k.memory a.is_whole a.right e in
          let s = drain-sound k.state k.bytes k.memory a.is_whole a.right e in
          let d = drains-same a.agrees.good k.state.shape.l (omega arith) in
          let b : (drained k.state.shape.l (rows_of k)).bytes ≡ k.bytes = (drains-lined k.state k.bytes k.memory a.is_whole a.right e k.state.shape.l (omega arith)).bytes-is in
          follows_by (drains_to k.state (rows_of k))
          (record { said = ok; flat = flat_with k row; effect = [] }) row (does-drain ∙ is) (flat-drain ∙ flat-drained e) refl refl
          (record {
            is_whole = rw is at s.is_whole;
            right = rw is at s.right;
            agrees = subst (λ (y : List ℕ). Means (top_of k.state.shape) k.state.shape.n k.state.shape.l
                (record { lines = (drained k.state.shape.l (rows_of k)).lines; bytes = y; memory = (drained k.state.shape.l (rows_of k)).memory }) k.state.trackers row) b
                (record {
                  good = d.same.good;
                  between = between-same (top_of k.state.shape) k.state.shape.n _ a.agrees.good d.same a.agrees.between;
                  contained = contained-stays (stays_of (top_of k.state.shape) k.state.shape.n _ a.agrees.good d.same) a.agrees.contained;
                });
          }) refl

-- a call that lent other bytes: of the right lengths they are the run's own, of others the call is refused 2
module _ (k : Kept) (b m : List ℕ) (c : Call) where
  does-right : lengths_right k.state.shape b m ≡ true → does k (lends b m c) ≡ does k c
  unfolding does
  does-right e = rw e

  does-wrong : lengths_right k.state.shape b m ≡ false → does k (lends b m c) ≡ elsewhere (does (record { state = k.state; bytes = b; memory = m }) c) k
  unfolding does
  does-wrong e = rw e

  module _ (row : Row) where
    flat-right : lengths_right k.state.shape b m ≡ true → flat_does (flat_with k row) (unseen k (lends b m c)) (lends b m c) ≡ flat_does (flat_with k row) (unseen k c) c
    unfolding flat_does unseen
    flat-right e = rw (lengths-hand k.state.shape b m 0 ∙ e)

    flat-wrong : lengths_right k.state.shape b m ≡ false → flat_does (flat_with k row) (unseen k (lends b m c)) (lends b m c) ≡ refuse 2 (flat_with k row)
    unfolding flat_does
    flat-wrong e = rw (lengths-hand k.state.shape b m 0 ∙ e)

module _ (s : State) (b m : List ℕ) (w : whole s ≡ true) (e : lengths_right s.shape b m ≡ false) where
  issue-2 : (x : ℕ) (access : Access) → does (record { state = s; bytes = b; memory = m }) (issues x access) ≡ refused 2 s b m
  unfolding does issue issue_no refusal unless
  issue-2 x access = rw (w, e)

  step-2 : (x : ℕ) → does (record { state = s; bytes = b; memory = m }) (steps x) ≡ refused 2 s b m
  unfolding does step step_no refusal unless
  step-2 x = rw (w, e)

  drain-2 : does (record { state = s; bytes = b; memory = m }) drains ≡ refused 2 s b m
  unfolding does drain drain_no refusal unless
  drain-2 = rw (w, e)

wrong-lengths : (s : State) (c : Call) (b m : List ℕ) → whole s ≡ true → lengths_right s.shape b m ≡ false → does (record { state = s; bytes = b; memory = m }) c ≡ refused 2 s b m
wrong-lengths s (issues x access) b m w e = issue-2 s b m w e x access
wrong-lengths s (steps x) b m w e = step-2 s b m w e x
wrong-lengths s drains b m w e = drain-2 s b m w e
wrong-lengths s (lends b' m' c) b m w e = ⊎_elim
    (λ r. does-right (record { state = s; bytes = b; memory = m }) b' m' c r ∙ wrong-lengths s c b m w e)
    (λ r. does-wrong (record { state = s; bytes = b; memory = m }) b' m' c r
    ∙ ap (λ (o : Out). elsewhere o (record { state = s; bytes = b; memory = m })) (wrong-lengths s c b' m' w r)) (true-or-false (lengths_right s.shape b' m'))

pub follows : (k : Kept) (row : Row) → Ok k row → (c : Call) → Value32 c → Follows k c row
follows k row a (issues x access) q = follows-issue a x access q
follows k row a (steps x) q = follows-step a x
follows k row a drains q = follows_drain a
follows k row a (lends b m c) q = go (follows k row a c q) (true-or-false (lengths_right k.state.shape b m))
  where
    go : Follows k c row → (lengths_right k.state.shape b m ≡ true) ⊎ (lengths_right k.state.shape b m ≡ false) → Follows k (lends b m c) row
    go f (inl e) = follows_by (does k c) (flat_does (flat_with k row) (unseen k c) c) f.row' (does-right k b m c e) (flat-right k b m c row e) f.said-is f.flat-is f.ok-still f.n-is
    go f (inr e) = follows_no a 2 (does-wrong k b m c e ∙ ap (λ (o : Out). elsewhere o k) (wrong-lengths k.state c b m a.is_whole e)) (flat-wrong k b m c row e)
