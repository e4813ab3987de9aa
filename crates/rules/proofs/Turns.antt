-- What a rule leaves: a whole state and lengths that are right. How a tracker ends, goes on and lets go of its lines.
use mathlib.Core.Path.{◌≡◌, sym, ap, ◌∙◌, subst, refl}
use mathlib.Core.Bool.{true, false, Bool}
use mathlib.Core.List.{List}
use Prim.Native.Nat.{ℕ, suc, ◌<◌}
use native.Mathlib.Omega.{arith}
use lib.ListN.{length, set}
use Rattle.geometry.specs.declared.Shape.{Shape}
use Rattle.geometry.specs.Shape.{top_of}
use Rattle.geometry.specs.TagMemory.{block_over, blocks_of}
use Rattle.laws.proofs.Choice.{not-both-ways, pick-by}
use Rattle.tracker.specs.declared.Tracker.{Tracker}
use Rattle.tracker.specs.Tracker.{idle, holds_at, asks_at, keeps_at, at as now-at, goes_to}
use Rattle.tracker.proofs.Phases.{loose-keeps}
use Rattle.line.specs.Word.{holder, block_of}
use Rattle.rules.specs.State.{Rows}
use Rattle.rules.specs.Whole.{phase_whole}
use Rattle.rules.specs.Place.{Brought, with_lines}
use Rattle.rules.specs.Step.{own_line, Turned, ends, goes, says_zero, let_go, lets_go}
use Rattle.rules.proofs.Lined.{at, Has, Kept, Claim, Lined, Fewer, unchanged, fewer-lined, line_of-has}
use Rattle.rules.proofs.Whole.{claims_of, LinedBy, Tracked, claim_of}
use Rattle.rules.proofs.Placed.{Shaped, unmoved, same-levels, AsLong, as_long}
use mathlib.Core.Logic.{⊎_elim}
use Rattle.laws.proofs.Splice.{lt-or-ge}
use Rattle.tracker.specs.declared.Phase.{Phase}
use Rattle.tracker.specs.declared.Phase.TheVariants.{Idle}
use Rattle.tracker.specs.declared.Transfers.{Transfers}
use Rattle.tracker.specs.Transfers.{none}
use Rattle.tracker.specs.Answer.{Said, ok, wait, moved, read, done, same, no as refusal}
use Rattle.rules.proofs.LetGo.{Its, line_of-its, let_go-length, let-go-lined}
use Rattle.rules.proofs.Trackers.{tracked-set, claims-other, claims-now, fewer-at, quiet}
use Rattle.rules.proofs.Situation.{Situation, group-ok, small, kept-holder, BringsIn, NobodyKeeps}

-- it is a refusal
abbrev pub is_no : Said → Bool
is_no ok = false
is_no wait = false
is_no moved = false
is_no (read v k) = false
is_no (done k) = false
is_no (same k) = false
is_no (refusal c) = true

-- what a rule leaves, for tracker x of ts
pub record Keeps (shape : Shape) (x : ℕ) (ts : List Tracker) (r : Rows) (o : Turned) : Type 0 where
  pub says : is_no o.said ≡ false
  pub shaped : Shaped shape o.shape
  pub lined : LinedBy shape (set ts x o.tracker) o.rows.lines
  pub tracked : Tracked (top_of shape) shape.n shape.t (set ts x o.tracker)
  pub long : AsLong r o.rows

module _ (sit : Situation) where
  abbrev shape : Shape
  shape = sit.shape

  abbrev n : ℕ
  n = shape.n

  abbrev t : ℕ
  t = shape.t

  abbrev l : ℕ
  l = shape.l

  abbrev x : ℕ
  x = sit.x

  abbrev ts : List Tracker
  ts = sit.ts

  abbrev r : Rows
  r = sit.r

  abbrev u : Tracker
  u = sit.u

  -- its block of level e, and the line of it
  abbrev block : ℕ → ℕ
  block e = block_over e n u.group

  abbrev own : ℕ → ℕ
  own e = own_line shape u r e

  abbrev Left : Turned → Type 0
  Left o = Keeps shape x ts r o

  xlong : x < length ts
  xlong = omega (arith, sit.tracked.long, sit.x_lt)

  -- it holds nothing before and after
  pub quietly : {ls : List ℕ} (u' : Tracker) → holds_at u.phase ≡ false → holds_at u'.phase ≡ false → LinedBy shape ts ls → LinedBy shape (set ts x u') ls
  quietly u' h h' v = quiet shape ts x u' xlong (ap (λ (w : Tracker). holds_at w.phase) sit.is-u ∙ h) h' v

  -- the others claim what they did once x is u'
  pub others_same : (u' : Tracker) (y : ℕ) → (y ≡ x → ⊥) → claims_of n (set ts x u') y ≡ claims_of n ts y
  others_same u' = claims-other n ts x u' xlong

  pub mine-now : (u' : Tracker) → claims_of n (set ts x u') x ≡ claim_of n u'
  mine-now u' = claims-now n ts x u' xlong

  pub turn-fewer : (u' : Tracker) (y e : ℕ) → (y ≡ x → Fewer (claim_of n u) (claim_of n u') e) → Fewer (claims_of n ts y) (claims_of n (set ts x u') y) e
  turn-fewer u' y e f = fewer-at n ts x u' xlong y e (λ q. subst (λ (w : Tracker). Fewer (claim_of n w) (claim_of n u') e) (sym sit.is-u) (f q))

  -- it goes on to a phase that keeps what it keeps, and asks for no more
  pub stays : {ls : List ℕ} (p : Phase) (m : Transfers) → ((e : ℕ) → keeps_at p (suc e) ≡ keeps_at u.phase (suc e)) → ((e : ℕ) → asks_at p (suc e) ≡ true → asks_at u.phase (suc e) ≡ true)
      → LinedBy shape ts ls → LinedBy shape (set ts x (goes_to u p m)) ls
  stays p m k a v = fewer-lined v (claims_of n (set ts x (goes_to u p m))) (λ y e el. turn-fewer (goes_to u p m) y (suc e) (λ _. record { keeps_same = k e; asks-fewer = a e; block_same = λ _. refl }))

  idle-tracked : Tracked (top_of shape) n t (set ts x idle)
  idle-tracked = tracked-set (top_of shape) n t ts x idle sit.tracked sit.x_lt (λ e. absurd (not-both-ways refl e)) refl

  pub goes-tracked : (p : Phase) (m : Transfers) → phase_whole (top_of shape) u.write u.bottom p ≡ true → Tracked (top_of shape) n t (set ts x (now-at u p m))
  goes-tracked p m e = tracked-set (top_of shape) n t ts x (now-at u p m) sit.tracked sit.x_lt (λ _. group-ok sit) e

  -- a block of each level that it keeps is in these lines where it was when the step began, or in none
  abbrev pub InPlace : List ℕ → Type 0
  InPlace ls = (e : ℕ) → e < top_of shape → keeps_at u.phase (suc e) ≡ true → Its ls (own (suc e)) (block (suc e))

  -- it lets go of its lines
  module _ (c : ℕ → Claim) (q : Rows) (v : Lined (blocks_of (top_of shape) n) l t (top_of shape) c q.lines) (rest : (y : ℕ) → (y ≡ x → ⊥) → c y ≡ claims_of n ts y)
      (keeps-as : (e : ℕ) → (c x).keeps (suc e) ≡ keeps_at u.phase (suc e)) (blocks-as : (e : ℕ) → (c x).block (suc e) ≡ block (suc e))
      (its : InPlace q.lines) (long : AsLong r q) where
    gone : LinedBy shape (set ts x idle) (let_go u.phase own (top_of shape) q.lines)
    gone = let-go-lined v (small sit) x sit.x_lt u.phase own (λ e el. keeps-as e) (λ e el k. rw (blocks-as e) (its e el (sym (keeps-as e) ∙ k)))
        (claims_of n (set ts x idle)) (λ y e el d. unchanged (others_same idle y d ∙ sym (rest y d)) (suc e))
        (λ e el. ap (λ (d : Claim). d.keeps (suc e)) (mine-now idle) ∙ loose-keeps Idle (suc e) refl)

    pub let-go : (a : Said) → is_no a ≡ false → (s : Shape) → Shaped shape s → (m : Transfers) → Left (lets_go a s u m own q)
    let-go a no-refusal s sh m =
        subst (λ (k : ℕ). Left (ends a s u m (with_lines q (let_go u.phase own (suc k) q.lines)))) (sym (same-levels sh))
        (record {
          says = no-refusal;
          shaped = sh;
          lined = gone;
          tracked = idle-tracked;
          long = record { lines_long = let_go-length u.phase own q.lines (top_of shape) ∙ long.lines_long; bytes-long = long.bytes-long; memory-long = long.memory-long };
        })

  -- where the trackers are those that the step found
  pub lets-go : (q : Rows) → LinedBy shape ts q.lines → InPlace q.lines → AsLong r q → (a : Said) → is_no a ≡ false → (s : Shape) → Shaped shape s → (m : Transfers) → Left (lets_go a s u m own q)
  lets-go q v = let-go (claims_of n ts) q v (λ y d. refl) (λ e. ap (λ (w : Tracker). keeps_at w.phase (suc e)) sit.is-u) (λ e. ap (λ (w : Tracker). block_over (suc e) n w.group) sit.is-u)

  -- its own lines at the beginning, and where a line that it does not keep was filled since
  pub its-first : (e : ℕ) → Its r.lines (own e) (block e)
  its-first e = line_of-its sit.lined.apart (block e)

  pub its-since : {ls : List ℕ} (b : ℕ) → LinedBy shape ts ls → NobodyKeeps sit b → ((j : ℕ) → 0 < holder (at r.lines j) → at ls j ≡ at r.lines j)
      → ((j d : ℕ) → (d ≡ b → ⊥) → Has ls j d → Has r.lines j d) → InPlace ls
  its-since {ls} b v free held-stay no_more e el k = record {
    only = λ j f. (its-first (suc e)).only j (no_more j (block (suc e)) not-b f);
    no_other = λ w. ⊎_elim (λ q. there q) (λ q. absurd (not-both-ways w (v.apart.above (own (suc e)) q))) (lt-or-ge (own (suc e)) l);
  }
    where
      not-b : block (suc e) ≡ b → ⊥
      not-b q = free x sit.x_lt (subst (λ (w : Tracker). Kept (top_of shape) (claim_of n w) b) (sym sit.is-u) (record { below = e; below-lt = el; is-kept = k; its-block = q }))

      there : own (suc e) < l → block_of (at ls (own (suc e))) ≡ block (suc e)
      there q =
          let f = line_of-has r.lines l (block (suc e)) q in
          let z = kept-holder sit e (own (suc e)) el k f in
          ap block_of (held-stay (own (suc e)) (omega arith)) ∙ f.is_block

  -- where a block that nobody keeps was brought in
  pub brought-go : (b : ℕ) (o : Brought) → NobodyKeeps sit b → BringsIn sit b o → (a : Said) → is_no a ≡ false → Left (lets_go a o.shape u o.copies own o.rows)
  brought-go b o free f a s = lets-go o.rows f.lined (its-since b f.lined free f.keeps f.others) f.long a s o.shape f.shaped o.copies

  -- a step that changes no row and ends, or goes on, from a phase that holds nothing to one
  module _ (h : holds_at u.phase ≡ false) where
    pub ends-here : (a : Said) → is_no a ≡ false → Left (ends a shape u none r)
    ends-here a s = record { says = s; shaped = unmoved sit.hand-lt; lined = quietly idle h refl sit.lined; tracked = idle-tracked; long = as_long }

    pub goes-here : (p : Phase) → holds_at p ≡ false → phase_whole (top_of shape) u.write u.bottom p ≡ true → Left (goes u p none shape r)
    goes-here p h' q = record { says = refl; shaped = unmoved sit.hand-lt; lined = quietly (goes_to u p none) h h' sit.lined; tracked = goes-tracked p _ q; long = as_long }

  pub says_zero-ok : is_no (says_zero u) ≡ false
  says_zero-ok = pick-by (λ (a : Said). is_no a ≡ false) u.write (λ _. refl) (λ _. refl)
