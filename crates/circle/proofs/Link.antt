-- The link from the rules to the table: in a ready state a busy tracker's step moves it as the table says, `held` being that another tracker holds its top block, and leaves the other trackers.
use mathlib.Core.Path.{◌≡◌, refl, sym, ap, ◌∙◌, subst}
use mathlib.Core.Logic.{◌≢◌, ◌⊎◌, inl, inr}
use mathlib.Core.Bool.{Bool, true, false}
use Prim.Native.Nat.{ℕ, zero, suc, ◌<◌, min}
use native.Mathlib.Omega.{arith}
use native.Mathlib.Decide.{ℕ_discrete}
use lib.Dec.{ltb}
use lib.ListN.{length, set}
use lib.Seq.{get_or-set_same, get_or-set_other}
use Rattle.laws.proofs.Choice.{not-both-ways, true-or-false, pick-by}
use Rattle.geometry.specs.declared.Shape.{Shape}
use Rattle.geometry.specs.Shape.{at_hand, below_top}
use Rattle.geometry.proofs.Shapes.{below-hand}
use Rattle.tracker.specs.declared.Access.{Access}
use Rattle.tracker.specs.declared.Phase.{Phase}
use Rattle.tracker.specs.declared.Phase.TheVariants.{Idle, Probe, Top, Under, Set, Clear}
use Rattle.tracker.specs.declared.Tracker.{Tracker}
use Rattle.tracker.specs.Tracker.{idle, is_idle, level_of, issued, tick, most_turns}
use Rattle.tracker.specs.Answer.{Said, ok, wait, moved, read, done, same}
use Rattle.tracker.specs.Answer as Answer
use Rattle.rules.specs.Step.{Turned, turn_of}
use Rattle.rules.specs.Calls.{Out, accepted, with_tracker, stepped}
use Rattle.rules.specs.Run.{issues, steps, Kept, kept, rows_of, does}
use Rattle.rules.proofs.Ways.{top_held}
use Rattle.rules.proofs.Another.{Another}
use Rattle.rules.proofs.Calls.{step_is, step-sound}
use Rattle.circle.specs.Table.{Move, waits, to, ends, onward, rule}
use Rattle.circle.proofs.Ending.{Ending}
use Rattle.circle.proofs.Circle.{tracker_in}
use Rattle.circle.proofs.ByTable.{Moved, Way, refused, moves, turn-way}
use Rattle.circle.proofs.Ready.{Ready, long, never-refused, top_block, another, nobody}

-- two shapes that are the same but for the hand
pub record ButHand (a b : Shape) : Type 0 where
  pub levels : below_top a ≡ below_top b
  pub leaves : a.n ≡ b.n
  pub count : a.t ≡ b.t

pub but-hand : (a b : Shape) (h : ℕ) → a ≡ at_hand b h → ButHand a b
but-hand a b h e = record { levels = ap below_top e ∙ below-hand b h; leaves = ap (λ (z : Shape). z.n) e; count = ap (λ (z : Shape). z.t) e }

pub but-then : {a b c : Shape} → ButHand a b → ButHand b c → ButHand a c
but-then p q = record { levels = p.levels ∙ q.levels; leaves = p.leaves ∙ q.leaves; count = p.count ∙ q.count }

-- one tracker made anew, the others as they were
pub record Anew (k k' : Kept) (x : ℕ) (t : Tracker) : Type 0 where
  pub shape_is : ButHand k'.state.shape k.state.shape
  pub own : tracker_in k' x ≡ t
  pub other : (y : ℕ) → y ≢ x → tracker_in k' y ≡ tracker_in k y

pub anew : (k k' : Kept) (x : ℕ) (t : Tracker) → Ready k → x < k.state.shape.t → (h : ℕ) → k'.state.shape ≡ at_hand k.state.shape h
    → k'.state.trackers ≡ set k.state.trackers x t → Anew k k' x t
anew k k' x t s l h z e = record {
  shape_is = but-hand k'.state.shape k.state.shape h z;
  own = let m : x < length k.state.trackers = let q = long k s in omega arith in rw e (get_or-set_same k.state.trackers x t idle m);
  other = λ y ne. rw e (get_or-set_other k.state.trackers x y t idle ne);
}

-- an accepted issue
pub anew-issued : (k : Kept) → Ready k → (x : ℕ) (access : Access) → x < k.state.shape.t
    → does k (issues x access) ≡ accepted (with_tracker k.state x (issued access)) k.bytes k.memory → Anew k (kept (does k (issues x access))) x (issued access)
anew-issued k s x access h is =
    anew k (kept (does k (issues x access))) x (issued access) s h k.state.shape.hand (ap (λ (o : Out). o.state.shape) is) (ap (λ (o : Out). o.state.trackers) is)

-- what holds of each tracker: by the one made anew and the others
pub each : (P : ℕ → Tracker → Type 0) (k k' : Kept) (x : ℕ) (t : Tracker) → Anew k k' x t → P x t → ((y : ℕ) → y ≢ x → P y (tracker_in k y)) → (y : ℕ) → P y (tracker_in k' y)
each P k k' x t a own others y = at (ℕ_discrete y x)
  where
    at : Dec (y ≡ x) → P y (tracker_in k' y)
    at (yes q) = rw (q, a.own) own
    at (no ne) = rw (a.other y ne) (others y ne)

-- the step of tracker x as a move of the table: what decided it, the tracker that it leaves, and at Top that `held` says another tracker holds the top block
pub record Stepped (k : Kept) (x : ℕ) : Type 0 where
  pub held : Bool
  pub quit : Bool
  pub set : Bool
  pub left : Tracker
  pub level : level_of (tracker_in k x).phase < suc (below_top k.state.shape)
  pub by-rule : Moved (tracker_in k x) (rule (below_top k.state.shape) held quit set (tracker_in k x).write (tracker_in k x).phase) (does k (steps x)).said left
  pub made : Anew k (kept (does k (steps x))) x left
  pub held-is : (tracker_in k x).phase ≡ Top → held ≡ true → Another k.state x (top_block k x)
  pub free-is : (tracker_in k x).phase ≡ Top → held ≡ false → Another k.state x (top_block k x) → ⊥

-- that move
abbrev pub move_of : (k : Kept) (x : ℕ) → Stepped k x → Move Phase
move_of k x r = rule (below_top k.state.shape) r.held r.quit r.set (tracker_in k x).write (tracker_in k x).phase

module _ (k : Kept) (s : Ready k) (x : ℕ) (h : x < k.state.shape.t) (b : is_idle (tracker_in k x) ≡ false) where
  abbrev turned : Turned
  turned = turn_of k.state.shape x (tracker_in k x) (rows_of k)

  is_turned : does k (steps x) ≡ stepped k.state x turned
  unfolding does
  is_turned = step_is k.state k.bytes k.memory s.0 s.1 x h b

  same_shape : (does k (steps x)).state.shape ≡ at_hand k.state.shape (does k (steps x)).state.shape.hand
  unfolding does
  same_shape = (step-sound k.state k.bytes k.memory s.0 s.1 x h b).is-shape

  pub by-table : Stepped k x
  by-table = at (turn-way k.state.shape x (tracker_in k x) (rows_of k))
    where
      at : Way (below_top k.state.shape) (tracker_in k x) (top_held k.state.shape (tracker_in k x) (rows_of k)) (tracker_in k x).write (tracker_in k x).phase turned → Stepped k x
      at (refused c e) = absurd (never-refused k s x c h b (ap (λ (o : Out). o.said) is_turned ∙ e))
      at (moves quit set l m) = record {
        held = top_held k.state.shape (tracker_in k x) (rows_of k);
        quit = quit;
        set = set;
        left = turned.tracker;
        level = l;
        by-rule = rw (ap (λ (o : Out). o.said) is_turned) m;
        made = anew k (kept (does k (steps x))) x turned.tracker s h (does k (steps x)).state.shape.hand same_shape (ap (λ (o : Out). o.state.trackers) is_turned);
        held-is = another k s x;
        free-is = nobody k s x;
      }

-- What a move of the table means for the access: busy still, it is the same access with one turn more; an ending says its turns.
pub record Same (t t' : Tracker) : Type 0 where
  pub write : t'.write ≡ t.write
  pub bottom : t'.bottom ≡ t.bottom
  pub group : t'.group ≡ t.group
  pub turns : t'.turns ≡ tick t.turns

pub still-busy : (t t' : Tracker) (m : Move Phase) (said : Said) → Moved t m said t' → is_idle t' ≡ false → Same t t'
still-busy t t' waits said h b = rw h.1 (record { write = refl; bottom = refl; group = refl; turns = refl })
still-busy t t' (to p) said h b = rw h.1 (record { write = refl; bottom = refl; group = refl; turns = refl })
still-busy t t' ends said h b = absurd (not-both-ways (ap is_idle h.1) b)

one-ending : (a : Said) (m n : ℕ) → Ending a m → Ending a n → m ≡ n
one-ending ok m n p q = absurd p
one-ending wait m n p q = absurd p
one-ending moved m n p q = absurd p
one-ending (read v k) m n p q = sym p ∙ q
one-ending (done k) m n p q = sym p ∙ q
one-ending (same k) m n p q = sym p ∙ q
one-ending (Answer.no c) m n p q = absurd p

ending-says : (t t' : Tracker) (m : Move Phase) (said : Said) (c : ℕ) → Moved t m said t' → Ending said c → c ≡ tick t.turns
ending-says t t' waits said c h e = absurd (subst (λ (a : Said). Ending a c) h.0 e)
ending-says t t' (to p) said c h e = absurd (subst (λ (a : Said). Ending a c) h.0 e)
ending-says t t' ends said c h e = one-ending said c (tick t.turns) e h.0

-- "it stays at 65,535 once there"
pub tick-min : (n a : ℕ) → n ≡ min a most_turns → tick n ≡ min (suc a) most_turns
tick-min n a e = omega arith

pub ending-counts : (k : Kept) (x said a : ℕ) (r : Stepped k x) → Ending (does k (steps x)).said said → (tracker_in k x).turns ≡ min a most_turns → said ≡ min (suc a) most_turns
ending-counts k x said a r e q =
    ending-says (tracker_in k x) r.left (move_of k x r) (does k (steps x)).said said r.by-rule e
    ∙ tick-min (tracker_in k x).turns a q

-- A wait comes exactly from Top under another's hold.
abbrev WaitsAt : (held : Bool) → Phase → Move Phase → Type 0
WaitsAt held p waits = (p ≡ Top) × (held ≡ true)
WaitsAt held p (to q) = Unit {0}
WaitsAt held p ends = Unit {0}

onward-goes : (below : ℕ) (held quit : Bool) (d : ℕ) (p q : Phase) → WaitsAt held p (onward below quit d q)
onward-goes below held true d p q = tt
onward-goes below held false d p q = pick-by (WaitsAt held p) (ltb d below) (λ _. tt) (λ _. tt)

rule-waits : (below : ℕ) (held quit set write : Bool) (p : Phase) → WaitsAt held p (rule below held quit set write p)
rule-waits below held quit set write Idle = tt
rule-waits below held true set write (Probe d) = tt
rule-waits below held false set write (Probe d) = tt
rule-waits below true quit set write Top = (refl, refl)
rule-waits below false true set write Top = tt
rule-waits below false false set write Top = tt
rule-waits below held quit set false (Under zero) = tt
rule-waits below held true set true (Under zero) = tt
rule-waits below held false set true (Under zero) = tt
rule-waits below held true set write (Under (suc e)) = tt
rule-waits below held false set write (Under (suc e)) = tt
rule-waits below held quit set write (Set d) = onward-goes below held quit d (Set d) (Set (suc d))
rule-waits below held quit set write (Clear d) = onward-goes below held quit d (Clear d) (Clear (suc d))

said-waits : (t t' : Tracker) (m : Move Phase) (said : Said) → Moved t m said t' → said ≡ wait → m ≡ waits
said-waits t t' waits said h e = refl
said-waits t t' (to p) said h e = absurd (let q : moved ≡ wait = sym h.0 ∙ e in let z : ◌≡◌ {A = ℕ} 0 1 = cc in omega arith)
said-waits t t' ends said h e = absurd (subst (λ (a : Said). Ending a (tick t.turns)) e h.0)

module _ (k : Kept) (s : Ready k) (x : ℕ) (h : x < k.state.shape.t) (b : is_idle (tracker_in k x) ≡ false) where
  pub wait-held : (does k (steps x)).said ≡ wait → ((tracker_in k x).phase ≡ Top) × Another k.state x (top_block k x)
  wait-held e =
      let q = at_top in (q.0, r.held-is q.0 q.1)
    where
      r : Stepped k x
      r = by-table k s x h b

      at_top : ((tracker_in k x).phase ≡ Top) × (r.held ≡ true)
      at_top = subst (WaitsAt r.held (tracker_in k x).phase) {x = move_of k x r} (said-waits (tracker_in k x) r.left (move_of k x r) (does k (steps x)).said r.by-rule e)
          (rule-waits (below_top k.state.shape) r.held r.quit r.set (tracker_in k x).write (tracker_in k x).phase)

  pub held-waits : (tracker_in k x).phase ≡ Top → Another k.state x (top_block k x) → (does k (steps x)).said ≡ wait
  held-waits at_top a = at (true-or-false r.held)
    where
      r : Stepped k x
      r = by-table k s x h b

      at : (r.held ≡ true) ⊎ (r.held ≡ false) → (does k (steps x)).said ≡ wait
      at (inl e) = (rw (e, at_top) at r.by-rule).0
      at (inr e) = absurd (r.free-is at_top e a)
