-- The start that the demands share: an accepted fresh or open leaves a state that agrees with what its memory reads, with every tracker idle; and a session from there is a run of the rules.
use mathlib.Core.Path.{◌≡◌, sym, ap, ◌∙◌, subst}
use mathlib.Core.Bool.{false}
use mathlib.Core.List.{List}
use Prim.Native.Nat.{ℕ}
use lib.ListN.{get_or}
use Rattle.laws.proofs.Writes.{get_d_replicate}
use Rattle.memory.specs.PlainReading.{plain_group_of}
use Rattle.geometry.specs.Shape.{shape_of, below_top, top_of}
use Rattle.geometry.proofs.Shapes.{below-start}
use Rattle.tracker.specs.declared.Phase.TheVariants.{Idle}
use Rattle.tracker.specs.declared.Answer.{Answer}
use Rattle.tracker.specs.Answer.{ok}
use Rattle.line.specs.Word.{changed}
use Rattle.line.proofs.Words.{free-changed}
use Rattle.rules.specs.State.{tracker_at}
use Rattle.rules.specs.State as rules
use Rattle.rules.specs.Calls as calls
use Rattle.rules.specs.Run.{Call, Kept, kept}
use Rattle.rules.proofs.Begun.{fresh-passed, open-passed, fresh-accepted, open-accepted}
use Rattle.flat.specs.Demand.{Value32, Values32}
use Rattle.flat.proofs.Follows.{Ok}
use Rattle.flat.proofs.Demand.{fresh-agrees, opened-agrees, fresh-idle, opened-idle}
use Rattle.cache.specs.declared.State.{State}
use Rattle.cache.specs.declared.Out.{Out}
use Rattle.session.specs.Session.{Starts, fresh, opened, Met, issued, stepped, drained, Session, over, then, lent, kept_of}

pub record Begun (t : ℕ) (k : Kept) : Type 0 where
  pub agrees : Ok k (plain_group_of (top_of k.state.shape) k.state.shape.n k.memory)
  pub idle : (x : ℕ) → (tracker_at k.state.trackers x).phase ≡ Idle
  pub clean : (i : ℕ) → changed (get_or k.state.lines i 0) ≡ false
  pub levels : below_top k.state.shape ≡ 0
  pub count : k.state.shape.t ≡ t

module _ (n t l : ℕ) (b m : List ℕ) where
  all-free : (o : calls.Out) → o.state.lines ≡ (rules.begun (shape_of n t l)).lines → (i : ℕ) → changed (get_or o.state.lines i 0) ≡ false
  all-free o e i = ap (λ (ls : List ℕ). changed (get_or ls i 0)) e ∙ ap changed (get_d_replicate 64 i 0) ∙ free-changed

  fresh-begun : (calls.fresh n t l b m).said ≡ ok → Begun t (kept (calls.fresh n t l b m))
  fresh-begun e = record {
    agrees = fresh-agrees n t l b m e;
    idle = fresh-idle n t l b m;
    clean = all-free (calls.fresh n t l b m) (ap (λ (o : calls.Out). o.state.lines) (fresh-accepted n t l b m (fresh-passed n t l b m e)));
    levels = ap (λ (o : calls.Out). below_top o.state.shape) (fresh-accepted n t l b m (fresh-passed n t l b m e)) ∙ below-start n t l;
    count = ap (λ (o : calls.Out). o.state.shape.t) (fresh-accepted n t l b m (fresh-passed n t l b m e));
  }

  opened-begun : (calls.opened n t l b m).said ≡ ok → Begun t (kept (calls.opened n t l b m))
  opened-begun e = record {
    agrees = opened-agrees n t l b m e;
    idle = opened-idle n t l b m;
    clean = all-free (calls.opened n t l b m) (ap (λ (o : calls.Out). o.state.lines) (open-accepted n t l b m (open-passed n t l b m e)));
    levels = ap (λ (o : calls.Out). below_top o.state.shape) (open-accepted n t l b m (open-passed n t l b m e)) ∙ below-start n t l;
    count = ap (λ (o : calls.Out). o.state.shape.t) (open-accepted n t l b m (open-passed n t l b m e));
  }

pub begun : (t : ℕ) (s : State) (b m : List ℕ) → Starts t s b m → Begun t (kept_of s b m)
begun t s b m (fresh n l b' m0 m' r e a) =
    subst (λ (o : calls.Out). Begun t (kept o)) (sym e) (fresh-begun n t l b m0 (sym (ap (λ (o : calls.Out). o.said) e) ∙ a))
begun t s b m (opened n l b' m' r e a) =
    subst (λ (o : calls.Out). Begun t (kept o)) (sym e) (opened-begun n t l b m (sym (ap (λ (o : calls.Out). o.said) e) ∙ a))

-- the values of a session are u32s
met-value : {s : State} {b m b' m' : List ℕ} {c : Call} {r : Out} → Met s b m c r b' m' → Value32 c
met-value (issued r x access q e) = q
met-value (stepped r b' m' x e) = tt
met-value (drained r m' e) = tt

pub session-values : {s s' : State} {b m b' m' : List ℕ} {cs : List Call} {answers : List Answer} → Session s b m cs answers s' b' m' → Values32 cs
session-values over = tt
session-values (then e p) = (met-value e, session-values p)
session-values (lent c r b0 m0 b1 m1 w e p) = (met-value e, session-values p)
