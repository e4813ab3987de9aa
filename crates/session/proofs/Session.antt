-- A session is a run of the rules: each promise is the rules' own next call.
use mathlib.Core.Path.{◌≡◌, refl, ap, ◌∙◌}
use mathlib.Core.Bool.{false}
use mathlib.Core.List.{List, ◌∷◌}
use Prim.Native.Nat.{ℕ}
use Rattle.tracker.specs.declared.Answer.{Answer}
use Rattle.tracker.specs.Answer.{Said, says}
use Rattle.rules.specs.State.{lengths_right}
use Rattle.rules.specs.Calls as calls
use Rattle.rules.specs.Run.{Call, lends, Kept, kept, elsewhere, does, ended}
use Rattle.rules.specs.Run as run
use Rattle.cache.specs.declared.State.{State}
use Rattle.cache.specs.declared.Out.{Out}
use Rattle.cache.specs.Seen.{did}
use Rattle.session.specs.Session.{Met, issued, stepped, drained, Session, over, then, lent, said, kept_of}

-- a promise is the rules' own call
pub met-does : {s : State} {b m b' m' : List ℕ} {c : Call} {r : Out} → Met s b m c r b' m' → did r b' m' ≡ does (kept_of s b m) c
unfolding does
met-does (issued r x access q e) = e
met-does (stepped r b' m' x e) = e
met-does (drained r m' e) = e

lent-does : (k : Kept) (b m : List ℕ) (c : Call) (o : calls.Out) → lengths_right k.state.shape b m ≡ false
    → o ≡ does (record { state = k.state; bytes = b; memory = m }) c → elsewhere o k ≡ does k (lends b m c)
unfolding does
lent-does k b m c o w e = rw w (ap (λ (z : calls.Out). elsewhere z k) e)

abbrev from : List Call → calls.Out → List Said
from cs o = o.said ∷ run.answers (kept o) cs

pub session-says : {s s' : State} {b m b' m' : List ℕ} {cs : List Call} {answers : List Answer} → Session s b m cs answers s' b' m'
    → said answers ≡ run.answers (kept_of s b m) cs
unfolding said run.answers
session-says over = refl
session-says (then {r = r} {cs = cs} e p) = ap (λ (z : List Said). says r.answer ∷ z) (session-says p) ∙ ap (from cs) (met-does e)
session-says {s = s} {b = b} {m = m} (lent {cs = cs} c r b0 m0 b1 m1 w e p) =
    ap (λ (z : List Said). says r.answer ∷ z) (session-says p) ∙ ap (from cs) (lent-does (kept_of s b m) b0 m0 c (did r b1 m1) w (met-does e))

pub session-leaves : {s s' : State} {b m b' m' : List ℕ} {cs : List Call} {answers : List Answer} → Session s b m cs answers s' b' m'
    → kept_of s' b' m' ≡ ended (kept_of s b m) cs
unfolding ended
session-leaves over = refl
session-leaves (then {cs = cs} e p) = session-leaves p ∙ ap (λ (z : calls.Out). ended (kept z) cs) (met-does e)
session-leaves {s = s} {b = b} {m = m} (lent {cs = cs} c r b0 m0 b1 m1 w e p) =
    session-leaves p ∙ ap (λ (z : calls.Out). ended (kept z) cs) (lent-does (kept_of s b m) b0 m0 c (did r b1 m1) w (met-does e))
