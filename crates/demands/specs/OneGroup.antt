-- 02 E3, two accesses to one group: "000 relies on no second write updating a tag while one is under way." No group has a busy write beside another busy access.
use Rattle.std.specs.Prelude.{◌≡◌, true, false, List, ℕ}
use Rattle.tracker.specs.declared.Answer.{Answer}
use Rattle.tracker.specs.declared.Tracker.{Tracker}
use Rattle.tracker.specs.Tracker.{is_idle}
use Rattle.rules.specs.State.{tracker_at}
use Rattle.rules.specs.Run.{Call}
use Rattle.cache.specs.declared.State.{State}
use Rattle.session.specs.Session.{Starts, Session}

-- a busy tracker that has the group of a busy write is that write
abbrev pub WritesAlone : List Tracker → Type 0
WritesAlone us = (x y : ℕ) → is_idle (tracker_at us x) ≡ false → (tracker_at us x).write ≡ true
    → is_idle (tracker_at us y) ≡ false → (tracker_at us y).group ≡ (tracker_at us x).group → y ≡ x

-- in every state of every session of the code that begins with an accepted fresh or open
abbrev pub OneGroup : Type 0
OneGroup = (t : ℕ) (s s' : State) (b m b' m' : List ℕ) (cs : List Call) (answers : List Answer) → Starts t s b m → Session s b m cs answers s' b' m'
    → WritesAlone s'.trackers
