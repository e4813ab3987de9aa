-- The log, computed: the flat machine's moments and the events, call by call.
use mathlib.Core.List.{List, [], ◌∷◌}
use mathlib.Core.Bool.{false}
use Prim.Native.Nat.{ℕ, suc}
use Rattle.rules.specs.Run.{Call, Kept}
use Rattle.flat.specs.Flat.{Effect, Flat, Given, flat_does}
use Rattle.flat.specs.Demand.{given, flat_of}
use Rattle.demands.specs.Event.{event}
use Rattle.demands.specs.Row.{Row, told}
use Rattle.demands.specs.Demand2.{not_yet, Entry, Log}
use Rattle.demands.proofs.Log.{Move, begins, goes_on, ends, neither, move_of, Pending, none, begun, past, put, more, shut}

pub record Watch : Type 0 where
  pub pend : ℕ → Pending
  pub count : ℕ
  pub log : ℕ → Entry

-- at call n, on the row as it was: the access of tracker x takes effect
abbrev pub taken_by : ℕ → Row → Watch → ℕ → Pending → Watch
taken_by n row w x none = w
taken_by n row w x (begun i a) = record {
  pend = put w.pend x (past w.count (told row a));
  count = suc w.count;
  log = more w.log w.count (record { tracker = x; access = a; issued = i; moment = n; ending = not_yet });
}
taken_by n row w x (past p b) = w

abbrev pub taken : ℕ → Row → Watch → List Effect → Watch
taken n row w [] = w
taken n row w (e ∷ es) = taken_by n row w e.who (w.pend e.who)

-- an access begins, or ends
abbrev pub closed_by : ℕ → Watch → ℕ → Pending → Watch
closed_by n w x none = w
closed_by n w x (begun i a) = w
closed_by n w x (past p b) = record { pend = put w.pend x none; count = w.count; log = shut w.log p n }

abbrev pub closed : ℕ → Watch → Move → Watch
closed n w (begins x a) = record { pend = put w.pend x (begun n a); count = w.count; log = w.log }
closed n w (ends x b) = closed_by n w x (w.pend x)
closed n w (goes_on x) = w
closed n w neither = w

abbrev pub watch_by : ℕ → Row → Watch → List Effect → Move → Watch
watch_by n row w es e = closed n (taken n row w es) e

unfoldable pub watched : ℕ → Flat → Watch → List Given → Watch
watched n f w [] = w
watched n f w (g ∷ gs) = watched (suc n) (flat_does f g.unseen g.call).flat
    (watch_by n f.row w (flat_does f g.unseen g.call).effect (move_of (event g.call (flat_does f g.unseen g.call).said))) gs

abbrev pub nothing_yet : Watch
nothing_yet = record {
  pend = λ x. none;
  count = 0;
  log = λ q. record { tracker = 0; access = record { write = false; bottom = false; group = 0; value = 0 }; issued = 0; moment = 0; ending = not_yet };
}

-- what is watched of a run, and its log
abbrev pub logged : Kept → List Call → Watch
logged k cs = watched 0 (flat_of k) nothing_yet (given k cs)

abbrev pub log_of : Watch → Log
log_of w = record { count = w.count; entry = w.log }
