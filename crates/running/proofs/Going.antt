-- A run under way: what is done is the first calls, and the state is whole.
use mathlib.Core.Path.{◌≡◌, refl, ap, sym, ◌∙◌, subst}
use mathlib.Core.List.{List}
use mathlib.Core.Bool.{true}
use Prim.Native.Nat.{ℕ, ◌+◌, ◌*◌, ◌<◌}
use native.Mathlib.Numerals.{add-one}
use lib.ListN.{set}
use Rattle.laws.specs.Bytes.{splice}
use Rattle.geometry.specs.TagMemory.{most_trackers}
use Rattle.geometry.specs.declared.Shape.{Shape}
use Rattle.tracker.specs.declared.Tracker.{Tracker}
use Rattle.tracker.specs.Answer.{says}
use Rattle.rules.specs.State.{State, tracker_at, lengths_right}
use Rattle.rules.specs.Whole.{whole}
use Rattle.rules.specs.Step.{Turned}
use Rattle.rules.specs.Calls.{Out, stepped}
use Rattle.rules.specs.Run.{Kept}
use Rattle.rules.proofs.Calls.{Sound}
use Rattle.placing.specs.Lines.{rows}
use Rattle.outcome.specs.declared.Turned as left
use Rattle.outcome.specs.Steps.{turned}
use Rattle.turn.specs.declared.Asked.{Asked}
use Rattle.turn.specs.Turn.{named, takes, asked_turn}
use Rattle.turn.proofs.Does.{named-most, takes-turn, takes-kept}
use Rattle.coding.specs.Answer.{said_coded}
use Rattle.running.specs.Run.{asked_in, Ran, after, ran}

pub record Going (k : Kept) (calls answers : List ℕ) (i : ℕ) (r : Ran) : Type 0 where
  pub is : r ≡ ran k calls answers i
  pub is_whole : whole r.kept.state ≡ true
  pub right : lengths_right r.kept.state.shape r.kept.bytes r.kept.memory ≡ true

-- a run under way, by its parts
abbrev pub under : Shape → List ℕ → List Tracker → (bytes memory answers : List ℕ) → Ran
under shape lines trackers bytes memory answers =
    record { kept = record { state = record { shape = shape; lines = lines; trackers = trackers }; bytes = bytes; memory = memory }; answers = answers }

-- before the first call
pub going_start : (calls : List ℕ) (shape : Shape) (lines : List ℕ) (trackers : List Tracker) (bytes memory answers : List ℕ) {ls : List ℕ} {ts : List Tracker}
    → lines ≡ ls → trackers ≡ ts → whole (record { shape = shape; lines = ls; trackers = ts }) ≡ true → lengths_right shape bytes memory ≡ true
    → Going (under shape lines trackers bytes memory answers).kept calls answers 0 (under shape lines trackers bytes memory answers)
unfolding ran
going_start calls shape lines trackers bytes memory answers p q w r = record { is = refl; is_whole = rw (p, q) w; right = r }

-- after the last
pub going-stops : (calls : List ℕ) (shape : Shape) (lines : List ℕ) (trackers : List Tracker) (bytes memory answers : List ℕ) {r : Ran} {ls : List ℕ} {ts : List Tracker} {i : ℕ} (n : ℕ)
    → lines ≡ ls → trackers ≡ ts → Going (under shape lines trackers bytes memory answers).kept calls answers i r → i ≡ n
    → r ≡ ran (under shape ls ts bytes memory answers).kept calls answers n
going-stops calls shape lines trackers bytes memory answers {ls = ls} {ts = ts} n p q g e =
    g.is ∙ ap (λ (m : ℕ). ran (under shape lines trackers bytes memory answers).kept calls answers m) e
    ∙ ap (λ (x : List ℕ). ran (under shape x trackers bytes memory answers).kept calls answers n) p
    ∙ ap (λ (x : List Tracker). ran (under shape ls x bytes memory answers).kept calls answers n) q

ran-more : (k : Kept) (calls answers : List ℕ) (i : ℕ) (r : Ran) → r ≡ ran k calls answers i
    → after r.answers (6 * i) (takes r.kept (asked_in calls (6 * i))) ≡ ran k calls answers (i + 1)
unfolding ran
ran-more k calls answers i r e = rw (add-one i, e) refl

-- one more call
going_more : {k : Kept} {calls answers : List ℕ} {i : ℕ} {r : Ran} → Going k calls answers i r
    → Going k calls answers (i + 1) (after r.answers (6 * i) (takes r.kept (asked_in calls (6 * i))))
going_more {k} {calls} {answers} {i} {r} g =
    let s : Sound r.kept.state.shape (takes r.kept (asked_in calls (6 * i))) = takes-kept r.kept.state r.kept.bytes r.kept.memory g.is_whole g.right (asked_in calls (6 * i)) in
    record { is = ran-more k calls answers i r g.is; is_whole = s.is_whole; right = s.right }

-- what a turn leaves is its `Out`
told : (s : State) (answers : List ℕ) (at x : ℕ) (q : left.Turned) {want : Turned} {lines bytes memory answers' : List ℕ}
    → turned q lines bytes memory ≡ want → answers' ≡ splice answers at (said_coded (says q.answer) q.transfers)
    → under q.shape lines (set s.trackers x q.tracker) bytes memory answers' ≡ after answers at (stepped s x want)
told s answers at x q st a = rw a (ap (λ (y : Turned). after answers at (stepped s x y)) st)

-- as the code does it
pub going-call : {k : Kept} {calls begun : List ℕ} {i : ℕ} (shape : Shape) (lines : List ℕ) (trackers : List Tracker) (bytes memory answers : List ℕ) (x : ℕ) (b : Asked) (q : left.Turned)
    {lines' bytes' memory' answers' : List ℕ}
    → Going k calls begun i (under shape lines trackers bytes memory answers)
    → ((j : Kept) → takes j b ≡ takes j (asked_in calls (6 * i)))
    → x ≡ named shape.t b
    → turned q lines' bytes' memory' ≡ asked_turn shape b trackers (tracker_at trackers x) (rows lines bytes memory)
    → answers' ≡ splice answers (6 * i) (said_coded (says q.answer) q.transfers)
    → Going k calls begun (i + 1) (under q.shape lines' (set trackers x q.tracker) bytes' memory' answers')
going-call {k} {calls} {begun} {i} shape lines trackers bytes memory answers x b q g be xe st o =
    let s : State = record { shape = shape; lines = lines; trackers = trackers } in
    let r : Ran = under shape lines trackers bytes memory answers in
    let done : takes r.kept b ≡ stepped s (named shape.t b) (asked_turn shape b trackers (tracker_at trackers (named shape.t b)) (rows lines bytes memory)) =
    takes-turn s bytes memory g.is_whole g.right b in
    subst (λ (z : Ran). Going k calls begun (i + 1) z)
    (sym (told s answers (6 * i) x q st o
    ∙ ap (λ (y : ℕ). after answers (6 * i) (stepped s y (asked_turn shape b trackers (tracker_at trackers y) (rows lines bytes memory)))) xe
    ∙ ap (λ (d : Out). after answers (6 * i) d) (sym done ∙ be r.kept)))
    (going_more g)

-- the tracker that is named is in the table
pub going-named : {k : Kept} {calls answers : List ℕ} {i : ℕ} {r : Ran} → Going k calls answers i r → (a : Asked) → named r.kept.state.shape.t a < most_trackers
going-named {r = r} g a = named-most r.kept.state g.is_whole a
