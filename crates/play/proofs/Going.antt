-- The loop over a chunk's lines: what holds at its first line, and after each line more.
use mathlib.Core.Path.{◌≡◌, refl, sym, ap, subst, ◌∙◌}
use mathlib.Core.Bool.{true, false}
use mathlib.Core.List.{List}
use Prim.Native.Nat.{ℕ, ◌+◌, ◌-◌, ◌≤◌, ◌<◌}
use native.Mathlib.Omega.{arith}
use lib.ListN.{length, set}
use Rattle.geometry.specs.TagMemory.{most_trackers}
use Rattle.laws.specs.Bytes.{part, splice, fits}
use Rattle.laws.proofs.Choice.{both_left, both_right, both_true, both-false-left, both-false-right}
use borrow.Author.Tests.{lt-ltb, le-ltb}
use Rattle.geometry.specs.declared.Shape.{Shape}
use Rattle.tracker.specs.declared.Tracker.{Tracker}
use Rattle.tracker.specs.Answer.{Said, says, no}
use Rattle.tracker.specs.declared.Transfers.{Transfers}
use Rattle.tracker.specs.Transfers.{none}
use Rattle.script.specs.Script.{Asks, asks_for}
use Rattle.text.specs.Text.{line_text, line_in, most}
use Rattle.rules.specs.State.{State, tracker_at, lengths_right}
use Rattle.rules.specs.Whole.{whole}
use Rattle.rules.specs.Step.{Turned}
use Rattle.rules.specs.Calls.{Out, stepped}
use Rattle.rules.specs.Run.{Kept}
use Rattle.rules.proofs.Calls.{Sound}
use Rattle.placing.specs.Lines.{rows}
use Rattle.outcome.specs.declared.Turned as left
use Rattle.outcome.specs.Steps.{turned}
use Rattle.turn.specs.declared.Asked.{Asked}
use Rattle.turn.specs.Turn.{named, takes, asked_turn}
use Rattle.turn.proofs.Does.{named-most, takes-turn, takes-kept}
use Rattle.play.specs.Play.{Played, asked_by, follows, refuses, line_end, goes_on, after, line_done, played}
use Rattle.play.specs.declared.Place.{Place}
use Rattle.play.specs.Seen.{Goes, Stops}
use Rattle.play.proofs.Chunk.{line_end-from, goes_on-end, taken_more, played-stops, played-turn}

-- what is left to do from p on is all that was to do from `begun` on
pub record Rest (rule : Kept → Asks → Out) (input : List ℕ) (begun p : Played) : Type 0 where
  pub within : p.taken ≤ length input
  pub same : played rule (length input - p.taken) input p ≡ played rule (length input) input begun

module _ (rule : Kept → Asks → Out) (input : List ℕ) where
  pub rest-start : (p : Played) → p.taken ≡ 0 → Rest rule input p p
  rest-start p z = record { within = omega arith; same = ap (λ (f : ℕ). played rule f input p) (omega arith) }

  pub rest_more : {begun p : Played} → Rest rule input begun p → goes_on input p ≡ true → Rest rule input begun (line_done rule input p)
  rest_more {begun} {p} r h =
      let e = goes_on-end input p h in
      let t = taken_more rule input p in
      record { within = omega arith; same = played-turn rule input p h ∙ r.same }

  pub rest-stops : {begun p : Played} → Rest rule input begun p → goes_on input p ≡ false → p ≡ played rule (length input) input begun
  rest-stops {begun} {p} r h = sym (played-stops rule input p (length input - p.taken) h) ∙ r.same

pub record Going (input : List ℕ) (begun p : Played) : Type 0 where
  pub rest : Rest follows input begun p
  pub is_whole : whole p.kept.state ≡ true
  pub right : lengths_right p.kept.state.shape p.kept.bytes p.kept.memory ≡ true

pub going_more : (input : List ℕ) {begun p : Played} → Going input begun p → goes_on input p ≡ true → Going input begun (line_done follows input p)
unfolding line_done
going_more input {begun} {p} g h =
    let a : Asks = asks_for (part input p.taken (line_end input p.taken - p.taken)) in
    let k : Sound p.kept.state.shape (follows p.kept a) = takes-kept p.kept.state p.kept.bytes p.kept.memory g.is_whole g.right (asked_by a) in
    record { rest = rest_more follows input g.rest h; is_whole = k.is_whole; right = k.right }

pub goes_on-fits : (input : List ℕ) (p : Played) → goes_on input p ≡ true → fits p.output p.written most ≡ true
unfolding goes_on
goes_on-fits input p h = both_left _ _ (both_right _ _ h)

pub line-in : (output : List ℕ) (written k : ℕ) (said : Said) (t : Transfers) → fits output written most ≡ true → line_in output written k said t ≡ line_text k said t
unfolding line_in
line-in output written k said t h = rw h

-- a chunk under way, by its parts
abbrev pub under : Shape → List ℕ → List Tracker → (bytes memory : List ℕ) → (number taken : ℕ) → List ℕ → (written : ℕ) → Played
under shape lines trackers bytes memory number taken output written =
    record {
      kept = record { state = record { shape = shape; lines = lines; trackers = trackers }; bytes = bytes; memory = memory };
      number = number;
      taken = taken;
      output = output;
      written = written;
    }

-- what a turn leaves is its `Out`
told : (s : State) (number taken : ℕ) (output : List ℕ) (written e x : ℕ) (bytes memory : List ℕ) (q : left.Turned) {want : Turned} {lines bytes' memory' output' : List ℕ} {written' : ℕ}
    → fits output written most ≡ true
    → turned q lines bytes' memory' ≡ want
    → output' ≡ splice output written (line_in output written (number + 1) (says q.answer) q.transfers)
    → written' ≡ written + length (line_in output written (number + 1) (says q.answer) q.transfers)
    → under q.shape lines (set s.trackers x q.tracker) bytes' memory' (number + 1) (e + 1) output' written'
    ≡ after (record { kept = record { state = s; bytes = bytes; memory = memory }; number = number; taken = taken; output = output; written = written }) e (stepped s x want)
told s number taken output written e x bytes memory q f st o v =
    rw (o, v, line-in output written (number + 1) (says q.answer) q.transfers f)
    (ap (λ (y : Turned). after (record { kept = record { state = s; bytes = bytes; memory = memory }; number = number; taken = taken; output = output; written = written }) e (stepped s x y)) st)

done_at : (rule : Kept → Asks → Out) (input : List ℕ) (p : Played) (e : ℕ) (a : Asks) → e ≡ line_end input p.taken → a ≡ asks_for (part input p.taken (e - p.taken))
    → after p e (rule p.kept a) ≡ line_done rule input p
unfolding line_done
done_at rule input p e a ee ae = rw (ae, ee) refl

-- one more line, as the code does it
pub going-line : (input : List ℕ) {begun : Played} (shape : Shape) (lines : List ℕ) (trackers : List Tracker) (bytes memory : List ℕ) (number taken : ℕ) (output : List ℕ) (written : ℕ)
    (e x : ℕ) (a : Asks) (b : Asked) (q : left.Turned) {lines' bytes' memory' output' : List ℕ} {written' : ℕ}
    → Going input begun (under shape lines trackers bytes memory number taken output written)
    → goes_on input (under shape lines trackers bytes memory number taken output written) ≡ true
    → e ≡ line_end input taken
    → a ≡ asks_for (part input taken (e - taken))
    → b ≡ asked_by a
    → x ≡ named shape.t b
    → turned q lines' bytes' memory' ≡ asked_turn shape b trackers (tracker_at trackers x) (rows lines bytes memory)
    → output' ≡ splice output written (line_in output written (number + 1) (says q.answer) q.transfers)
    → written' ≡ written + length (line_in output written (number + 1) (says q.answer) q.transfers)
    → Going input begun (under q.shape lines' (set trackers x q.tracker) bytes' memory' (number + 1) (e + 1) output' written')
going-line input {begun} shape lines trackers bytes memory number taken output written e x a b q g h ee ae be xe st o v =
    let s : State = record { shape = shape; lines = lines; trackers = trackers } in
    let p : Played = under shape lines trackers bytes memory number taken output written in
    let told_is = told s number taken output written e x bytes memory q (goes_on-fits input p h) st o v in
    let done : takes p.kept b ≡ stepped s (named shape.t b) (asked_turn shape b trackers (tracker_at trackers (named shape.t b)) (rows lines bytes memory)) =
    takes-turn s bytes memory g.is_whole g.right b in
    subst (λ (z : Played). Going input begun z)
    (sym (told_is
    ∙ ap (λ (y : ℕ). after p e (stepped s y (asked_turn shape b trackers (tracker_at trackers y) (rows lines bytes memory)))) xe
    ∙ ap (λ (d : Out). after p e d) (sym done)
    ∙ ap (λ (c : Asked). after p e (takes p.kept c)) be
    ∙ done_at follows input p e a ee ae))
    (going_more input g h)

-- one more line that is refused, as the code does it
pub refusing-line : (input : List ℕ) {begun : Played} (k : Kept) (number taken : ℕ) (output : List ℕ) (written e : ℕ) (t : Transfers) {output' : List ℕ} {written' : ℕ}
    → Rest refuses input begun (record { kept = k; number = number; taken = taken; output = output; written = written })
    → goes_on input (record { kept = k; number = number; taken = taken; output = output; written = written }) ≡ true
    → e ≡ line_end input taken
    → t ≡ none
    → output' ≡ splice output written (line_in output written (number + 1) (no 12) t)
    → written' ≡ written + length (line_in output written (number + 1) (no 12) t)
    → Rest refuses input begun (record { kept = k; number = number + 1; taken = e + 1; output = output'; written = written' })
refusing-line input {begun} k number taken output written e t r h ee te o v =
    let p : Played = record { kept = k; number = number; taken = taken; output = output; written = written } in
    subst (λ (q : Played). Rest refuses input begun q)
    (sym (rw (o, v, te, line-in output written (number + 1) (no 12) none (goes_on-fits input p h)) (done_at refuses input p e (asks_for (part input taken (e - taken))) ee refl)))
    (rest_more refuses input r h)

-- before the first line
pub going_start : (input : List ℕ) (shape : Shape) (lines : List ℕ) (trackers : List Tracker) (bytes memory : List ℕ) (number : ℕ) (output : List ℕ) {ls : List ℕ} {ts : List Tracker}
    → lines ≡ ls → trackers ≡ ts → whole (record { shape = shape; lines = ls; trackers = ts }) ≡ true → lengths_right shape bytes memory ≡ true
    → Going input (under shape lines trackers bytes memory number 0 output 0) (under shape lines trackers bytes memory number 0 output 0)
going_start input shape lines trackers bytes memory number output p q w r =
    record { rest = rest-start follows input (under shape lines trackers bytes memory number 0 output 0) refl; is_whole = rw (p, q) w; right = r }

-- what the code tests is whether it goes on
module _ (input output : List ℕ) (p : Place) where
  pub goes : (e : ℕ) → e ≡ line_end input p.taken → e < length input → fits output p.written most ≡ true → p.number < 18446744073709551615 → Goes input output p e
  unfolding goes_on
  goes e q l f n = (q, omega (arith, line_end-from input p.taken), l, n, λ k. both_true _ _ (lt-ltb _ _ (rw q at l)) (both_true _ _ f (lt-ltb _ _ n)))

  pub stops_end : (e : ℕ) → e ≡ line_end input p.taken → length input ≤ e → Stops input output p
  unfolding goes_on
  stops_end e q l k = both-false-left _ _ (le-ltb _ _ (rw q at l))

  pub stops-full : fits output p.written most ≡ false → Stops input output p
  unfolding goes_on
  stops-full f k = both-false-right _ _ (both-false-left _ _ f)

  pub stops-last : 18446744073709551615 ≤ p.number → Stops input output p
  unfolding goes_on
  stops-last n k = both-false-right _ _ (both-false-right _ _ (le-ltb _ _ n))

-- after the last line
pub going-stops : (input : List ℕ) (shape : Shape) (lines : List ℕ) (trackers : List Tracker) (bytes memory : List ℕ) (number : ℕ) (output : List ℕ) {p : Played} {ls : List ℕ} {ts : List Tracker}
    → lines ≡ ls → trackers ≡ ts → Going input (under shape lines trackers bytes memory number 0 output 0) p → goes_on input p ≡ false
    → p ≡ played follows (length input) input (under shape ls ts bytes memory number 0 output 0)
going-stops input shape lines trackers bytes memory number output {p} {ls} a b g h =
    rest-stops follows input g.rest h ∙ ap (λ (x : List ℕ). played follows (length input) input (under shape x trackers bytes memory number 0 output 0)) a
    ∙ ap (λ (x : List Tracker). played follows (length input) input (under shape ls x bytes memory number 0 output 0)) b

-- the tracker that is named is in the table
pub going-named : (input : List ℕ) {begun p : Played} → Going input begun p → (a : Asked) → named p.kept.state.shape.t a < most_trackers
going-named input {begun} {p} g a = named-most p.kept.state g.is_whole a
