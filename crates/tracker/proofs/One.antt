-- Each promise of this crate allows one result for one input; and an answer is told by what it says.
use mathlib.Core.Path.{◌≡◌, refl, sym, ◌∙◌}
use mathlib.Core.Bool.{Bool}
use Prim.Native.Nat.{ℕ}
use Rattle.tracker.specs.declared.Phase.{Phase}
use Rattle.tracker.specs.declared.Access.{Access}
use Rattle.tracker.specs.declared.Transfers.{Transfers}
use Rattle.tracker.specs.declared.Tracker.{Tracker}
use Rattle.tracker.specs.declared.Answer.{Answer}
use Rattle.tracker.specs.declared.Answer.TheVariants.{Accepted, Wait, Moved, Read, Done, Same, No}
use Rattle.tracker.specs.Transfers.{none, plus}
use Rattle.tracker.specs.Tracker.{idle, level_of, asks_at, keeps_at, after_probe, is_idle, read_of, write_of, issued, tick, goes_to, counted}
use Rattle.tracker.specs.Answer.{Said, ok, wait, moved, read, done, same, no, says}

-- the answer that says it
answer-of : Said → Answer
answer-of ok = Accepted
answer-of wait = Wait
answer-of moved = Moved
answer-of (read v k) = Read v k
answer-of (done k) = Done k
answer-of (same k) = Same k
answer-of (no c) = No c

back : (a : Answer) → answer-of (says a) ≡ a
unfolding answer-of
back Accepted = refl
back Wait = refl
back Moved = refl
back (Read v k) = refl
back (Done k) = refl
back (Same k) = refl
back (No c) = refl

pub says-one : (a b : Answer) → says a ≡ says b → a ≡ b
says-one a b e = cc (back a, back b)

pub level-one : (phase : Phase) {r s : ℕ} → r ≡ level_of phase → s ≡ level_of phase → r ≡ s
level-one phase p q = p ∙ sym q

pub asks-at-one : (phase : Phase) (e : ℕ) {r s : Bool} → r ≡ asks_at phase e → s ≡ asks_at phase e → r ≡ s
asks-at-one phase e p q = p ∙ sym q

pub keeps-at-one : (phase : Phase) (e : ℕ) {r s : Bool} → r ≡ keeps_at phase e → s ≡ keeps_at phase e → r ≡ s
keeps-at-one phase e p q = p ∙ sym q

pub after-probe-one : (top d : ℕ) {r s : Phase} → r ≡ after_probe top d → s ≡ after_probe top d → r ≡ s
after-probe-one top d p q = p ∙ sym q

pub one-more-one : (k : ℕ) {r s : ℕ} → r ≡ tick k → s ≡ tick k → r ≡ s
one-more-one k p q = p ∙ sym q

pub rest-one : {r s : Tracker} → r ≡ idle → s ≡ idle → r ≡ s
rest-one p q = p ∙ sym q

pub read-of-one : (bottom : Bool) (g : ℕ) {r s : Access} → r ≡ read_of bottom g → s ≡ read_of bottom g → r ≡ s
read-of-one bottom g p q = p ∙ sym q

pub write-of-one : (bottom : Bool) (g v : ℕ) {r s : Access} → r ≡ write_of bottom g v → s ≡ write_of bottom g v → r ≡ s
write-of-one bottom g v p q = p ∙ sym q

pub begin-one : (a : Access) {r s : Tracker} → r ≡ issued a → s ≡ issued a → r ≡ s
begin-one a p q = p ∙ sym q

pub none-one : {r s : Transfers} → r ≡ none → s ≡ none → r ≡ s
none-one p q = p ∙ sym q

pub plus_one : (a b : Transfers) {r s : Transfers} → r ≡ plus a b → s ≡ plus a b → r ≡ s
plus_one a b p q = p ∙ sym q

pub go-to-one : (t : Tracker) (phase : Phase) (more : Transfers) {r s : Tracker} → r ≡ goes_to t phase more → s ≡ goes_to t phase more → r ≡ s
go-to-one t phase more p q = p ∙ sym q

pub count-one : (t : Tracker) {r s : Tracker} → r ≡ counted t → s ≡ counted t → r ≡ s
count-one t p q = p ∙ sym q

pub is-idle-one : (t : Tracker) {r s : Bool} → r ≡ is_idle t → s ≡ is_idle t → r ≡ s
is-idle-one t p q = p ∙ sym q
