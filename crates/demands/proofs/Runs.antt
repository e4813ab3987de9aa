-- Every run of the rules on its own bytes is a session: what the rules do meets the promises of the code's calls.
use mathlib.Core.Path.{◌≡◌, refl, sym, ◌∙◌, subst}
use mathlib.Core.List.{List, [], ◌∷◌}
use Prim.Native.Nat.{ℕ, ◌<◌}
use Rattle.tracker.specs.declared.Access.{Access}
use Rattle.laws.proofs.Refusals.{unless-by}
use Rattle.tracker.specs.declared.Answer.{Answer}
use Rattle.tracker.specs.declared.Answer.TheVariants.{Accepted, Wait, Moved, Read, Done, Same, No}
use Rattle.tracker.specs.Answer.{Said, ok, wait, moved, read, done, same, says}
use Rattle.tracker.specs.Answer as Answers
use Rattle.rules.specs.State as rules
use Rattle.rules.specs.Calls as calls
use Rattle.rules.specs.Calls.{issue_no, issue, step, drain_no, drain}
use Rattle.rules.specs.Run.{Call, issues, steps, drains, lends, Kept, kept, does, answers, ended}
use Rattle.cache.specs.declared.State.{State}
use Rattle.cache.specs.declared.Out.{Out}
use Rattle.cache.specs.Seen.{did}
use Rattle.session.specs.Session.{Starts, fresh, opened, Met, issued, stepped, drained, Session, over, then, said}

abbrev pub state_of : rules.State → State
state_of s = record { shape = s.shape; lines = s.lines; trackers = s.trackers }

abbrev pub answer_of : Said → Answer
answer_of ok = Accepted
answer_of wait = Wait
answer_of moved = Moved
answer_of (read v k) = Read v k
answer_of (done k) = Done k
answer_of (same k) = Same k
answer_of (Answers.no c) = No c

says-answer : (a : Said) → says (answer_of a) ≡ a
says-answer ok = refl
says-answer wait = refl
says-answer moved = refl
says-answer (read v k) = refl
says-answer (done k) = refl
says-answer (same k) = refl
says-answer (Answers.no c) = refl

abbrev out_of : calls.Out → Out
out_of o = record { state = state_of o.state; answer = answer_of o.said; transfers = o.transfers }

did-out : (o : calls.Out) (b m : List ℕ) → o.bytes ≡ b → o.memory ≡ m → did (out_of o) b m ≡ o
did-out o b m p q = λ i. record { said = says-answer o.said i; state = o.state; bytes = sym p i; memory = sym q i; transfers = o.transfers }

-- what an issue and a drain leave
issue-bytes : (s : rules.State) (b m : List ℕ) (x : ℕ) (access : Access) → (issue s b m x access).bytes ≡ b
unfolding issue
issue-bytes s b m x access = unless-by {c = issue_no s b m x access} _ _ (λ (o : calls.Out). o.bytes ≡ b) (λ _. refl) (λ _. refl)

issue-memory : (s : rules.State) (b m : List ℕ) (x : ℕ) (access : Access) → (issue s b m x access).memory ≡ m
unfolding issue
issue-memory s b m x access = unless-by {c = issue_no s b m x access} _ _ (λ (o : calls.Out). o.memory ≡ m) (λ _. refl) (λ _. refl)

drain-bytes : (s : rules.State) (b m : List ℕ) → (drain s b m).bytes ≡ b
unfolding drain
drain-bytes s b m = unless-by {c = drain_no s b m} _ _ (λ (o : calls.Out). o.bytes ≡ b) (λ _. refl) (λ _. refl)

-- a call of a session, on its own bytes
abbrev pub Plain : Call → Type 0
Plain (issues x access) = access.value < 4294967296
Plain (steps x) = Unit {0}
Plain drains = Unit {0}
Plain (lends b m c) = ⊥

abbrev pub AllPlain : List Call → Type 0
AllPlain [] = Unit {0}
AllPlain (c ∷ cs) = Plain c × AllPlain cs

met_of : (k : Kept) (c : Call) → Plain c → Met (state_of k.state) k.bytes k.memory c (out_of (does k c)) (does k c).bytes (does k c).memory
unfolding does
met_of k (issues x access) h =
    let o = issue k.state k.bytes k.memory x access in
    let p = issue-bytes k.state k.bytes k.memory x access in
    let q = issue-memory k.state k.bytes k.memory x access in
    subst (λ (m : List ℕ). Met (state_of k.state) k.bytes k.memory (issues x access) (out_of o) o.bytes m) (sym q)
    (subst (λ (b : List ℕ). Met (state_of k.state) k.bytes k.memory (issues x access) (out_of o) b k.memory) (sym p)
    (issued (out_of o) x access h (did-out o k.bytes k.memory p q)))
met_of k (steps x) h = let o = step k.state k.bytes k.memory x in stepped (out_of o) o.bytes o.memory x (did-out o o.bytes o.memory refl refl)
met_of k drains h =
    let o = drain k.state k.bytes k.memory in
    let p = drain-bytes k.state k.bytes k.memory in
    subst (λ (b : List ℕ). Met (state_of k.state) k.bytes k.memory drains (out_of o) b o.memory) (sym p) (drained (out_of o) o.memory (did-out o k.bytes o.memory p refl))
met_of k (lends bytes memory c) h = elim h [ ]

abbrev pub answers_of : List Said → List Answer
answers_of [] = []
answers_of (a ∷ rest) = answer_of a ∷ answers_of rest

pub said-answers : (xs : List Said) → said (answers_of xs) ≡ xs
unfolding said
said-answers [] = refl
said-answers (a ∷ xs) = rw (said-answers xs, says-answer a)

pub session-of : (k : Kept) (cs : List Call) → AllPlain cs
    → Session (state_of k.state) k.bytes k.memory cs (answers_of (answers k cs)) (state_of (ended k cs).state) (ended k cs).bytes (ended k cs).memory
unfolding answers ended
session-of k [] h = over
session-of k (c ∷ cs) h = then (met_of k c h.0) (session-of (kept (does k c)) cs h.1)

pub fresh-starts : (n t l : ℕ) (b m : List ℕ) → (calls.fresh n t l b m).said ≡ ok → (calls.fresh n t l b m).bytes ≡ b
    → Starts t (state_of (calls.fresh n t l b m).state) b (calls.fresh n t l b m).memory
fresh-starts n t l b m e q =
    let o = calls.fresh n t l b m in fresh n l b m o.memory (out_of o) (did-out o b o.memory q refl) (says-answer o.said ∙ e)

pub opened-starts : (n t l : ℕ) (b m : List ℕ) → (calls.opened n t l b m).said ≡ ok → (calls.opened n t l b m).bytes ≡ b → (calls.opened n t l b m).memory ≡ m
    → Starts t (state_of (calls.opened n t l b m).state) b m
opened-starts n t l b m e q q' = let o = calls.opened n t l b m in opened n l b m (out_of o) (did-out o b m q q') (says-answer o.said ∙ e)
