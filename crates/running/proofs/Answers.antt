-- Where the answers of a run stand: answer i in the `answer_words` words from `answer_words * i` on, and there it is the coding of what call i says, on what the calls before it pass on.
use mathlib.Core.Path.{◌≡◌, refl, ap, sym, ◌∙◌}
use mathlib.Core.List.{List}
use mathlib.Core.Logic.{⊎_elim, inl}
use Prim.Native.Nat.{ℕ, zero, suc, ◌+◌, ◌*◌, ◌≤◌, ◌<◌}
use native.Mathlib.Omega.{arith}
use lib.ListN.{length}
use Rattle.laws.specs.Bytes.{part, splice}
use Rattle.laws.specs.Refusal.{refusal}
use Rattle.laws.proofs.Splice.{length-splice, part_same, part-other, lt-or-ge}
use Rattle.laws.proofs.Refusals.{refusal-hold, unless-0}
use Rattle.tracker.specs.declared.Transfers.{Transfers}
use Rattle.tracker.specs.Answer.{Said, ok, wait, moved, read, done, same, no}
use Rattle.rules.specs.Calls.{Out}
use Rattle.rules.specs.Run.{Kept, ended}
use Rattle.turn.specs.Turn.{takes}
use Rattle.coding.specs.Words.{decoded}
use Rattle.harness.specs.Calls.{Done}
use Rattle.coding.specs.Answer.{answer_words, said_coded}
use Rattle.running.specs.Run.{call_words, calls_in, asked_in, ran, run_tests, tag_run}
use Rattle.running.proofs.Ways.{fit-answers}
use Rattle.running.proofs.Runs.{calls_to, ran-ended}

-- an answer's words
abbrev pub coded : Out → List ℕ
coded o = said_coded o.said o.transfers

length-said : (s : Said) (t : Transfers) → length (said_coded s t) ≡ answer_words
length-said ok t = refl
length-said wait t = refl
length-said moved t = refl
length-said (read v k) t = refl
length-said (done k) t = refl
length-said (same k) t = refl
length-said (no c) t = refl

-- what call i does, on what those before it pass on
abbrev pub call_does : Kept → List ℕ → ℕ → Out
call_does k calls i = takes (ended k (calls_to calls i)) (asked_in calls (call_words * i))

module _ (k : Kept) (calls answers : List ℕ) where
  -- the answers after i calls
  abbrev told : ℕ → List ℕ
  told i = (ran k calls answers i).answers

  told_more : (i : ℕ) → told (suc i) ≡ splice (told i) (answer_words * i) (coded (call_does k calls i))
  unfolding ran
  told_more i = ap (λ (j : Kept). splice (told i) (answer_words * i) (coded (takes j (asked_in calls (call_words * i))))) (ran-ended k calls answers i)

  long : (i : ℕ) → length (coded (call_does k calls i)) ≡ answer_words
  long i = length-said (call_does k calls i).said (call_does k calls i).transfers

  pub told-length : (n : ℕ) → answer_words * n ≤ length answers → length (told n) ≡ length answers
  unfolding ran
  told-length zero h = refl
  told-length (suc n) h =
      let before : length (told n) ≡ length answers = told-length n (omega arith) in
      ap length (told_more n) ∙ length-splice (told n) (answer_words * n) (coded (call_does k calls n)) (omega (arith, before, long n)) ∙ before

  -- one more call puts its own answer, and leaves those before it
  module _ (n : ℕ) (h : answer_words * suc n ≤ length answers) where
    room : answer_words * n + length (coded (call_does k calls n)) ≤ length (told n)
    room = omega (arith, told-length n (omega arith), long n)

    puts : part (told (suc n)) (answer_words * n) answer_words ≡ coded (call_does k calls n)
    puts = rw (told_more n) (ap (part (splice (told n) (answer_words * n) (coded (call_does k calls n))) (answer_words * n)) (sym (long n)) ∙ part_same (told n) (answer_words * n) (coded (call_does k calls n)) room)

    leaves : (i : ℕ) → i < n → part (told (suc n)) (answer_words * i) answer_words ≡ part (told n) (answer_words * i) answer_words
    leaves i l = rw (told_more n) (part-other (told n) (answer_words * n) (coded (call_does k calls n)) (answer_words * i) answer_words room (omega (arith, told-length n (omega arith))) (inl (omega arith)))

  -- answer i of any run
  pub answer_at : (n : ℕ) → answer_words * n ≤ length answers → (i : ℕ) → i < n → part (told n) (answer_words * i) answer_words ≡ coded (call_does k calls i)
  answer_at zero h i l = absurd (omega arith)
  answer_at (suc n) h i l =
      ⊎_elim (λ (p : i < n). leaves n h i p ∙ answer_at n (omega arith) i p)
      (λ (p : n ≤ i). let e : i ≡ n = omega arith in rw e (puts n h))
      (lt-or-ge i n)

-- so of `tag_run`, accepted
module _ (w bytes memory calls answers : List ℕ) (accepted : refusal (run_tests w bytes memory calls answers) ≡ 0) where
  abbrev given : Kept
  given = record { state = decoded w; bytes = bytes; memory = memory }

  pub run-answer : (i : ℕ) → i < calls_in calls → part (tag_run w bytes memory calls answers).1 (answer_words * i) answer_words ≡ coded (call_does given calls i)
  unfolding tag_run
  run-answer i l =
      let fit : length answers ≡ answer_words * calls_in calls = fit-answers w calls answers (refusal-hold (run_tests w bytes memory calls answers) refl accepted).0 in
      ap (λ (d : Done × List ℕ). part d.1 (answer_words * i) answer_words) (unless-0 _ _ accepted) ∙ answer_at given calls answers (calls_in calls) (omega (arith, fit)) i l
