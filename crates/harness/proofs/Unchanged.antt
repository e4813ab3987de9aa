-- A call that gives a refusal changes nothing; a refused fresh or open leaves the words of the zero state, unless a number of words is wrong.
use mathlib.Core.Path.{◌≡◌, refl, ap, ◌∙◌}
use mathlib.Core.List.{List}
use mathlib.Core.Bool.{false}
use mathlib.Core.Logic.{◌⊎◌, inl, inr, ⊎_elim}
use Prim.Native.Nat.{ℕ, ◌<◌, ◌≤◌}
use native.Mathlib.Omega.{arith}
use borrow.Author.Tests.{ne_eqb}
use lib.ListN.{get_or, replicate}
use Rattle.laws.proofs.Refusals.{refusal-hold, refused-or-not, unless-by}
use Rattle.tracker.specs.declared.Access.{Access}
use Rattle.tracker.specs.declared.Transfers.{Transfers}
use Rattle.tracker.specs.Transfers.{none}
use Rattle.tracker.specs.Answer.{Said, ok, wait, moved, read, done, same, no}
use Rattle.rules.specs.State.{State, zero_state}
use Rattle.rules.specs.Copies.{tally}
use Rattle.rules.specs.Calls as calls
use Rattle.rules.specs.Calls.{Out, issue, step_no, step, drain}
use Rattle.rules.proofs.Keeps.{is_no}
use Rattle.cache.proofs.Refusals.{step-refused}
use Rattle.coding.specs.Words.{coded, decoded, trackers_coded, tracker_coded}
use Rattle.coding.specs.Answer.{refused_by, number_of, answer_coded}
use Rattle.coding.proofs.Inverse.{coded-decoded}
use Rattle.harness.proofs.Back.{fresh-back, open-back, issue-back, step-accepted}
use Rattle.harness.specs.Calls.{Done, number_given, begins, tag_fresh, tag_open, word_tests, called, tag_issue, tag_drain, step_tests, tag_step}

-- the words and the bytes are as they came
abbrev pub Same : Done → List ℕ → List ℕ → List ℕ → Type 0
Same d w bytes memory = (d.words ≡ w) × (d.bytes ≡ bytes) × (d.memory ≡ memory)

-- the state and the bytes are as they came
abbrev Stays : Out → State → List ℕ → List ℕ → Type 0
Stays o s bytes memory = (o.state ≡ s) × (o.bytes ≡ bytes) × (o.memory ≡ memory)

-- a number of a refusal's size is a refusal's, where the write-backs are fewer
given-refused : (s : Said) (t : Transfers) → t.back < refused_by 0 → refused_by 0 ≤ number_given s t → 0 < number_of s
given-refused ok t f h = absurd (omega arith)
given-refused wait t f h = absurd (omega arith)
given-refused moved t f h = absurd (omega arith)
given-refused (read v k) t f h = absurd (omega arith)
given-refused (done k) t f h = absurd (omega arith)
given-refused (same k) t f h = absurd (omega arith)
given-refused (no c) t f h = omega arith

-- of issue and drain, from the same of the rules' call
module _ (f : State → Out) (w bytes memory : List ℕ) (few : (s : State) → (f s).transfers.back < refused_by 0)
    (stays : (s : State) → 0 < number_of (f s).said → Stays (f s) s bytes memory) where
  called_same : refused_by 0 ≤ (called f w bytes memory).number → Same (called f w bytes memory) w bytes memory
  unfolding called
  called_same =
      unless-by _ _ (λ (d : Done). refused_by 0 ≤ d.number → Same d w bytes memory)
      (λ e h. let q = stays (decoded w) (given-refused (f (decoded w)).said (f (decoded w)).transfers (few (decoded w)) h) in
      (ap coded q.0 ∙ coded-decoded w (refusal-hold (word_tests w) refl e).1.0, q.1, q.2))
      (λ p h. (refl, refl, refl))

module _ (s : State) (bytes memory : List ℕ) where
  issue-stays : (x : ℕ) (a : Access) → 0 < number_of (issue s bytes memory x a).said → Stays (issue s bytes memory x a) s bytes memory
  unfolding issue
  issue-stays x a =
      unless-by _ _ (λ (o : Out). 0 < number_of o.said → Stays o s bytes memory) (λ e h. absurd (omega arith)) (λ p h. (refl, refl, refl))

  drain-few : (drain s bytes memory).transfers.back < refused_by 0
  unfolding drain tally
  drain-few = unless-by _ _ (λ (o : Out). o.transfers.back < refused_by 0) (λ e. omega arith) (λ p. omega arith)

  drain-stays : 0 < number_of (drain s bytes memory).said → Stays (drain s bytes memory) s bytes memory
  unfolding drain
  drain-stays =
      unless-by _ _ (λ (o : Out). 0 < number_of o.said → Stays o s bytes memory) (λ e h. absurd (omega arith)) (λ p h. (refl, refl, refl))

module _ (w bytes memory : List ℕ) where
  pub issue-same : (x : ℕ) (a : Access) → refused_by 0 ≤ (tag_issue w bytes memory x a).number → Same (tag_issue w bytes memory x a) w bytes memory
  issue-same x a = called_same (λ s. issue s bytes memory x a) w bytes memory (λ s. omega (arith, issue-back s bytes memory x a)) (λ s. issue-stays s bytes memory x a)

  pub drain-same : refused_by 0 ≤ (tag_drain w bytes memory).number → Same (tag_drain w bytes memory) w bytes memory
  drain-same = called_same (λ s. drain s bytes memory) w bytes memory (λ s. drain-few s bytes memory) (λ s. drain-stays s bytes memory)

-- of a step
not-no : (s : Said) → is_no s ≡ false → number_of s ≡ 0
not-no ok e = refl
not-no wait e = refl
not-no moved e = refl
not-no (read v k) e = refl
not-no (done k) e = refl
not-no (same k) e = refl
not-no (no c) e = let z : ◌≡◌ {A = ℕ} 0 1 = cc in absurd (omega arith)

module _ (s : State) (bytes memory : List ℕ) (x : ℕ) where
  step_stays : 0 < number_of (step s bytes memory x).said → (c : ℕ) × (step s bytes memory x ≡ calls.refused c s bytes memory)
  step_stays h =
      ⊎_elim (λ e. absurd (omega (arith, not-no (step s bytes memory x).said (step-accepted s bytes memory x e))))
      (λ p. (step_no s bytes memory x, step-refused s bytes memory x (step_no s bytes memory x) refl p)) (refused-or-not (step_no s bytes memory x))

no_answer : (c : ℕ) (t : Transfers) (answer : List ℕ) → answer_coded (no c) t answer ≡ answer
no_answer c t answer = rw (ne_eqb (refused_by c) 0 (λ e. absurd (omega arith)))

module _ (w bytes memory : List ℕ) (x : ℕ) (answer : List ℕ) where
  pub step_same : 0 < (tag_step w bytes memory x answer).0.number → Same (tag_step w bytes memory x answer).0 w bytes memory × ((tag_step w bytes memory x answer).1 ≡ answer)
  unfolding tag_step
  step_same =
      unless-by _ _ (λ (d : Done × List ℕ). 0 < d.0.number → Same d.0 w bytes memory × (d.1 ≡ answer))
      (λ e h. let q = step_stays (decoded w) bytes memory x h in
      rw q.1 ((coded-decoded w (refusal-hold (step_tests w answer) refl e).1.1.0, refl, refl), no_answer q.0 none answer))
      (λ p h. ((refl, refl, refl), refl))

-- of fresh and open: the zero state's words are zero
zero-words : coded zero_state ≡ replicate 132 0
unfolding coded trackers_coded tracker_coded
zero-words = refl

module _ (n t l : ℕ) (bytes memory : List ℕ) where
  fresh-stays : 0 < number_of (calls.fresh n t l bytes memory).said → Stays (calls.fresh n t l bytes memory) zero_state bytes memory
  unfolding calls.fresh
  fresh-stays =
      unless-by _ _ (λ (o : Out). 0 < number_of o.said → Stays o zero_state bytes memory) (λ e h. absurd (omega arith)) (λ p h. (refl, refl, refl))

  open_stays : 0 < number_of (calls.opened n t l bytes memory).said → Stays (calls.opened n t l bytes memory) zero_state bytes memory
  unfolding calls.opened
  open_stays =
      unless-by _ _ (λ (o : Out). 0 < number_of o.said → Stays o zero_state bytes memory) (λ e h. absurd (omega arith)) (λ p h. (refl, refl, refl))

module _ (f : ℕ → ℕ → ℕ → Out) (device w bytes memory : List ℕ) where
  begins-same : ((n t l : ℕ) → (f n t l).transfers.back < refused_by 0) → ((n t l : ℕ) → 0 < number_of (f n t l).said → Stays (f n t l) zero_state bytes memory)
      → refused_by 0 ≤ (begins f device w bytes memory).number
      → (((begins f device w bytes memory).words ≡ w) ⊎ ((begins f device w bytes memory).words ≡ replicate 132 0)) × ((begins f device w bytes memory).bytes ≡ bytes) × ((begins f device w bytes memory).memory ≡ memory)
  unfolding begins
  begins-same few stays =
      unless-by _ _ (λ (d : Done). refused_by 0 ≤ d.number → ((d.words ≡ w) ⊎ (d.words ≡ replicate 132 0)) × (d.bytes ≡ bytes) × (d.memory ≡ memory))
      (λ e h. let o = f (get_or device 0 0) (get_or device 1 0) (get_or device 2 0) in
      let q = stays (get_or device 0 0) (get_or device 1 0) (get_or device 2 0) (given-refused o.said o.transfers (few (get_or device 0 0) (get_or device 1 0) (get_or device 2 0)) h) in (inr (ap coded q.0 ∙ zero-words), q.1, q.2))
      (λ p h. (inl refl, refl, refl))

module _ (device w bytes memory : List ℕ) where
  pub fresh-same : refused_by 0 ≤ (tag_fresh device w bytes memory).number
      → (((tag_fresh device w bytes memory).words ≡ w) ⊎ ((tag_fresh device w bytes memory).words ≡ replicate 132 0)) × ((tag_fresh device w bytes memory).bytes ≡ bytes) × ((tag_fresh device w bytes memory).memory ≡ memory)
  fresh-same = begins-same (λ n t l. calls.fresh n t l bytes memory) device w bytes memory (λ n t l. omega (arith, fresh-back n t l bytes memory)) (λ n t l. fresh-stays n t l bytes memory)

  pub open-same : refused_by 0 ≤ (tag_open device w bytes memory).number
      → (((tag_open device w bytes memory).words ≡ w) ⊎ ((tag_open device w bytes memory).words ≡ replicate 132 0)) × ((tag_open device w bytes memory).bytes ≡ bytes) × ((tag_open device w bytes memory).memory ≡ memory)
  open-same = begins-same (λ n t l. calls.opened n t l bytes memory) device w bytes memory (λ n t l. omega (arith, open-back n t l bytes memory)) (λ n t l. open_stays n t l bytes memory)
