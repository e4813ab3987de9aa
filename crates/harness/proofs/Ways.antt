-- A law for each way out of a call on words.
use mathlib.Core.Path.{◌≡◌, refl, ap, sym, ◌∙◌}
use mathlib.Core.List.{List, [], ◌∷◌}
use mathlib.Core.Bool.{Bool, true, false}
use mathlib.Core.Logic.{⊎_elim}
use Prim.Native.Nat.{ℕ, ◌+◌, ◌-◌, ◌*◌, ◌≤◌, ◌<◌}
use native.Mathlib.Omega.{arith}
use borrow.Author.Tests.{eq-eqb, ne_eqb, lt-ltb, le-ltb, eqb-true}
use lib.Dec.{eqb, ltb}
use lib.ListN.{length, get_or}
use Rattle.laws.specs.Choice.{pick, both, one}
use Rattle.std.specs.Prelude.{Option, Some, None, MatchOption}
use Rattle.std.specs.Option.{ok_or}
use Rattle.laws.specs.declared.Refusal.{Refusal}
use Rattle.laws.specs.declared.Refusal.TheVariants.{BrokenState}
use Rattle.laws.specs.Refusal.{number, refused_with, refusal, unless}
use Rattle.laws.proofs.Choice.{both-when, both-false-left}
use Rattle.laws.proofs.Splice.{lt-or-ge}
use Rattle.laws.proofs.Refusals.{refusal-0, refusal-hold, refusal-first, unless-0, unless-no}
use Rattle.geometry.specs.Shape.{top_of}
use Rattle.geometry.specs.TagMemory.{groups, values}
use Rattle.geometry.proofs.Places.{groups-most}
use Rattle.geometry.proofs.Levels.{leaves-most}
use Rattle.line.specs.Find.{line_of}
use Rattle.tracker.specs.declared.Transfers.{Transfers}
use Rattle.tracker.specs.Answer.{Said, ok, wait, moved, read, done as ended, same, no}
use Rattle.rules.specs.State.{State, zero_state}
use Rattle.rules.specs.Whole.{whole}
use Rattle.rules.specs.Calls.{Out, issue_no, issue_tests, issue, step, show_no, show}
use Rattle.rules.proofs.Whole.{in_limits-of, whole-facts}
use Rattle.cache.specs.declared.State as code
use Rattle.cache.specs.Seen.{seen, unfit}
use Rattle.cache.proofs.Refusals.{issue-unfit, issue-fit, issue-refused, fit-whole}
use Rattle.coding.specs.Words.{state_words, coded, decoded, codes}
use Rattle.coding.specs.Seen.{is_coded, coded_state}
use Rattle.coding.specs.Answer.{refused_by, number_of, answer_words, answer_coded}
use Rattle.laws.proofs.Told.{number-some}
use Rattle.harness.specs.Calls.{Done, number_given, done, refused, gives, step_gives, device_words, begin_tests, begins, word_tests, called, access_of, step_tests, tag_step, shown_at, tag_show, tag_whole}

-- the words that a call leaves where there are as many as a state has
left-words : (w : List ℕ) {r : List ℕ} (v : List ℕ) → length w ≡ state_words → r ≡ pick (eqb (length w) state_words) v w → r ≡ v
left-words w v e q = q ∙ rw (eq-eqb (length w) state_words e)

-- what a call gives, from what it did
gives-is : (o : Out) (w : List ℕ) {k : ℕ} {r : List ℕ} → length w ≡ state_words → k ≡ number_given o.said o.transfers → r ≡ pick (eqb (length w) state_words) (coded o.state) w
    → done k r o.bytes o.memory ≡ gives o
gives-is o w e p q = rw (p, left-words w (coded o.state) e q)

-- the state that is taken from words which code one
pub decoded-is : {u : State} (w : List ℕ) → codes w ≡ true → u ≡ pick (codes w) (decoded w) zero_state → u ≡ decoded w
decoded-is w c s = s ∙ rw c

-- fresh and open: a device of another length, then words of another length
module _ (device w : List ℕ) where
  pub device-2 : (length device ≡ device_words → ⊥) → 2 ≡ refusal (begin_tests device w)
  device-2 h = sym (refusal-first [] _ 2 _ tt (ne_eqb (length device) device_words h))

  pub device-state : length device ≡ device_words → (length w ≡ state_words → ⊥) → 2 ≡ refusal (begin_tests device w)
  device-state d h = sym (refusal-first ((eqb (length device) device_words, 2) ∷ []) _ 2 [] (eq-eqb (length device) device_words d, tt) (ne_eqb (length w) state_words h))

  pub device-0 : length device ≡ device_words → length w ≡ state_words → 0 ≡ refusal (begin_tests device w)
  device-0 d e = sym (refusal-0 (begin_tests device w) (eq-eqb (length device) device_words d, (eq-eqb (length w) state_words e, tt)))

module _ (f : ℕ → ℕ → ℕ → Out) (device w bytes memory : List ℕ) where
  pub begins-refused : (r : Refusal) → number r ≡ refusal (begin_tests device w) → done (refused_by (number r)) w bytes memory ≡ begins f device w bytes memory
  unfolding begins
  begins-refused r e = rw (← e) (sym (unless-no _ _ (number-some r)))

  begins-is : 0 ≡ refusal (begin_tests device w) → begins f device w bytes memory ≡ gives (f (get_or device 0 0) (get_or device 1 0) (get_or device 2 0))
  unfolding begins
  begins-is z = unless-0 _ _ (sym z)

  -- a device that is not refused has a state's words beside it
  begins-long : 0 ≡ refusal (begin_tests device w) → length w ≡ state_words
  begins-long z = eqb-true _ _ (refusal-hold (begin_tests device w) refl (sym z)).1.0

-- words and their refusals, 2 and 4
module _ (w : List ℕ) where
  pub words-2 : (length w ≡ state_words → ⊥) → refusal (word_tests w) ≡ 2
  words-2 h = refusal-first [] _ 2 _ tt (ne_eqb (length w) state_words h)

  pub words-4 : length w ≡ state_words → codes w ≡ false → refusal (word_tests w) ≡ 4
  words-4 e c = refusal-first ((eqb (length w) state_words, 2) ∷ []) _ 4 [] (eq-eqb (length w) state_words e, tt) c

  pub words-0 : length w ≡ state_words → codes w ≡ true → refusal (word_tests w) ≡ 0
  words-0 e c = refusal-0 (word_tests w) (eq-eqb (length w) state_words e, (c, tt))

-- so they are told
pub told-words : (w : List ℕ) (o : Option code.State) → length w ≡ state_words → is_coded o ≡ codes w → refused_with (ok_or o BrokenState) ≡ refusal (word_tests w)
told-words w None e c = sym (words-4 w e (sym c))
told-words w (Some s) e c = sym (words-0 w e (sym c))

-- words that are not refused are as many as a state has
words-long : (w : List ℕ) → 0 ≡ refusal (word_tests w) → length w ≡ state_words
words-long w z = eqb-true _ _ (refusal-hold (word_tests w) refl (sym z)).0

module _ (f : State → Out) (w bytes memory : List ℕ) where
  pub called-no : (c : ℕ) → refusal (word_tests w) ≡ c → 0 < c → called f w bytes memory ≡ refused c w bytes memory
  unfolding called
  called-no c e h = rw e (unless-no _ _ h)

  pub called_is : refusal (word_tests w) ≡ 0 → called f w bytes memory ≡ gives (f (decoded w))
  unfolding called
  called_is e = unless-0 _ _ e

-- a group too large for an access
module _ (s : State) (bytes memory : List ℕ) (x write bottom v : ℕ) where
  -- 4 and 2, then 5, then 6, whatever the group is
  wide_no : ℕ
  wide_no = pick (eqb (unfit s bytes memory) 0) (pick (ltb x s.shape.t) 6 5) (unfit s bytes memory)

  wide-no : (g : ℕ) → 4294967295 ≤ g → issue_no s bytes memory x (access_of write bottom g v) ≡ wide_no
  unfolding wide_no
  wide-no g h =
      ⊎_elim
      (λ p. rw (ne_eqb (unfit s bytes memory) 0 (λ e. absurd (omega arith))) (issue-unfit s bytes memory x (access_of write bottom g v) p))
      (λ q. let z : unfit s bytes memory ≡ 0 = omega arith in
      let n : s.shape.n ≤ 1048576 = leaves-most (top_of s.shape) s.shape.n (in_limits-of _ (whole-facts s (fit-whole s bytes memory z)).limits-ok) in
      let past : ltb g (groups s.shape.n) ≡ false = le-ltb g (groups s.shape.n) (omega (arith, groups-most s.shape.n 1048576 n)) in
      rw (eq-eqb (unfit s bytes memory) 0 z) (issue-fit s bytes memory x (access_of write bottom g v) z ∙ by-x (ltb x s.shape.t) refl past))
      (lt-or-ge 0 (unfit s bytes memory))
    where
      by-x : (b : Bool) → ltb x s.shape.t ≡ b → ltb g (groups s.shape.n) ≡ false → refusal (issue_tests s.shape x (access_of write bottom g v) s.trackers) ≡ pick b 6 5
      by-x true t past = refusal-first ((ltb x s.shape.t, 5) ∷ []) _ 6 _ (t, tt) past
      by-x false f past = refusal-first [] _ 5 _ tt f

  wide-refused : 0 < wide_no
  unfolding wide_no
  wide-refused =
      ⊎_elim (λ p. rw (ne_eqb (unfit s bytes memory) 0 (λ e. absurd (omega arith))) p)
      (λ q. let z : unfit s bytes memory ≡ 0 = omega arith in rw (eq-eqb (unfit s bytes memory) 0 z) (five-six (ltb x s.shape.t)))
      (lt-or-ge 0 (unfit s bytes memory))
    where
      five-six : (b : Bool) → 0 < pick b 6 5
      five-six true = omega arith
      five-six false = omega arith

  -- is refused as the largest that an access can carry is
  pub issue-wide : (g : ℕ) → issue s bytes memory x (access_of write bottom (pick (ltb g values) g (values - 1)) v) ≡ issue s bytes memory x (access_of write bottom g v)
  issue-wide g =
      ⊎_elim (λ h. rw (lt-ltb g values h))
      (λ h. rw (le-ltb g values h)
      (issue-refused s bytes memory x (access_of write bottom 4294967295 v) wide_no (sym (wide-no 4294967295 (omega arith))) wide-refused
      ∙ sym (issue-refused s bytes memory x (access_of write bottom g v) wide_no (sym (wide-no g (omega arith))) wide-refused)))
      (lt-or-ge g values)

-- a step
module _ (w bytes memory : List ℕ) (x : ℕ) (answer : List ℕ) where
  two-same : (b : Bool) → ◌≡◌ {A = ℕ} (pick b 2 2) 2
  two-same true = refl
  two-same false = refl

  answer-2 : (length answer ≡ answer_words → ⊥) → refusal (step_tests w answer) ≡ 2
  unfolding refusal
  answer-2 h = rw (ne_eqb (length answer) answer_words h) (two-same (eqb (length w) state_words))

  pub step-answer : (length answer ≡ answer_words → ⊥) → tag_step w bytes memory x answer ≡ (refused 2 w bytes memory, answer)
  unfolding tag_step
  step-answer h = rw (answer-2 h) (unless-no _ _ (omega arith))

  module _ (a : length answer ≡ answer_words) where
    step-words : refusal (step_tests w answer) ≡ refusal (word_tests w)
    unfolding refusal
    step-words = rw (eq-eqb (length answer) answer_words a)

    pub step-no : (r : Refusal) → number r ≡ refusal (word_tests w) → (done (refused_by (number r)) w bytes memory, answer) ≡ tag_step w bytes memory x answer
    unfolding tag_step
    step-no r e = rw (step-words, ← e) (sym (unless-no _ _ (number-some r)))

    pub step_is : 0 ≡ refusal (word_tests w) → tag_step w bytes memory x answer ≡ step_gives (step (decoded w) bytes memory x) answer
    unfolding tag_step
    step_is z = unless-0 _ _ (step-words ∙ sym z)

-- showing
module _ (w bytes memory : List ℕ) (k : ℕ) where
  pub show-no : (r : Refusal) → number r ≡ refusal (word_tests w) → refused_by (number r) ≡ tag_show w bytes memory k
  unfolding tag_show
  show-no r e = rw (← e) (sym (unless-no _ refused_by (number-some r)))

  pub show-is : 0 ≡ refusal (word_tests w) → tag_show w bytes memory k ≡ shown_at (decoded w) bytes memory k
  unfolding tag_show
  show-is z = unless-0 _ _ (sym z)

module _ (s : State) (bytes memory : List ℕ) (k : ℕ) where
  pub shown-no : (c : ℕ) → c ≡ show_no s bytes memory k → 0 < c → refused_by c ≡ shown_at s bytes memory k
  unfolding shown_at
  shown-no c e h = rw (← e) (sym (unless-no _ refused_by h))

  module _ (e : show_no s bytes memory k ≡ 0) where
    pub shown-line : (i : ℕ) → i ≡ line_of s.lines s.shape.l k → i < s.shape.l → 1 + 64 * i ≡ shown_at s bytes memory k
    unfolding shown_at unless
    shown-line i q h = rw (e, ← q, lt-ltb i s.shape.l h)

    pub shown-empty : s.shape.l ≤ line_of s.lines s.shape.l k → length (show s bytes memory k) ≡ 0 → 0 ≡ shown_at s bytes memory k
    unfolding shown_at unless
    shown-empty h z = rw (e, le-ltb (line_of s.lines s.shape.l k) s.shape.l h, z)

    pub shown-memory : s.shape.l ≤ line_of s.lines s.shape.l k → (length (show s bytes memory k) ≡ 0 → ⊥) → 1099511627776 + (1 + 64 * k) ≡ shown_at s bytes memory k
    unfolding shown_at unless
    shown-memory h z = rw (e, le-ltb (line_of s.lines s.shape.l k) s.shape.l h, ne_eqb (length (show s bytes memory k)) 0 z)

-- whole
module _ (w : List ℕ) where
  pub whole-2 : (length w ≡ state_words → ⊥) → tag_whole w ≡ refused_by 2
  unfolding tag_whole
  whole-2 h = let e : refusal ((eqb (length w) state_words, 2) ∷ []) ≡ 2 = refusal-first [] _ 2 [] tt (ne_eqb (length w) state_words h) in rw e (unless-no _ refused_by (omega arith))

  module _ (e : length w ≡ state_words) where
    whole_by : tag_whole w ≡ one (both (codes w) (whole (decoded w)))
    unfolding tag_whole
    whole_by = unless-0 _ _ (refusal-0 ((eqb (length w) state_words, 2) ∷ []) (eq-eqb (length w) state_words e, tt))

    whole-0 : codes w ≡ false → tag_whole w ≡ 0
    whole-0 c = whole_by ∙ rw (both-false-left (codes w) (whole (decoded w)) c)

    whole_is : codes w ≡ true → (b : Bool) → b ≡ whole (decoded w) → tag_whole w ≡ one b
    whole_is c b q = whole_by ∙ rw (both-when (codes w) (whole (decoded w)) c, ← q)

    pub whole-told : (o : Option code.State) (b : Bool) → is_coded o ≡ codes w → coded_state o ≡ pick (codes w) (decoded w) zero_state
        → MatchOption o (b ≡ false) (λ s. b ≡ whole (seen s)) → one b ≡ tag_whole w
    whole-told None b c s h = rw h (sym (whole-0 (sym c)))
    whole-told (Some u) b c s h = sym (whole_is (sym c) b (h ∙ ap whole (decoded-is w (sym c) s)))

-- what each kind of call leaves, from the promises of the functions that it calls
module _ (o : Out) {k : ℕ} {r : List ℕ} where
  pub begins-does : (f : ℕ → ℕ → ℕ → Out) (device w bytes memory : List ℕ) → 0 ≡ refusal (begin_tests device w)
      → o ≡ f (get_or device 0 0) (get_or device 1 0) (get_or device 2 0) → k ≡ number_given o.said o.transfers → r ≡ pick (eqb (length w) state_words) (coded o.state) w
      → done k r o.bytes o.memory ≡ begins f device w bytes memory
  begins-does f device w bytes memory z q p l = gives-is o w (begins-long f device w bytes memory z) p l ∙ ap gives q ∙ sym (begins-is f device w bytes memory z)

  module _ (u : State) (w : List ℕ) (z : 0 ≡ refusal (word_tests w)) (s : u ≡ decoded w) where
    pub called-does : (f : State → Out) (bytes memory : List ℕ) → o ≡ f u → k ≡ number_given o.said o.transfers → r ≡ pick (eqb (length w) state_words) (coded o.state) w
        → done k r o.bytes o.memory ≡ called f w bytes memory
    called-does f bytes memory q p l = gives-is o w (words-long w z) p l ∙ ap gives (q ∙ ap f s) ∙ sym (called_is f w bytes memory (sym z))

    pub step-does : (bytes memory : List ℕ) (x : ℕ) (answer : List ℕ) {a : List ℕ} → length answer ≡ answer_words → o ≡ step u bytes memory x → k ≡ number_of o.said
        → r ≡ pick (eqb (length w) state_words) (coded o.state) w → a ≡ pick (eqb (length answer) answer_words) (answer_coded o.said o.transfers answer) answer
        → (done k r o.bytes o.memory, a) ≡ tag_step w bytes memory x answer
    step-does bytes memory x answer {a} h q p l y =
        let v : o ≡ step (decoded w) bytes memory x = q ∙ ap (λ (v : State). step v bytes memory x) s in
        let d : r ≡ coded o.state = left-words w (coded o.state) (words-long w z) l in
        let t : a ≡ answer_coded o.said o.transfers answer = y ∙ rw (eq-eqb (length answer) answer_words h) in
        pair (rw (p, d)) t ∙ ap (λ (v : Out). step_gives v answer) v ∙ sym (step_is w bytes memory x answer h z)
      where
        pair : {i j : Done} {m n : List ℕ} → i ≡ j → m ≡ n → ◌≡◌ {A = Done × List ℕ} (i, m) (j, n)
        pair p q = rw (p, q)

-- what a call on words that are refused leaves
pub called-refused : (f : State → Out) (w bytes memory : List ℕ) (r : Refusal) → number r ≡ refusal (word_tests w) → done (refused_by (number r)) w bytes memory ≡ called f w bytes memory
called-refused f w bytes memory r e = sym (called-no f w bytes memory (number r) (sym e) (number-some r))

-- the number of a call that writes nothing back
pub given-none : (s : Said) (t : Transfers) → t.back ≡ 0 → number_of s ≡ number_given s t
given-none ok t e = sym e
given-none wait t e = sym e
given-none moved t e = sym e
given-none (read v k) t e = sym e
given-none (ended k) t e = sym e
given-none (same k) t e = sym e
given-none (no c) t e = rw (ne_eqb (refused_by c) 0 (λ z. absurd (omega arith))) refl

-- a refusal's number, or the write-backs
module _ (s : Said) (t : Transfers) {c : ℕ} (e : c ≡ number_of s) where
  pub given-no : 0 < c → c ≡ number_given s t
  given-no h = rw (← e, ne_eqb c 0 (λ z. absurd (omega arith))) refl

  pub given_is : c ≡ 0 → t.back ≡ number_given s t
  given_is z = rw (← e, eq-eqb c 0 z) refl
