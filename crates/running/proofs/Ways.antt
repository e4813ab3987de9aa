-- A law for each way out of a run, and for each form of a call.
use mathlib.Core.Path.{◌≡◌, ap, sym, ◌∙◌}
use mathlib.Core.List.{List, [], ◌∷◌}
use mathlib.Core.Bool.{true, false}
use Prim.Native.Nat.{ℕ, ◌+◌, ◌-◌, ◌*◌, ◌≤◌, ◌<◌}
use native.Mathlib.Omega.{arith}
use borrow.Author.Tests.{eqb-true, eq-eqb, ne_eqb, lt-ltb, le-ltb}
use borrow.Rule.Slice.PartMut.{put_mid}
use lib.Dec.{eqb, ltb}
use lib.ListN.{length, take, drop, get_or}
use Rattle.laws.specs.Choice.{pick, both}
use Rattle.laws.specs.Bytes.{splice}
use Rattle.laws.specs.Refusal.{refusal}
use Rattle.laws.proofs.Choice.{both_left, both_right}
use Rattle.laws.proofs.Put.{part-is, length_part, splice-is}
use Rattle.laws.proofs.Refusals.{refusal-0, refusal-first, unless-0, unless-no}
use Rattle.geometry.specs.TagMemory.{values}
use Rattle.tracker.specs.declared.Access.{Access}
use Rattle.rules.specs.State.{State, lengths_right, zero_state}
use Rattle.rules.specs.Whole.{whole}
use Rattle.rules.specs.Run.{Kept, does}
use Rattle.turn.specs.declared.Asked.TheVariants.{Other, Issue, Step, Drain}
use Rattle.turn.specs.Turn.{takes}
use Rattle.coding.specs.Words.{state_words, coded, decoded, codes}
use Rattle.harness.specs.Calls.{Done, done, refused, access_of}
use Rattle.harness.proofs.Ways.{issue-wide, decoded-is}
use Rattle.running.specs.Run.{calls_in, asked_in, Ran, ran, lengths_fit, run_tests, tag_run}

-- what words ask for
module _ (k : Kept) (c : List ℕ) (at : ℕ) where
  pub asked-step : get_or c at 0 ≡ 2 → takes k (Step (get_or c (at + 1) 0)) ≡ takes k (asked_in c at)
  unfolding asked_in
  asked-step e = rw e

  pub asked-drain : get_or c at 0 ≡ 3 → takes k Drain ≡ takes k (asked_in c at)
  unfolding asked_in
  asked-drain e = rw e

  pub asked-other : (get_or c at 0 ≡ 1 → ⊥) → (get_or c at 0 ≡ 2 → ⊥) → (get_or c at 0 ≡ 3 → ⊥) → takes k Other ≡ takes k (asked_in c at)
  unfolding asked_in both
  asked-other n1 n2 n3 = rw (ne_eqb (get_or c at 0) 2 n2, ne_eqb (get_or c at 0) 3 n3, ne_eqb (get_or c at 0) 1 n1)

  module _ (e : get_or c at 0 ≡ 1) where
    pub asked-wide : values ≤ get_or c (at + 5) 0 → takes k Other ≡ takes k (asked_in c at)
    unfolding asked_in both
    asked-wide h = rw (e, le-ltb (get_or c (at + 5) 0) values h)

    pub asked-issue : {a : Access} → get_or c (at + 5) 0 < values
        → a ≡ access_of (get_or c (at + 2) 0) (get_or c (at + 3) 0) (pick (ltb (get_or c (at + 4) 0) values) (get_or c (at + 4) 0) (values - 1)) (get_or c (at + 5) 0)
        → takes k (Issue (get_or c (at + 1) 0) a) ≡ takes k (asked_in c at)
    unfolding asked_in both does
    asked-issue h q =
        rw (q, e, lt-ltb (get_or c (at + 5) 0) values h)
        (issue-wide k.state k.bytes k.memory (get_or c (at + 1) 0) (get_or c (at + 2) 0) (get_or c (at + 3) 0) (get_or c (at + 5) 0) (get_or c (at + 4) 0))

-- refused, or not
module _ (w bytes memory calls answers : List ℕ) where
  pub run-2 : lengths_fit w calls answers ≡ false → tag_run w bytes memory calls answers ≡ (refused 2 w bytes memory, answers)
  unfolding tag_run
  run-2 h =
      let e : refusal (run_tests w bytes memory calls answers) ≡ 2 = refusal-first [] _ 2 _ tt h in
      rw e (unless-no _ _ (omega arith))

  module _ (fit : lengths_fit w calls answers ≡ true) where
    pub run-4 : codes w ≡ false → tag_run w bytes memory calls answers ≡ (refused 4 w bytes memory, answers)
    unfolding tag_run
    run-4 c =
        let e : refusal (run_tests w bytes memory calls answers) ≡ 4 = refusal-first ((lengths_fit w calls answers, 2) ∷ []) _ 4 _ (fit, tt) c in
        rw e (unless-no _ _ (omega arith))

    -- u is the state that is taken from the words
    module _ (c : codes w ≡ true) (u : State) (q : u ≡ pick (codes w) (decoded w) zero_state) where
      is-u : u ≡ decoded w
      is-u = decoded-is w c q

      pub run-broken : whole u ≡ false → tag_run w bytes memory calls answers ≡ (refused 4 w bytes memory, answers)
      unfolding tag_run
      run-broken b =
          let e : refusal (run_tests w bytes memory calls answers) ≡ 4 =
          refusal-first ((lengths_fit w calls answers, 2) ∷ (codes w, 4) ∷ []) _ 4 _ (fit, (c, tt)) (ap whole (sym is-u) ∙ b) in
          rw e (unless-no _ _ (omega arith))

      module _ (ok : whole u ≡ true) where
        is_whole : whole (decoded w) ≡ true
        is_whole = ap whole (sym is-u) ∙ ok

        pub run_lent : lengths_right u.shape bytes memory ≡ false → tag_run w bytes memory calls answers ≡ (refused 2 w bytes memory, answers)
        unfolding tag_run
        run_lent b =
            let e : refusal (run_tests w bytes memory calls answers) ≡ 2 =
            refusal-first ((lengths_fit w calls answers, 2) ∷ (codes w, 4) ∷ (whole (decoded w), 4) ∷ []) _ 2 [] (fit, (c, (is_whole, tt)))
            (ap (λ (s : State). lengths_right s.shape bytes memory) (sym is-u) ∙ b) in
            rw e (unless-no _ _ (omega arith))

        -- what is left is the coding of what the calls pass on
        pub run-does : lengths_right u.shape bytes memory ≡ true → (r : Ran) {words : List ℕ}
            → r ≡ ran (record { state = u; bytes = bytes; memory = memory }) calls answers (calls_in calls) → words ≡ pick (eqb (length w) state_words) (coded r.kept.state) w
            → ◌≡◌ {A = Done × List ℕ} (done 0 words r.kept.bytes r.kept.memory, r.answers) (tag_run w bytes memory calls answers)
        unfolding tag_run
        run-does right r {words} e p =
            let t : r ≡ ran (record { state = decoded w; bytes = bytes; memory = memory }) calls answers (calls_in calls) =
            e ∙ ap (λ (s : State). ran (record { state = s; bytes = bytes; memory = memory }) calls answers (calls_in calls)) is-u in
            let l : lengths_right (decoded w).shape bytes memory ≡ true = ap (λ (s : State). lengths_right s.shape bytes memory) (sym is-u) ∙ right in
            let d : words ≡ coded r.kept.state = p ∙ rw (eq-eqb (length w) state_words (eqb-true _ _ (both_left _ _ fit))) in
            rw d
            (ap (λ (z : Ran). (done 0 (coded z.kept.state) z.kept.bytes z.kept.memory, z.answers)) t
            ∙ sym (unless-0 _ _ (refusal-0 (run_tests w bytes memory calls answers) (fit, (c, (is_whole, (l, tt)))))))

-- there are as many answers as calls
pub fit-answers : (w calls answers : List ℕ) → lengths_fit w calls answers ≡ true → length answers ≡ 6 * calls_in calls
fit-answers w calls answers h = eqb-true _ _ (both_right _ _ (both_right _ _ h))

-- a lent part of the answers that comes back as an answer's words
pub put_in : (m : List ℕ) (at : ℕ) (b : List ℕ) {y : List ℕ} → at + 6 ≤ length m
    → y ≡ pick (eqb (length (take (at + 6 - at) (drop at m))) 6) b (take (at + 6 - at) (drop at m)) → length y ≡ length (take (at + 6 - at) (drop at m))
    → put_mid at (at + 6 - at) m y ≡ splice m at b
put_in m at b h e k =
    let l : length (take (at + 6 - at) (drop at m)) ≡ 6 = ap length (part-is m at 6) ∙ length_part m at 6 h in
    splice-is m at 6 h (e ∙ rw (eq-eqb _ 6 l)) k
