-- The refusals in their order, a law for each, and what holds where none applies; then what each call does, refused or not.
use mathlib.Core.Path.{◌≡◌, refl, sym}
use mathlib.Core.Bool.{true, false}
use mathlib.Core.List.{List, [], ◌∷◌, ◌++◌}
use Prim.Native.Nat.{ℕ, ◌≤◌, ◌<◌}
use native.Mathlib.Omega.{arith}
use lib.Dec.{eqb, ltb}
use lib.ListN.{length, replicate}
use borrow.Author.Tests.{eqb-true, eq-eqb, ne_eqb, lt-ltb, le-ltb, ltb-true}
use Rattle.laws.specs.Choice.{pick, both}
use Rattle.laws.specs.Refusal.{refusal}
use Rattle.laws.proofs.Choice.{both_left, both_right}
use Rattle.laws.proofs.Refusals.{refusal-hold, refusal-then, unless-0, unless-no}
use Rattle.geometry.specs.TagMemory.{groups, in_limits, block_place, group_place}
use Rattle.geometry.proofs.Limits.{in_limits-most}
use Rattle.geometry.proofs.Places.{groups-most}
use Rattle.block.specs.Block.{put_group}
use Rattle.prediction.specs.Runs.{is_run, runs, bits_length, put_run_bit, any_in}
use Rattle.prediction.specs.Calls.{Lent, lent, done, refused, lent_tests, group_tests, run_tests, fresh, group_read, read, marked, write, synchronise}
use Rattle.prediction.proofs.RunsOf.{is_run-within, runs-most}

-- n, c and the lent lengths t and b are as they are to be
pub record Ready (n c t b : ℕ) : Type 0 where
  pub limits : in_limits n ≡ true
  pub run : is_run c ≡ true
  pub tags : t ≡ block_place n
  pub bits : b ≡ bits_length n c

module _ (n c t b : ℕ) where
  pub refused-1 : in_limits n ≡ false → refusal (lent_tests n c t b) ≡ 1
  unfolding refusal
  refused-1 h = rw h

  pub refused-15 : in_limits n ≡ true → is_run c ≡ false → refusal (lent_tests n c t b) ≡ 15
  unfolding refusal
  refused-15 h k = rw (h, k)

  pub refused-2-tags : in_limits n ≡ true → is_run c ≡ true → (t ≡ block_place n → ⊥) → refusal (lent_tests n c t b) ≡ 2
  unfolding refusal both
  refused-2-tags h k q = rw (h, k, ne_eqb t (block_place n) q)

  pub refused-2-bits : in_limits n ≡ true → is_run c ≡ true → t ≡ block_place n → (b ≡ bits_length n c → ⊥) → refusal (lent_tests n c t b) ≡ 2
  unfolding refusal both
  refused-2-bits h k q d = rw (h, k, eq-eqb t (block_place n) q, ne_eqb b (bits_length n c) d)

  pub ready-0 : Ready n c t b → refusal (lent_tests n c t b) ≡ 0
  unfolding refusal both
  ready-0 y = rw (y.limits, y.run, eq-eqb t (block_place n) y.tags, eq-eqb b (bits_length n c) y.bits)

  good : in_limits n ≡ true → is_run c ≡ true → both (eqb t (block_place n)) (eqb b (bits_length n c)) ≡ true → Ready n c t b
  good h k l = record {
    limits = h;
    run = k;
    tags = eqb-true t (block_place n) (both_left (eqb t (block_place n)) (eqb b (bits_length n c)) l);
    bits = eqb-true b (bits_length n c) (both_right (eqb t (block_place n)) (eqb b (bits_length n c)) l);
  }

  pub is-ready : refusal (lent_tests n c t b) ≡ 0 → Ready n c t b
  is-ready e = let h = refusal-hold (lent_tests n c t b) refl e in good h.0 h.1.0 h.1.1.0

  -- then 6, for a number x that is not below m: a group or a run
  module _ (m x : ℕ) where
    pub refused-before : (refusal (lent_tests n c t b) ≡ 0 → ⊥) → refusal (lent_tests n c t b ++ (ltb x m, 6) ∷ []) ≡ refusal (lent_tests n c t b)
    refused-before d = refusal-then (lent_tests n c t b) ((ltb x m, 6) ∷ []) (above (refusal (lent_tests n c t b)) d)
      where
        above : (k : ℕ) → (k ≡ 0 → ⊥) → 0 < k
        above k d = omega arith

    pub refused-6 : Ready n c t b → m ≤ x → refusal (lent_tests n c t b ++ (ltb x m, 6) ∷ []) ≡ 6
    unfolding refusal both
    refused-6 y h = rw (y.limits, y.run, eq-eqb t (block_place n) y.tags, eq-eqb b (bits_length n c) y.bits, le-ltb x m h)

    pub reached-0 : Ready n c t b → x < m → refusal (lent_tests n c t b ++ (ltb x m, 6) ∷ []) ≡ 0
    unfolding refusal both
    reached-0 y h = rw (y.limits, y.run, eq-eqb t (block_place n) y.tags, eq-eqb b (bits_length n c) y.bits, lt-ltb x m h)

    pub is-reached : refusal (lent_tests n c t b ++ (ltb x m, 6) ∷ []) ≡ 0 → Ready n c t b × (x < m)
    is-reached e =
        let h = refusal-hold (lent_tests n c t b ++ (ltb x m, 6) ∷ []) refl e in
        (good h.0 h.1.0 h.1.1.0, ltb-true x m h.1.1.1.0)

  -- numbers of calls that are not refused are small
  pub group-small : (g : ℕ) → refusal (group_tests n c t b g) ≡ 0 → (0 < c) × (c ≤ 32) × (g < 4194304)
  group-small g e =
      let y = is-reached (groups n) g e in
      let w = is_run-within c y.0.run in
      let m = groups-most n 262144 (in_limits-most 1 n y.0.limits) in
      let l = y.1 in
      (w.0, w.1, omega arith)

  pub run_small : (r : ℕ) → refusal (run_tests n c t b r) ≡ 0 → (0 < c) × (c ≤ 32) × (n ≤ 262144) × (r < 4194304)
  run_small r e =
      let y = is-reached (runs n c) r e in
      let w = is_run-within c y.0.run in
      let h = in_limits-most 1 n y.0.limits in
      let m = groups-most n 262144 h in
      let k = runs-most n c w.0 in
      let l = y.1 in
      (w.0, w.1, h, omega arith)

-- what a call does, k being the number of its refusal
module _ (n c : ℕ) (s : Lent) {k : ℕ} where
  above : (k ≡ 0 → ⊥) → 0 < k
  above d = omega arith

  pub fresh-refused : k ≡ refusal (lent_tests n c (length s.tags) (length s.bits)) → (k ≡ 0 → ⊥) → done (refused k) s ≡ fresh n c s
  unfolding fresh
  fresh-refused e d = rw (← e) (sym (unless-no _ _ (above d)))

  pub fresh-done : k ≡ refusal (lent_tests n c (length s.tags) (length s.bits)) → k ≡ 0
      → done 0 (lent (replicate (length s.tags) 0) (replicate (length s.bits) 0)) ≡ fresh n c s
  unfolding fresh
  fresh-done e z = rw (← e) (sym (unless-0 _ _ z))

  pub fresh-leaves : k ≡ refusal (lent_tests n c (length s.tags) (length s.bits)) → k ≡ 0
      → {t b : List ℕ} → t ≡ replicate (length s.tags) 0 → b ≡ replicate (length s.bits) 0 → done 0 (lent t b) ≡ fresh n c s
  fresh-leaves e z p q = rw (p, q) (fresh-done e z)

  module _ (g : ℕ) (e : k ≡ refusal (group_tests n c (length s.tags) (length s.bits) g)) where
    pub read-refused : (k ≡ 0 → ⊥) → refused k ≡ read n c s g
    unfolding read
    read-refused d = rw (← e) (sym (unless-no _ _ (above d)))

    pub read_done : k ≡ 0 → group_read c s g ≡ read n c s g
    unfolding read
    read_done z = rw (← e) (sym (unless-0 _ _ z))

    pub write-refused : (v : ℕ) → (k ≡ 0 → ⊥) → done (refused k) s ≡ write n c s g v
    unfolding write
    write-refused v d = rw (← e) (sym (unless-no _ _ (above d)))

    pub write_done : (v : ℕ) → k ≡ 0 → done 0 (lent (put_group s.tags (group_place g) v) (marked c s.bits g v)) ≡ write n c s g v
    unfolding write
    write_done v z = rw (← e) (sym (unless-0 _ _ z))

    pub write-leaves : (v : ℕ) → k ≡ 0 → {t b : List ℕ} → t ≡ put_group s.tags (group_place g) v → b ≡ marked c s.bits g v → done 0 (lent t b) ≡ write n c s g v
    write-leaves v z p q = rw (p, q) (write_done v z)

  module _ (r : ℕ) (e : k ≡ refusal (run_tests n c (length s.tags) (length s.bits) r)) where
    pub synchronise-refused : (k ≡ 0 → ⊥) → done (refused k) s ≡ synchronise n c s r
    unfolding synchronise
    synchronise-refused d = rw (← e) (sym (unless-no _ _ (above d)))

    pub synchronise-done : k ≡ 0 → done 0 (lent s.tags (put_run_bit s.bits r (pick (any_in n c s.tags r) 1 0))) ≡ synchronise n c s r
    unfolding synchronise
    synchronise-done z = rw (← e) (sym (unless-0 _ _ z))

    pub synchronise-leaves : k ≡ 0 → {b : List ℕ} → b ≡ put_run_bit s.bits r (pick (any_in n c s.tags r) 1 0) → done 0 (lent s.tags b) ≡ synchronise n c s r
    synchronise-leaves z p = rw p (synchronise-done z)
