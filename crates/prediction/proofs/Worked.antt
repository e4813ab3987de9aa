-- Worked calls on real bytes, computed through the definitions: a wrong rule fails at a value; and runs that meet the premises of the theorems.
use mathlib.Core.Path.{◌≡◌, refl, ap}
use mathlib.Core.List.Memᴰ
use mathlib.Core.List.{List, [], ◌∷◌}
use Prim.Native.Nat.{ℕ, ◌<◌}
use native.Mathlib.Omega.{arith}
use lib.ListN.{replicate}
use Rattle.laws.specs.Choice.{both, either, implies}
use Rattle.laws.specs.Refusal.{refusal, unless}
use Rattle.laws.specs.Bytes.{part, splice, fits, put_w, value, bytes, number_at}
use Rattle.laws.specs.Scan.{all}
use Rattle.laws.specs.Bits.{bit_of, with_bit}
use Rattle.geometry.specs.TagMemory.{groups, in_limits_of, leaf_of, byte_of}
use Rattle.block.specs.Block.{bit_at, put_bit}
use Rattle.prediction.specs.Runs.{is_run, run_of, runs, bits_length, run_bit, put_run_bit, any_in}
use Rattle.prediction.specs.Calls.{Lent, lent, refused, fresh, group_read, read, marked, write, synchronise}
use Rattle.prediction.specs.Sequence.{Call, freshens, reads, writes, synchronises, told, after, Synchronised, Tight}
use Rattle.prediction.proofs.Synchronising.{tight}

abbrev answers : List (Call × ℕ) → List ℕ
answers [] = []
answers (t ∷ ts) = t.1 ∷ answers ts

-- stale tags of one leaf, and one byte of bits
abbrev stale : ℕ → Lent
stale b = lent (replicate 64 7) (b ∷ [])

-- group g made 10, and made 0
pub ten : 10 < 4294967296
ten = omega arith

pub none : 0 < 4294967296
none = omega arith

abbrev tags : ℕ → Call
tags g = writes g 10 ten

abbrev untags : ℕ → Call
untags g = writes g 0 none

-- one run, tagged, and its bit set
abbrev tagged : Lent
tagged = after 1 32 (stale 255) (freshens ∷ tags 15 ∷ [])

pub record Worked : Type 0 where
  -- four groups a run: a read under bit 0, a write, reads under bit 1, a write of 0, which leaves the bit, and synchronising, which clears it
  pub a-run : answers (told 1 4 (stale 255) (freshens ∷ reads 5 ∷ tags 5 ∷ reads 5 ∷ reads 6 ∷ untags 5 ∷ reads 5 ∷ synchronises 1 ∷ reads 5 ∷ []))
      ≡ 0 ∷ 0 ∷ 0 ∷ 10 ∷ 0 ∷ 0 ∷ 0 ∷ 0 ∷ 0 ∷ []
  pub fresh-bits : (after 1 4 (stale 255) (freshens ∷ [])).bits ≡ 0 ∷ []
  pub set-bit : (after 1 4 (stale 255) (freshens ∷ tags 5 ∷ [])).bits ≡ 2 ∷ []
  pub stays-set : (after 1 4 (stale 255) (freshens ∷ tags 5 ∷ untags 5 ∷ [])).bits ≡ 2 ∷ []
  pub cleared : (after 1 4 (stale 255) (freshens ∷ tags 5 ∷ untags 5 ∷ synchronises 1 ∷ [])).bits ≡ 0 ∷ []
  pub kept_set : (after 1 4 (stale 255) (freshens ∷ tags 5 ∷ tags 6 ∷ untags 5 ∷ synchronises 1 ∷ [])).bits ≡ 2 ∷ []
  -- the last group of a run and the first of the next
  pub last-of-run : (after 1 4 (stale 255) (freshens ∷ tags 7 ∷ synchronises 1 ∷ [])).bits ≡ 2 ∷ []
  pub next-run : (after 1 4 (stale 255) (freshens ∷ tags 8 ∷ synchronises 1 ∷ [])).bits ≡ 4 ∷ []
  -- 32 groups a run over the 16 of one leaf: one short run
  pub short-run : answers (told 1 32 (stale 255) (freshens ∷ tags 15 ∷ synchronises 0 ∷ reads 15 ∷ reads 16 ∷ synchronises 1 ∷ []))
      ≡ 0 ∷ 0 ∷ 0 ∷ 10 ∷ refused 6 ∷ refused 6 ∷ []
  pub short-bits : (after 1 32 (stale 255) (freshens ∷ tags 15 ∷ synchronises 0 ∷ [])).bits ≡ 1 ∷ []
  -- a read under bit 0 is 0 over stale tags; spare bits stay
  pub untouched : answers (told 1 8 (stale 252) (reads 3 ∷ [])) ≡ 0 ∷ []
  pub spare : (after 1 8 (stale 252) (tags 3 ∷ synchronises 1 ∷ [])).bits ≡ 255 ∷ []
  -- the refusals in their order: n, c, the lengths, the group
  pub refusals : answers (told 0 3 (stale 0) (reads 99 ∷ [])) ≡ refused 1 ∷ []
  pub refused-run : answers (told 2 3 (stale 0) (reads 99 ∷ [])) ≡ refused 15 ∷ []
  pub refused-length : answers (told 2 4 (stale 0) (reads 99 ∷ [])) ≡ refused 2 ∷ []
  pub refused-group : answers (told 1 4 (stale 0) (reads 16 ∷ [])) ≡ refused 6 ∷ []
  -- synchronising the only run over a tag: accepted, and its bit stays 1
  pub one-run : runs 1 32 ≡ 1
  pub told-once : told 1 32 tagged (synchronises 0 ∷ []) ≡ (synchronises 0, 0) ∷ []
  pub tagged-bit : run_bit (after 1 32 tagged (synchronises 0 ∷ [])).bits 0 ≡ 1

pub worked : Worked
unfolding told after fresh read group_read write marked synchronise refusal unless both either implies is_run run_of runs bits_length run_bit put_run_bit any_in all groups in_limits_of leaf_of byte_of bit_at put_bit bit_of with_bit put_w fits splice part bytes value number_at
worked = record {
  a-run = refl;
  fresh-bits = refl;
  set-bit = refl;
  stays-set = refl;
  cleared = refl;
  kept_set = refl;
  last-of-run = refl;
  next-run = refl;
  short-run = refl;
  short-bits = refl;
  untouched = refl;
  spare = refl;
  refusals = refl;
  refused-run = refl;
  refused-length = refl;
  refused-group = refl;
  one-run = refl;
  told-once = refl;
  tagged-bit = refl;
}

-- the premise of the last claim is met
pub instance : Synchronised 1 32 tagged (synchronises 0 ∷ [])
instance = record {
  unwritten = λ g v small m. apart g v small (Memᴰ.eq_of_singleton (rw worked.told-once at m));
  every = λ r h. rw worked.told-once (Memᴰ.head (ap (λ (k : ℕ). (synchronises k, 0)) (first r h)));
}
  where
    apart : (g v : ℕ) (small : v < 4294967296) → ◌≡◌ {A = Call × ℕ} (writes g v small, 0) (synchronises 0, 0) → ⊥
    apart g v small e =
        let f : writes g v small ≡ synchronises 0 = ap (λ (p : Call × ℕ). p.0) e in
        let z : ◌≡◌ {A = ℕ} 0 1 = cc in
        omega arith

    first : (r : ℕ) → r < runs 1 32 → r ≡ 0
    first r h = let o = worked.one-run in omega arith

pub tagged-tight : Tight 1 32 (after 1 32 tagged (synchronises 0 ∷ []))
tagged-tight = tight 1 32 tagged (synchronises 0 ∷ []) instance
