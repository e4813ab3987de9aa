-- Tags and bits that agree with a flat row: the groups are the row's, and none that is not zero lies under bit 0.
-- Fresh, a write and synchronising keep it, and a read gives the row's value. The laws ask only that c is above 0.
use mathlib.Core.Path.{◌≡◌, refl, sym, ap, ◌∙◌}
use mathlib.Core.Bool.{Bool, true, false}
use mathlib.Core.List.{List}
use mathlib.Core.Logic.{⊎_elim}
use Prim.Native.Nat.{ℕ, ◌/◌, ◌<◌}
use native.Mathlib.Omega.{arith}
use lib.Dec.{eqb}
use lib.ListN.{length, replicate, length-replicate}
use borrow.Author.Tests.{eqb-true, eqb-false}
use Rattle.laws.specs.Choice.{pick}
use Rattle.laws.proofs.Choice.{true-or-false}
use Rattle.geometry.specs.TagMemory.{groups, block_place, group_place}
use Rattle.block.specs.Block.{put_group}
use Rattle.prediction.specs.Runs.{run_of, runs, group_in, bits_length, run_bit, put_run_bit, any_in}
use Rattle.prediction.specs.Calls.{Lent, lent, group_read, marked}
use Rattle.prediction.specs.Sequence.{Row, zeros, put}
use Rattle.prediction.proofs.RunsOf.{run_of-lt}
use Rattle.prediction.proofs.Bits.{bit-inside, truth-lt, not-both-bits, length-put_run_bit, run_bit-put-same, run_bit-put-other}
use Rattle.prediction.proofs.Under.{bit-0, group_read-0, group_read-1, marked-not, marked-is, length_marked}
use Rattle.prediction.proofs.Groups.{length-put_group, group_at-zeros, group_in-put-same, group_in-put-other, any_in-none}

pub record Agrees (n c : ℕ) (row : Row) (s : Lent) : Type 0 where
  pub above : 0 < c
  pub tags_long : length s.tags ≡ block_place n
  pub bits_long : length s.bits ≡ bits_length n c
  pub stored : (g : ℕ) → g < groups n → group_in s.tags g ≡ row g
  pub under : (g : ℕ) → g < groups n → run_bit s.bits (run_of c g) ≡ 0 → row g ≡ 0

-- a number is the row's after a put, at the group put and at every other
put_is : (row : Row) (g v k x : ℕ) → (k ≡ g → x ≡ v) → ((k ≡ g → ⊥) → x ≡ row k) → x ≡ put row g v k
put_is row g v k x p q = ⊎_elim (λ t. rw t (p (eqb-true k g t))) (λ f. rw f (q (eqb-false k g f))) (true-or-false (eqb k g))

module _ (n c : ℕ) where
  pub agrees-fresh : (s : Lent) → 0 < c → length s.tags ≡ block_place n → length s.bits ≡ bits_length n c
      → Agrees n c zeros (lent (replicate (length s.tags) 0) (replicate (length s.bits) 0))
  agrees-fresh s p t b = record {
    above = p;
    tags_long = length-replicate (length s.tags) 0 ∙ t;
    bits_long = length-replicate (length s.bits) 0 ∙ b;
    stored = λ g h. group_at-zeros (length s.tags) (group_place g);
    under = λ g h z. refl;
  }

  module _ (row : Row) (s : Lent) (a : Agrees n c row s) where
    -- the byte of a run's bit is there
    there : (r : ℕ) → r < runs n c → r / 8 < length s.bits
    there r h = bit-inside n c (length s.bits) r a.bits_long h

    pub agrees-read : (g : ℕ) → g < groups n → group_read c s g ≡ row g
    agrees-read g h = ⊎_elim (λ t. group_read-1 c s g (eqb-true (run_bit s.bits (run_of c g)) 1 t) ∙ a.stored g h)
        (λ f. let d = eqb-false (run_bit s.bits (run_of c g)) 1 f in group_read-0 c s g d ∙ sym (a.under g h (bit-0 s.bits (run_of c g) d)))
        (true-or-false (eqb (run_bit s.bits (run_of c g)) 1))

    -- a group under bit 0 after a write: v is 0 and the bits are the same, or it is in another run
    write_under : (g v k : ℕ) → g < groups n → k < groups n → run_bit (marked c s.bits g v) (run_of c k) ≡ 0 → put row g v k ≡ 0
    write_under g v k h l z = ⊎_elim
        (λ t. let e : v ≡ 0 = eqb-true v 0 t in
        sym (put_is row g v k 0 (λ q. sym e) (λ d. sym (a.under k l (ap (λ (b : List ℕ). run_bit b (run_of c k)) (sym (marked-not c s.bits g v e)) ∙ z)))))
        (λ f. let m = marked-is c s.bits g v (eqb-false v 0 f) in
        let z' : run_bit (put_run_bit s.bits (run_of c g) 1) (run_of c k) ≡ 0 = ap (λ (b : List ℕ). run_bit b (run_of c k)) (sym m) ∙ z in
        let i = there (run_of c g) (run_of-lt n c a.above g h) in
        let other : (run_of c k ≡ run_of c g → ⊥) = λ e. not-both-bits (ap (run_bit (put_run_bit s.bits (run_of c g) 1)) (sym e) ∙ z') (run_bit-put-same s.bits (run_of c g) 1 i (omega arith)) in
        sym (put_is row g v k 0 (λ q. absurd (other (ap (run_of c) q)))
        (λ d. sym (a.under k l (sym (run_bit-put-other s.bits (run_of c g) 1 i (omega arith) (run_of c k) other) ∙ z')))))
        (true-or-false (eqb v 0))

    pub agrees-write : (g v : ℕ) → g < groups n → v < 4294967296 → Agrees n c (put row g v) (lent (put_group s.tags (group_place g) v) (marked c s.bits g v))
    agrees-write g v h small = record {
      above = a.above;
      tags_long = length-put_group s.tags (group_place g) v ∙ a.tags_long;
      bits_long = length_marked c s.bits g v ∙ a.bits_long;
      stored = λ k l. put_is row g v k (group_in (put_group s.tags (group_place g) v) k)
          (λ e. rw e (group_in-put-same n s.tags a.tags_long g v h small))
          (λ d. group_in-put-other n s.tags a.tags_long g v k h l d ∙ a.stored k l);
      under = λ k l z. write_under g v k h l z;
    }

    -- a group under bit 0 after run r is synchronised: none of the run is not zero, or it is in another run
    synchronise-under : (r k : ℕ) → r < runs n c → k < groups n → run_bit (put_run_bit s.bits r (pick (any_in n c s.tags r) 1 0)) (run_of c k) ≡ 0 → row k ≡ 0
    synchronise-under r k h l z = ⊎_elim
        (λ t. let e : run_of c k ≡ r = eqb-true (run_of c k) r t in
        let w : ◌≡◌ {A = ℕ} (pick (any_in n c s.tags r) 1 0) 0 = sym (run_bit-put-same s.bits r _ (there r h) (truth-lt (any_in n c s.tags r)))
        ∙ ap (run_bit (put_run_bit s.bits r (pick (any_in n c s.tags r) 1 0))) (sym e) ∙ z in
        sym (a.stored k l) ∙ any_in-none n c s.tags r (said (any_in n c s.tags r) w) k l e)
        (λ f. a.under k l (sym (run_bit-put-other s.bits r _ (there r h) (truth-lt (any_in n c s.tags r)) (run_of c k) (eqb-false (run_of c k) r f)) ∙ z))
        (true-or-false (eqb (run_of c k) r))
      where
        said : (b : Bool) → ◌≡◌ {A = ℕ} (pick b 1 0) 0 → b ≡ false
        said true w = absurd (omega arith)
        said false w = refl

    pub agrees-synchronise : (r : ℕ) → r < runs n c → Agrees n c row (lent s.tags (put_run_bit s.bits r (pick (any_in n c s.tags r) 1 0)))
    agrees-synchronise r h = record {
      above = a.above;
      tags_long = a.tags_long;
      bits_long = length-put_run_bit s.bits r (pick (any_in n c s.tags r) 1 0) ∙ a.bits_long;
      stored = a.stored;
      under = λ k l z. synchronise-under r k h l z;
    }
