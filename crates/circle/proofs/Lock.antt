-- The bound's machine: M + 1 trackers at the places of a circle, each of which wants or holds one lock, or rests.
use mathlib.Core.Path.{◌≡◌}
use mathlib.Core.Logic.{◌≢◌}
use Prim.Native.Nat.{ℕ, zero, suc, ◌+◌, ◌*◌, ◌≤◌, ◌<◌}

-- What a tracker does. Of `a` and `n`, `a` is the number of turns that it was given, `n` the turn by which it is promised to have ended.
--   wants b k o a n: it wants lock b; it has k turns before it asks, and o at most after the one in which it gets it
--   holds b r a n:   it holds lock b, and has r turns at most after its next
pub data Slot : Type 0 where
  rests : Slot
  wants : (b k o a n : ℕ) → Slot
  holds : (b r a n : ℕ) → Slot

-- the slot holds lock b
abbrev pub Holds : ℕ → Slot → Type 0
Holds b rests = ⊥
Holds b (wants b' k o a n) = ⊥
Holds b (holds b' r a n) = b ≡ b'

-- the promise is not broken
abbrev pub Within : Slot → Type 0
Within rests = Unit {0}
Within (wants b k o a n) = a < n
Within (holds b r a n) = a < n

module _ (M H : ℕ) where
  -- nobody holds lock b
  abbrev pub Free : ℕ → (ℕ → Slot) → Type 0
  Free b c = (h : ℕ) → h < suc M → Holds b (c h) → ⊥

  -- c' differs from c at place x at most
  abbrev pub But : ℕ → (c c' : ℕ → Slot) → Type 0
  But x c c' = (i : ℕ) → i < suc M → i ≢ x → c' i ≡ c i

  -- One turn of the tracker at place x: its slot before and after. H is the most turns for which a lock is held after the one in which it was taken.
  pub data Turn (c : ℕ → Slot) (x : ℕ) : Slot → Slot → Type 0 where
    passed : Turn c x rests rests
    ended : (b k o a n : ℕ) → Turn c x (wants b k o a n) rests
    nearer : (b k o a n : ℕ) → Turn c x (wants b (suc k) o a n) (wants b k o (suc a) n)
    waited : (b o a n h : ℕ) → h < suc M → h ≢ x → Holds b (c h) → Turn c x (wants b zero o a n) (wants b zero o (suc a) n)
    took : (b o a n r : ℕ) → Free b c → suc r ≤ o → suc r ≤ H → Turn c x (wants b zero o a n) (holds b r (suc a) n)
    went_on : (b r r' a n : ℕ) → r' ≤ r → Turn c x (holds b (suc r) a n) (holds b r' (suc a) n)
    let-go : (b r a n : ℕ) → Turn c x (holds b r a n) rests

  -- What may stand in a slot when the circle begins, or be issued later: the promise is counted from now, H turns for each other tracker; no hold is too long.
  abbrev pub Promised : Slot → Type 0
  Promised rests = Unit {0}
  Promised (wants b k o a n) = a + (H * M + k + suc o) ≤ n
  Promised (holds b r a n) = (a + suc r ≤ n) × (suc r ≤ H)
