-- No promise of the lock machine is broken: an invariant on the turns that a tracker was given and its waits to come, which holds when the circle begins,
-- however the trackers stand, and which every turn and every issue keep.
use mathlib.Core.Path.{◌≡◌, refl, sym, subst}
use mathlib.Core.Logic.{◌≢◌}
use Prim.Native.Nat.{ℕ, zero, suc, ◌+◌, ◌*◌, ◌≤◌, ◌<◌}
use native.Mathlib.Nat.{mul-le-mul_left}
use native.Mathlib.Decide.{ℕ_discrete}
use native.Mathlib.Omega.{arith}
use Rattle.circle.specs.Order.{next}
use Rattle.circle.proofs.Round.{dist, next-in, dist-lt, dist_same, dist-pos, dist-next, dist-own, dist-inj}
use Rattle.circle.proofs.Lock.{Slot, rests, wants, holds, Holds, Within, Free, But, Turn, passed, ended, nearer, waited, took, went_on, let-go, Promised}

-- the turns for which a slot still holds
abbrev pub rest : Slot → ℕ
rest rests = 0
rest (wants b k o a n) = 0
rest (holds b r a n) = suc r

rest-pos : (b : ℕ) (s : Slot) → Holds b s → 1 ≤ rest s
rest-pos b rests e = elim e [ ]
rest-pos b (wants b' k o a n) e = elim e [ ]
rest-pos b (holds b' r a n) e = omega arith

module _ (M H : ℕ) where
  -- from place p forward to place q
  abbrev far : ℕ → ℕ → ℕ
  far p q = dist (suc M) p q

  -- The tracker at q asks for lock b, and p has the next turn. Its turns so far, those that it has once it gets b, and its waits to come are within its promise.
  -- With b free, each tracker from p up to q may take b before it: H waits each. With b held by h, those between h and q may, and h has its rest;
  -- that is one wait less where h has its turn before q does.
  pub record Asks (c : ℕ → Slot) (p q b o a n : ℕ) : Type 0 where
    pub base : a + suc o ≤ n
    pub free : Free M H b c → a + suc o + H * dist (suc M) p q ≤ n
    pub late : (h g : ℕ) → h < suc M → Holds b (c h) → dist (suc M) h q ≡ suc g → a + suc o + H * g + rest (c h) ≤ suc n
    pub soon : (h g : ℕ) → h < suc M → Holds b (c h) → dist (suc M) h q ≡ suc g → dist (suc M) p q ≤ g → a + suc o + H * g + rest (c h) ≤ n

  abbrev pub Good : (c : ℕ → Slot) (p q : ℕ) → Slot → Type 0
  Good c p q rests = Unit {0}
  Good c p q (wants b zero o a n) = Asks c p q b o a n
  Good c p q (wants b (suc k) o a n) = a + suc k + suc o + H * M ≤ n
  Good c p q (holds b r a n) = (a + suc r ≤ n) × (suc r ≤ H)

  -- every tracker's promise is being kept; place p has the next turn
  pub record Inv (c : ℕ → Slot) (p : ℕ) : Type 0 where
    pub place : p < suc M
    pub good : (q : ℕ) → q < suc M → Good c p q (c q)

  within : (c : ℕ → Slot) (p q : ℕ) (s : Slot) → Good c p q s → Within s
  within c p q rests g = tt
  within c p q (wants b zero o a n) g = let h = g.base in omega arith
  within c p q (wants b (suc k) o a n) g = omega arith
  within c p q (holds b r a n) g = omega arith

  -- no hold is too long
  rest_le : (c : ℕ → Slot) (p q : ℕ) (s : Slot) → Good c p q s → rest s ≤ H
  rest_le c p q rests g = omega arith
  rest_le c p q (wants b k o a n) g = omega arith
  rest_le c p q (holds b r a n) g = g.1

  -- who comes to ask has H waits at most for each other tracker, wherever the locks are
  comes : (c : ℕ → Slot) (p q b o a n : ℕ) → p < suc M → q < suc M → ((h : ℕ) → h < suc M → rest (c h) ≤ H) → a + suc o + H * M ≤ n → Asks c p q b o a n
  comes c p q b o a n hp hq short le = record {
    base = omega arith;
    free = λ f. let d : far p q ≤ M = let e = dist-lt (suc M) p q hp hq in omega arith in let l = mul-le-mul_left H d in omega arith;
    late = λ h g hh k e. let l = at h g hh e in omega arith;
    soon = λ h g hh k e le'. at h g hh e;
  }
    where
      at : (h g : ℕ) → h < suc M → far h q ≡ suc g → a + suc o + H * g + rest (c h) ≤ n
      at h g hh e =
          let d = dist-lt (suc M) h q hh hq in
          let f : suc g ≤ M = omega arith in
          let l = mul-le-mul_left H f in
          let r = short h hh in
          omega arith

  -- The slot at x changes, and the next turn is at p' and no longer at p: what one who asks at another place q needs of x alone.
  carries : (c c' : ℕ → Slot) (x p p' q b o a n : ℕ) → But M H x c c' → Asks c p q b o a n
      → ((h g : ℕ) → h < suc M → h ≢ x → far h q ≡ suc g → far p' q ≤ g → far p q ≤ g)
      → (Free M H b c' → a + suc o + H * far p' q ≤ n)
      → (Holds b (c' x) → (g : ℕ) → far x q ≡ suc g → a + suc o + H * g + rest (c' x) ≤ n) → Asks c' p' q b o a n
  carries c c' x p p' q b o a n but w near free own = record {
    base = w.base;
    free = free;
    late = λ h g hh k e. late h g hh k e (ℕ_discrete h x);
    soon = λ h g hh k e le. soon h g hh k e le (ℕ_discrete h x);
  }
    where
      mine : (h g : ℕ) → Holds b (c' h) → far h q ≡ suc g → h ≡ x → a + suc o + H * g + rest (c' h) ≤ n
      mine h g k e eq = rw eq (own (subst (λ (i : ℕ). Holds b (c' i)) eq k) g (subst (λ (i : ℕ). far i q ≡ suc g) eq e))

      late : (h g : ℕ) → h < suc M → Holds b (c' h) → far h q ≡ suc g → Dec (h ≡ x) → a + suc o + H * g + rest (c' h) ≤ suc n
      late h g hh k e (yes eq) = let l = mine h g k e eq in omega arith
      late h g hh k e (no ne) = rw (but h hh ne) (w.late h g hh (subst (Holds b) (but h hh ne) k) e)

      soon : (h g : ℕ) → h < suc M → Holds b (c' h) → far h q ≡ suc g → far p' q ≤ g → Dec (h ≡ x) → a + suc o + H * g + rest (c' h) ≤ n
      soon h g hh k e le (yes eq) = mine h g k e eq
      soon h g hh k e le (no ne) = rw (but h hh ne) (w.soon h g hh (subst (Holds b) (but h hh ne) k) e (near h g hh ne e le))

  -- where x held b before only if it does after, a lock free after was free before
  was_free : (c c' : ℕ → Slot) (x b : ℕ) → x < suc M → But M H x c c' → (Holds b (c x) → Holds b (c' x)) → Free M H b c' → Free M H b c
  was_free c c' x b hx but keep f h hh k = at (ℕ_discrete h x)
    where
      at : Dec (h ≡ x) → ⊥
      at (yes eq) = f x hx (keep (subst (λ (i : ℕ). Holds b (c i)) eq k))
      at (no ne) = f h hh (rw (but h hh ne) k)

  -- A turn of x, for one who asks at another place q.
  module _ (c c' : ℕ → Slot) (x q b o a n : ℕ) (hx : x < suc M) (hq : q < suc M) (ne : x ≢ q) (but : But M H x c c') (w : Asks c x q b o a n) where
    turn-carries : (Free M H b c' → a + suc o + H * far (next (suc M) x) q ≤ n)
        → (Holds b (c' x) → (g : ℕ) → far x q ≡ suc g → a + suc o + H * g + rest (c' x) ≤ n) → Asks c' (next (suc M) x) q b o a n
    turn-carries = carries c c' x x (next (suc M) x) q b o a n but w near
      where
        near : (h g : ℕ) → h < suc M → h ≢ x → far h q ≡ suc g → far (next (suc M) x) q ≤ g → far x q ≤ g
        near h g hh nh e le =
            let d = dist-next (suc M) x q hx hq ne in
            let apart : far h q ≢ far x q = λ same. nh (dist-inj (suc M) h x q hh hx same) in
            omega arith

    still-free : (Holds b (c x) → Holds b (c' x)) → Free M H b c' → a + suc o + H * far (next (suc M) x) q ≤ n
    still-free keep f =
        let l = w.free (was_free c c' x b hx but keep f) in
        let d = dist-next (suc M) x q hx hq ne in
        let m : H * far (next (suc M) x) q ≤ H * far x q = mul-le-mul_left H (omega arith) in
        omega arith

    -- x does not hold b after its turn, and did not before
    apart : (s s' : Slot) → c x ≡ s → c' x ≡ s' → (Holds b s → ⊥) → (Holds b s' → ⊥) → Asks c' (next (suc M) x) q b o a n
    apart s s' e e' f f' = turn-carries (still-free (λ k. absurd (f (subst (Holds b) e k)))) (λ k. absurd (f' (subst (Holds b) e' k)))

    -- x lets go of a lock
    freed : (b' r a' n' : ℕ) → c x ≡ holds b' r a' n' → Dec (b ≡ b') → Free M H b c' → a + suc o + H * far (next (suc M) x) q ≤ n
    freed b' r a' n' e (yes same) f =
        let d = dist-next (suc M) x q hx hq ne in
        let l : a + suc o + H * far (next (suc M) x) q + suc r ≤ suc n = rw e at (w.late x (far (next (suc M) x) q) hx (rw e same) (sym d)) in
        omega arith
    freed b' r a' n' e (no differs) f = still-free (λ k. absurd (differs (subst (Holds b) e k))) f

    other : (s s' : Slot) → c x ≡ s → c' x ≡ s' → Turn M H c x s s' → Asks c' (next (suc M) x) q b o a n
    other s s' e e' passed = apart s s' e e' (λ k. k) (λ k. k)
    other s s' e e' (ended b' k' o' a' n') = apart s s' e e' (λ k. k) (λ k. k)
    other s s' e e' (nearer b' k' o' a' n') = apart s s' e e' (λ k. k) (λ k. k)
    other s s' e e' (waited b' o' a' n' h hh nh k') = apart s s' e e' (λ k. k) (λ k. k)
    other s s' e e' (took b' o' a' n' r f le lh) = turn-carries (still-free (λ k. absurd (subst (Holds b) e k))) taken
      where
        taken : Holds b (c' x) → (g : ℕ) → far x q ≡ suc g → a + suc o + H * g + rest (c' x) ≤ n
        taken k g d =
            let same : b ≡ b' = subst (Holds b) e' k in
            let l : a + suc o + H * suc g ≤ n = rw d at (w.free (λ h hh k'. f h hh (rw same at k'))) in
            rw e' (omega arith)
    other s s' e e' (went_on b' r r' a' n' le) = turn-carries (still-free (λ k. rw e' (subst (Holds b) e k))) used
      where
        used : Holds b (c' x) → (g : ℕ) → far x q ≡ suc g → a + suc o + H * g + rest (c' x) ≤ n
        used k g d =
            let same : b ≡ b' = subst (Holds b) e' k in
            let l : a + suc o + H * g + suc (suc r) ≤ suc n = rw e at (w.late x g hx (rw e same) d) in
            rw e' (omega arith)
    other s s' e e' (let-go b' r a' n') = turn-carries (freed b' r a' n' e (ℕ_discrete b b')) (λ k. absurd (subst (Holds b) e' k))

  -- A turn of q itself.
  module _ (c c' : ℕ → Slot) (q : ℕ) (hq : q < suc M) (but : But M H q c c') (short : (h : ℕ) → h < suc M → rest (c' h) ≤ H) where
    -- q waits, b being held: what was soon becomes late, and no holder comes before q in the round to come
    waits-on : (b o a n h : ℕ) → h < suc M → h ≢ q → Holds b (c h) → Asks c q q b o a n → Asks c' (next (suc M) q) q b o (suc a) n
    waits-on b o a n h hh nh k w = record {
      base = base (far h q) (dist-pos (suc M) h q hh nh) refl;
      free = λ f. absurd (f h hh (rw (but h hh nh) k));
      late = λ i g hi ki e. late i g hi ki e (ℕ_discrete i q);
      soon = λ i g hi ki e le. let d = dist-own (suc M) q hq in let u = dist-lt (suc M) i q hi hq in absurd (omega arith);
    }
      where
        near : (g : ℕ) → far q q ≤ g
        near g = let z = dist_same (suc M) q hq in omega arith

        late : (i g : ℕ) → i < suc M → Holds b (c' i) → far i q ≡ suc g → Dec (i ≡ q) → suc a + suc o + H * g + rest (c' i) ≤ suc n
        late i g hi ki e (yes eq) = let z = dist_same (suc M) q hq in absurd (omega (arith, subst (λ (j : ℕ). far j q ≡ suc g) eq e))
        late i g hi ki e (no ni) =
            let l : a + suc o + H * g + rest (c' i) ≤ n = rw (but i hi ni) (w.soon i g hi (rw (but i hi ni) at ki) e (near g)) in
            omega arith

        base : (d : ℕ) → 1 ≤ d → far h q ≡ d → suc a + suc o ≤ n
        base zero l e = absurd (omega arith)
        base (suc g) l e =
            let m = w.soon h g hh k e (near g) in
            let r = rest-pos b (c h) k in
            omega arith

    own : (s s' : Slot) → Turn M H c q s s' → Good c q q s → Good c' (next (suc M) q) q s'
    own s s' passed g = tt
    own s s' (ended b k o a n) g = tt
    own s s' (nearer b zero o a n) g = comes c' (next (suc M) q) q b o (suc a) n (next-in (suc M) q hq) hq short (omega arith)
    own s s' (nearer b (suc k) o a n) g = omega arith
    own s s' (waited b o a n h hh nh k) g = waits-on b o a n h hh nh k g
    own s s' (took b o a n r f le lh) g = let l = g.base in (omega arith, lh)
    own s s' (went_on b r r' a n le) g = (omega arith, omega arith)
    own s s' (let-go b r a n) g = tt

  rest-turn : (c : ℕ → Slot) (x : ℕ) (s s' : Slot) → Turn M H c x s s' → rest s ≤ H → rest s' ≤ H
  rest-turn c x s s' passed l = l
  rest-turn c x s s' (ended b k o a n) l = l
  rest-turn c x s s' (nearer b k o a n) l = l
  rest-turn c x s s' (waited b o a n h hh nh k) l = l
  rest-turn c x s s' (took b o a n r f le lh) l = lh
  rest-turn c x s s' (went_on b r r' a n le) l = omega arith
  rest-turn c x s s' (let-go b r a n) l = omega arith

  -- a slot that does not change, through another's turn
  stays : (c c' : ℕ → Slot) (x q : ℕ) → x < suc M → q < suc M → x ≢ q → But M H x c c' → Turn M H c x (c x) (c' x) → (s : Slot) → Good c x q s → Good c' (next (suc M) x) q s
  stays c c' x q hx hq ne but turn rests g = tt
  stays c c' x q hx hq ne but turn (wants b zero o a n) g = other c c' x q b o a n hx hq ne but g (c x) (c' x) refl refl turn
  stays c c' x q hx hq ne but turn (wants b (suc k) o a n) g = g
  stays c c' x q hx hq ne but turn (holds b r a n) g = g

  pub inv-turn : (c c' : ℕ → Slot) (p : ℕ) → Inv c p → Turn M H c p (c p) (c' p) → But M H p c c' → Inv c' (next (suc M) p)
  inv-turn c c' p inv turn but = record { place = next-in (suc M) p inv.place; good = λ q hq. at q hq (ℕ_discrete q p) }
    where
      short : (h : ℕ) → h < suc M → Dec (h ≡ p) → rest (c' h) ≤ H
      short h hh (yes eq) = rw eq (rest-turn c p (c p) (c' p) turn (rest_le c p p (c p) (inv.good p inv.place)))
      short h hh (no ne) = rw (but h hh ne) (rest_le c p h (c h) (inv.good h hh))

      at : (q : ℕ) → q < suc M → Dec (q ≡ p) → Good c' (next (suc M) p) q (c' q)
      at q hq (yes eq) = rw eq (own c c' p inv.place but (λ h hh. short h hh (ℕ_discrete h p)) (c p) (c' p) turn (inv.good p inv.place))
      at q hq (no ne) = rw (but q hq ne) (stays c c' p q inv.place hq (λ e. ne (sym e)) but turn (c q) (inv.good q hq))

  -- what is promised from now on, wherever the locks are
  promised : (c : ℕ → Slot) (p q : ℕ) → p < suc M → q < suc M → ((h : ℕ) → h < suc M → rest (c h) ≤ H) → (s : Slot) → Promised M H s → Good c p q s
  promised c p q hp hq short rests g = tt
  promised c p q hp hq short (wants b zero o a n) g = comes c p q b o a n hp hq short (omega arith)
  promised c p q hp hq short (wants b (suc k) o a n) g = omega arith
  promised c p q hp hq short (holds b r a n) g = g

  rest-promised : (s : Slot) → Promised M H s → rest s ≤ H
  rest-promised rests g = omega arith
  rest-promised (wants b k o a n) g = omega arith
  rest-promised (holds b r a n) g = g.1

  pub inv-begin : (c : ℕ → Slot) (p : ℕ) → p < suc M → ((q : ℕ) → q < suc M → Promised M H (c q)) → Inv c p
  inv-begin c p hp g = record { place = hp; good = λ q hq. promised c p q hp hq (λ h hh. rest-promised (c h) (g h hh)) (c q) (g q hq) }

  -- Work issued to x, which rests: x holds nothing before and nothing after.
  unmoved : (c c' : ℕ → Slot) (p x q : ℕ) → x < suc M → But M H x c c' → ((b : ℕ) → Holds b (c x) → ⊥) → ((b : ℕ) → Holds b (c' x) → ⊥) → (s : Slot) → Good c p q s → Good c' p q s
  unmoved c c' p x q hx but f f' rests g = tt
  unmoved c c' p x q hx but f f' (wants b zero o a n) g =
      carries c c' x p p q b o a n but g (λ h i hh ne e le. le) (λ u. g.free (was_free c c' x b hx but (λ k. absurd (f b k)) u)) (λ k. absurd (f' b k))
  unmoved c c' p x q hx but f f' (wants b (suc k) o a n) g = g
  unmoved c c' p x q hx but f f' (holds b r a n) g = g

  pub inv-issue : (c c' : ℕ → Slot) (p x b k o n : ℕ) → Inv c p → x < suc M → c x ≡ rests → c' x ≡ wants b k o 0 n → H * M + k + suc o ≤ n → But M H x c c' → Inv c' p
  inv-issue c c' p x b k o n inv hx e e' le but = record { place = inv.place; good = λ q hq. at q hq (ℕ_discrete q x) }
    where
      short : (h : ℕ) → h < suc M → Dec (h ≡ x) → rest (c' h) ≤ H
      short h hh (yes eq) = rw (eq, e') (omega arith)
      short h hh (no ne) = rw (but h hh ne) (rest_le c p h (c h) (inv.good h hh))

      at : (q : ℕ) → q < suc M → Dec (q ≡ x) → Good c' p q (c' q)
      at q hq (yes eq) = rw (eq, e') (promised c' p x inv.place hx (λ h hh. short h hh (ℕ_discrete h x)) (wants b k o 0 n) (omega arith))
      at q hq (no ne) = rw (but q hq ne) (unmoved c c' p x q hx but (λ b' k'. subst (Holds b') e k') (λ b' k'. subst (Holds b') e' k') (c q) (inv.good q hq))

  -- THE BOUND: no busy tracker was given as many turns as it was promised.
  pub bound : (c : ℕ → Slot) (p : ℕ) → Inv c p → (q : ℕ) → q < suc M → Within (c q)
  bound c p inv q hq = within c p q (c q) (inv.good q hq)
