-- Demand 3 once over the number of levels: trackers that move as a table says, in any order of the circle, are a lock machine.
use mathlib.Core.Path.{◌≡◌, refl, sym, ◌∙◌, ap, subst}
use mathlib.Core.Logic.{◌≢◌}
use mathlib.Core.Bool.{Bool, true, false}
use Prim.Native.Nat.{ℕ, zero, suc, ◌+◌, ◌-◌, ◌*◌, ◌≤◌, ◌<◌}
use native.Mathlib.Decide.{ℕ_discrete}
use native.Mathlib.Omega.{arith}
use Rattle.laws.specs.Choice.{pick}
use Rattle.laws.proofs.Choice.{not-both-ways}
use Rattle.circle.specs.Order.{next, Order}
use Rattle.circle.specs.Table.{Move, waits, to, ends}
use Rattle.circle.specs.LastTurn.{bound}
use Rattle.circle.proofs.Lock.{Slot, Holds, Within, Free, But, Turn, passed, ended, nearer, waited, took, went_on, let-go, Promised}
use Rattle.circle.proofs.Lock as Lock
use Rattle.circle.proofs.Bound.{Inv, inv-begin, inv-issue, inv-turn}
use Rattle.circle.proofs.Bound as Bound

-- where an access stands: `before k`, k turns before the one that asks; `after r`, it holds, with r turns at most after its next
pub data Stand : Type 0 where
  rests : Stand
  before after : ℕ → Stand

abbrev pub is_after : Stand → Bool
is_after rests = false
is_after (before k) = false
is_after (after r) = true

-- on e + 1 levels: the turns before an access asks, and the most turns after it was given the lock
abbrev pub early : ℕ → Bool → ℕ
early e bottom = pick bottom e 0

abbrev pub later : ℕ → Bool → ℕ
later e write = pick write (2 * e) e

-- the moves that a step may make from where it stands, by whether another holds the lock; o is the most turns after the asking
abbrev pub Fits : {At : Type 0} → (At → Stand) → (o : ℕ) (held : Bool) → Stand → Move At → Type 0
Fits stand o held rests m = Unit {0}
Fits stand o held (before zero) waits = held ≡ true
Fits stand o held (before (suc k)) waits = ⊥
Fits stand o held (after r) waits = ⊥
Fits stand o held (before zero) (to at) = (held ≡ false) × (r : ℕ) × (stand at ≡ after r) × (suc r ≤ o)
Fits stand o held (before (suc k)) (to at) = stand at ≡ before k
Fits stand o held (after zero) (to at) = ⊥
Fits stand o held (after (suc r)) (to at) = (r' : ℕ) × (stand at ≡ after r') × (r' ≤ r)
Fits stand o held (before k) ends = Unit {0}
Fits stand o held (after r) ends = Unit {0}

-- a device of e + 1 levels: its phases, where each stands for a read or a write, where an access begins, which phases hold
pub record Levels (e : ℕ) : Type 1 where
  pub At : Type 0
  pub first : Bool → At
  pub holding : At → Bool
  pub stand : Bool → At → Stand
  pub stand-first : (write bottom : Bool) → stand write (first bottom) ≡ before (early e bottom)
  pub stand-holding : (write : Bool) (at : At) → holding at ≡ is_after (stand write at)
  pub stand-short : (write : Bool) (at : At) (r : ℕ) → stand write at ≡ after r → suc r ≤ 2 * e

-- an access under way: where it is, whether it writes, and the block that it holds or wants
pub record UnderWay (At : Type 0) : Type 0 where
  pub at : At
  pub write : Bool
  pub lock : ℕ

-- where an access stands, as a slot: a turns given, n promised
abbrev pub slot_at : (e a n : ℕ) (write : Bool) (b : ℕ) → Stand → Slot
slot_at e a n write b rests = Lock.rests
slot_at e a n write b (before k) = Lock.wants b k (later e write) a n
slot_at e a n write b (after r) = Lock.holds b r a n

holds-slot : (e a n : ℕ) (write : Bool) (b b' : ℕ) (s : Stand) → is_after s ≡ true → b ≡ b' → Holds b (slot_at e a n write b' s)
holds-slot e a n write b b' rests h q = absurd (not-both-ways h refl)
holds-slot e a n write b b' (before k) h q = absurd (not-both-ways h refl)
holds-slot e a n write b b' (after r) h q = q

slot-holds : (e a n : ℕ) (write : Bool) (b b' : ℕ) (s : Stand) → Holds b (slot_at e a n write b' s) → (is_after s ≡ true) × (b ≡ b')
slot-holds e a n write b b' rests h = elim h [ ]
slot-holds e a n write b b' (before k) h = elim h [ ]
slot-holds e a n write b b' (after r) h = (refl, h)

later-le : (e : ℕ) (write : Bool) → later e write ≤ 2 * e
later-le e true = omega arith
later-le e false = omega arith

order-inj : (t : ℕ) (O : Order t) (i p : ℕ) → i < t → p < t → O.tracker i ≡ O.tracker p → i ≡ p
order-inj t O i p hi hp q = sym (O.there i hi) ∙ ap O.place q ∙ O.there p hp

-- the promise in the bound's own words
bound-is : (e M : ℕ) (write bottom : Bool) → 2 * e * M + early e bottom + suc (later e write) ≡ bound (suc e) (suc M) write bottom
unfolding bound
bound-is e M write bottom = at (suc e - 1) (suc M - 1) (omega arith) (omega arith) write bottom
  where
    at : (d N : ℕ) → d ≡ e → N ≡ M → (write bottom : Bool)
        → 2 * e * M + early e bottom + suc (later e write) ≡ 2 * d * N + pick write (2 * suc e - 1) (suc e) + pick bottom d 0
    at d N p q true true = rw (p, q) (omega arith)
    at d N p q true false = rw (p, q) (omega arith)
    at d N p q false true = rw (p, q) (omega arith)
    at d N p q false false = rw (p, q) (omega arith)

module _ (e : ℕ) (L : Levels e) (M : ℕ) where
  abbrev pub slot_of : (a n : ℕ) → UnderWay L.At → Slot
  slot_of a n s = slot_at e a n s.write s.lock (L.stand s.write s.at)

  -- the access holds lock b
  abbrev pub Has : UnderWay L.At → ℕ → Type 0
  Has s b = (L.holding s.at ≡ true) × (b ≡ s.lock)

  has-holds : (a n b : ℕ) (s : UnderWay L.At) → Has s b → Holds b (slot_of a n s)
  has-holds a n b s h = holds-slot e a n s.write b s.lock (L.stand s.write s.at) (sym (L.stand-holding s.write s.at) ∙ h.0) h.1

  holds_has : (a n b : ℕ) (s : UnderWay L.At) → Holds b (slot_of a n s) → Has s b
  holds_has a n b s h = let r = slot-holds e a n s.write b s.lock (L.stand s.write s.at) h in (L.stand-holding s.write s.at ∙ r.0, r.1)

  -- the access after a move
  abbrev pub moved : UnderWay L.At → L.At → UnderWay L.At
  moved s at = record { at = at; write = s.write; lock = s.lock }

  -- what a move leaves of an access
  abbrev pub Left : UnderWay L.At → Move L.At → UnderWay L.At → Type 0
  Left s waits s' = s' ≡ s
  Left s (to at) s' = s' ≡ moved s at
  Left s ends s' = L.stand s'.write s'.at ≡ rests

  -- One step of an access is one turn of its slot.
  turn-of : (a n : ℕ) (c : ℕ → Slot) (x : ℕ) (held : Bool) (s s' : UnderWay L.At) (st : Stand) → L.stand s.write s.at ≡ st → st ≢ rests
      → (m : Move L.At) → Fits (L.stand s.write) (later e s.write) held st m → Left s m s'
      → (st ≡ before 0 → held ≡ true → (h : ℕ) × (h < suc M) × (h ≢ x) × Holds s.lock (c h)) → (st ≡ before 0 → held ≡ false → Free M (2 * e) s.lock c)
      → Turn M (2 * e) c x (slot_at e a n s.write s.lock st) (slot_of (suc a) n s')
  turn-of a n c x held s s' rests v ne m fit l f f' = absurd (ne refl)
  turn-of a n c x held s s' (before zero) v ne waits fit l f f' =
      let h = f refl fit in rw (l, v) (waited s.lock (later e s.write) a n h.0 h.1 h.2 h.3)
  turn-of a n c x held s s' (before (suc k)) v ne waits fit l f f' = absurd fit
  turn-of a n c x held s s' (after r) v ne waits fit l f f' = absurd fit
  turn-of a n c x held s s' (before zero) v ne (to at) fit l f f' =
      let m = later-le e s.write in
      let q = fit.3 in
      rw (l, fit.2) (took s.lock (later e s.write) a n fit.1 (f' refl fit.0) q (omega arith))
  turn-of a n c x held s s' (before (suc k)) v ne (to at) fit l f f' = rw (l, fit) (nearer s.lock k (later e s.write) a n)
  turn-of a n c x held s s' (after zero) v ne (to at) fit l f f' = absurd fit
  turn-of a n c x held s s' (after (suc r)) v ne (to at) fit l f f' = rw (l, fit.1) (went_on s.lock r fit.0 a n fit.2)
  turn-of a n c x held s s' (before k) v ne ends fit l f f' = rw l (ended s.lock k (later e s.write) a n)
  turn-of a n c x held s s' (after r) v ne ends fit l f f' = rw l (let-go s.lock r a n)

  module _ (O : Order (suc M)) where
    -- the circle's places as slots; s, given and due are by the tracker's number
    abbrev pub slots : (ℕ → UnderWay L.At) → (given due : ℕ → ℕ) → ℕ → Slot
    slots s given due i = slot_of (given (O.tracker i)) (due (O.tracker i)) (s (O.tracker i))

    -- every promise is being kept; place p has the next turn
    abbrev pub Promises : (ℕ → UnderWay L.At) → (given due : ℕ → ℕ) → ℕ → Type 0
    Promises s given due p = Inv M (2 * e) (slots s given due) p

    -- a promise for what stands in a tracker now
    abbrev room : Stand → (write : Bool) → ℕ
    room rests write = 0
    room (before k) write = 2 * e * M + k + suc (later e write)
    room (after r) write = suc r

    abbrev pub due_now : (ℕ → UnderWay L.At) → (ℕ → ℕ) → ℕ → ℕ
    due_now s given x = given x + room (L.stand (s x).write (s x).at) (s x).write

    pub promises-begin : (s : ℕ → UnderWay L.At) (given : ℕ → ℕ) (p : ℕ) → p < suc M → Promises s given (due_now s given) p
    promises-begin s given p hp = inv-begin M (2 * e) (slots s given (due_now s given)) p hp (λ q hq. at (O.tracker q) (L.stand (s (O.tracker q)).write (s (O.tracker q)).at) refl)
      where
        at : (x : ℕ) (st : Stand) → L.stand (s x).write (s x).at ≡ st → Promised M (2 * e) (slot_at e (given x) (given x + room st (s x).write) (s x).write (s x).lock st)
        at x rests q = tt
        at x (before k) q = omega arith
        at x (after r) q = (omega arith, L.stand-short (s x).write (s x).at r q)

    -- what stands at another tracker than x stays
    abbrev pub Others : ℕ → (s s' : ℕ → UnderWay L.At) (given given' due due' : ℕ → ℕ) → Type 0
    Others x s s' given given' due due' = (y : ℕ) → y ≢ x → (s' y ≡ s y) × (given' y ≡ given y) × (due' y ≡ due y)

    but : (s s' : ℕ → UnderWay L.At) (given given' due due' : ℕ → ℕ) (q : ℕ) → q < suc M → Others (O.tracker q) s s' given given' due due'
        → But M (2 * e) q (slots s given due) (slots s' given' due')
    but s s' given given' due due' q hq same i hi ne =
        let r = same (O.tracker i) (λ eq. ne (order-inj (suc M) O i q hi hq eq)) in rw (r.0, r.1, r.2) refl

    issue-at : (s s' : ℕ → UnderWay L.At) (given given' due due' : ℕ → ℕ) (p q b : ℕ) (write bottom : Bool) → Promises s given due p → q < suc M
        → L.stand (s (O.tracker q)).write (s (O.tracker q)).at ≡ rests → s' (O.tracker q) ≡ record { at = L.first bottom; write = write; lock = b }
        → given' (O.tracker q) ≡ 0 → due' (O.tracker q) ≡ bound (suc e) (suc M) write bottom → Others (O.tracker q) s s' given given' due due' → Promises s' given' due' p
    issue-at s s' given given' due due' p q b write bottom K hq free new none promise same =
        inv-issue M (2 * e) (slots s given due) (slots s' given' due') p q b (early e bottom) (later e write) (bound (suc e) (suc M) write bottom) K hq
        (rw free refl) (rw (new, none, promise, L.stand-first write bottom) refl) (let z = bound-is e M write bottom in omega arith)
        (but s s' given given' due due' q hq same)

    -- An access issued to a tracker at rest is promised its bound.
    pub promises-issue : (s s' : ℕ → UnderWay L.At) (given given' due due' : ℕ → ℕ) (p x b : ℕ) (write bottom : Bool) → Promises s given due p → x < suc M
        → L.stand (s x).write (s x).at ≡ rests → s' x ≡ record { at = L.first bottom; write = write; lock = b }
        → given' x ≡ 0 → due' x ≡ bound (suc e) (suc M) write bottom → Others x s s' given given' due due' → Promises s' given' due' p
    promises-issue s s' given given' due due' p x b write bottom K hx =
        subst (λ (y : ℕ). L.stand (s y).write (s y).at ≡ rests → s' y ≡ record { at = L.first bottom; write = write; lock = b }
        → given' y ≡ 0 → due' y ≡ bound (suc e) (suc M) write bottom → Others y s s' given given' due due' → Promises s' given' due' p) (O.back x hx)
        (issue-at s s' given given' due due' p (O.place x) b write bottom K (O.place-below x hx))

    -- The tracker at place p is given its turn and moves as a table says.
    pub promises-turn : (s s' : ℕ → UnderWay L.At) (given given' due : ℕ → ℕ) (p : ℕ) (held : Bool) (m : Move L.At) → Promises s given due p
        → L.stand (s (O.tracker p)).write (s (O.tracker p)).at ≢ rests
        → Fits (L.stand (s (O.tracker p)).write) (later e (s (O.tracker p)).write) held (L.stand (s (O.tracker p)).write (s (O.tracker p)).at) m
        → Left (s (O.tracker p)) m (s' (O.tracker p))
        → (L.stand (s (O.tracker p)).write (s (O.tracker p)).at ≡ before 0 → held ≡ true → (y : ℕ) × (y < suc M) × (y ≢ O.tracker p) × Has (s y) (s (O.tracker p)).lock)
        → (L.stand (s (O.tracker p)).write (s (O.tracker p)).at ≡ before 0 → held ≡ false → (y : ℕ) → y < suc M → y ≢ O.tracker p → Has (s y) (s (O.tracker p)).lock → ⊥)
        → given' (O.tracker p) ≡ suc (given (O.tracker p)) → Others (O.tracker p) s s' given given' due due → Promises s' given' due (next (suc M) p)
    promises-turn s s' given given' due p held m K busy fit left another none more same =
        inv-turn M (2 * e) (slots s given due) (slots s' given' due) p K
        (rw more (turn-of (given x) (due x) (slots s given due) p held (s x) (s' x) (L.stand (s x).write (s x).at) refl busy m fit left holder free))
        (but s s' given given' due due p K.place same)
      where
        x : ℕ
        x = O.tracker p

        holder : L.stand (s x).write (s x).at ≡ before 0 → held ≡ true → (h : ℕ) × (h < suc M) × (h ≢ p) × Holds (s x).lock (slots s given due h)
        holder z h =
            let r = another z h in (
              O.place r.0,
              O.place-below r.0 r.1,
              (λ q. r.2 (sym (O.back r.0 r.1) ∙ ap O.tracker q)),
              rw (O.back r.0 r.1) (has-holds (given r.0) (due r.0) (s x).lock (s r.0) r.3),
            )

        free : L.stand (s x).write (s x).at ≡ before 0 → held ≡ false → Free M (2 * e) (s x).lock (slots s given due)
        free z h i hi k = at (ℕ_discrete (O.tracker i) x)
          where
            k' : Has (s (O.tracker i)) (s x).lock
            k' = holds_has (given (O.tracker i)) (due (O.tracker i)) (s x).lock (s (O.tracker i)) k

            at : Dec (O.tracker i ≡ x) → ⊥
            at (yes q) = not-both-ways (sym (L.stand-holding (s x).write (s x).at) ∙ subst (λ (y : ℕ). L.holding (s y).at ≡ true) q k'.0) (ap is_after z)
            at (no ne) = none z h (O.tracker i) (O.tracker-below i hi) ne k'

    -- A tracker at rest is passed over.
    pub promises-over : (s : ℕ → UnderWay L.At) (given due : ℕ → ℕ) (p : ℕ) → Promises s given due p
        → L.stand (s (O.tracker p)).write (s (O.tracker p)).at ≡ rests → Promises s given due (next (suc M) p)
    promises-over s given due p K free = inv-turn M (2 * e) (slots s given due) (slots s given due) p K (rw free passed) (λ i hi ne. refl)

    -- THE BOUND: a busy tracker was given fewer turns than it was promised.
    pub promises-within : (s : ℕ → UnderWay L.At) (given due : ℕ → ℕ) (p : ℕ) → Promises s given due p → (x : ℕ) → x < suc M
        → L.stand (s x).write (s x).at ≢ rests → given x < due x
    promises-within s given due p K x hx busy = at (L.stand (s x).write (s x).at) busy
        (subst (λ (y : ℕ). Within (slot_of (given y) (due y) (s y))) (O.back x hx) (Bound.bound M (2 * e) (slots s given due) p K (O.place x) (O.place-below x hx)))
      where
        at : (st : Stand) → st ≢ rests → Within (slot_at e (given x) (due x) (s x).write (s x).lock st) → given x < due x
        at rests ne h = absurd (ne refl)
        at (before k) ne h = h
        at (after r) ne h = h
