-- Over any number of events: the circle goes on as noted, each busy tracker is given a turn in T places, and an access issued under it is answered.
use mathlib.Core.Path.{◌≡◌, refl, sym, ap, ◌∙◌, subst}
use mathlib.Core.Logic.{◌≢◌, ◌⊎◌, inl, inr}
use mathlib.Core.Bool.{Bool, true}
use mathlib.Core.List.{List, [], ◌∷◌}
use Prim.Native.Nat.{ℕ, zero, suc, ◌+◌, ◌*◌, ◌<◌, ◌≤◌}
use native.Mathlib.Omega.{arith}
use native.Mathlib.Decide.{ℕ_discrete}
use Rattle.laws.proofs.Choice.{not-both-ways}
use Rattle.rules.specs.Run.{Call, Kept, kept, does, answers, ended}
use Rattle.circle.specs.Order.{next, Order}
use Rattle.circle.specs.LastTurn.{bound}
use Rattle.circle.proofs.Round.{dist, dist-next, dist-own}
use Rattle.circle.proofs.Becomes.{becomes-same, becomes-other}
use Rattle.demands.specs.Event.{Event, event, events, TurnOf}
use Rattle.demands.specs.Circle.{Note, busy, is_busy, went_on, noted, NoTurn, Goes, stays, turned, passed, between}
use Rattle.demands.specs.Circle as Notes
use Rattle.demands.specs.Demand3.{InTime, EndOf, Among}
use Rattle.demands.proofs.Going.{Going, busy-in, time, going-passed, going-turned, going-between, busy-between}

abbrev head_or : Event → List Event → Event
head_or d [] = d
head_or d (a ∷ xs) = a

abbrev tail_of : List Event → List Event
tail_of [] = []
tail_of (a ∷ xs) = xs

pub heads : {a b : Event} {xs ys : List Event} → a ∷ xs ≡ b ∷ ys → a ≡ b
heads e = ap (head_or Event.refused) e

pub tails : {a b : Event} {xs ys : List Event} → a ∷ xs ≡ b ∷ ys → xs ≡ ys
tails e = ap tail_of e

pub no-cons : {a : Event} {xs : List Event} → ◌≡◌ {A = List Event} (a ∷ xs) [] → ⊥
no-cons e = let z : ◌≡◌ {A = ℕ} 0 1 = cc in omega arith

-- the events of the calls cs from k
abbrev pub seen : Kept → List Call → List Event
seen k cs = events cs (answers k cs)

pub seen_none : (k : Kept) → seen k [] ≡ []
unfolding events
seen_none k = refl

pub seen_more : (k : Kept) (c : Call) (cs : List Call) → seen k (c ∷ cs) ≡ event c (does k c).said ∷ seen (kept (does k c)) cs
unfolding events answers
seen_more k c cs = refl

module _ (below t : ℕ) (o : Order t) where
  turned_as : (k : Kept) (i : ℕ) (notes : ℕ → Note) (c : Call) (e : Event) → Going below t o k i notes → TurnOf (o.tracker i) e → e ≡ event c (does k c).said
      → Going below t o (kept (does k c)) (next t i) (noted e notes)
  turned_as k i notes c e G q d = rw d (going-turned below t o k i notes G c (subst (TurnOf (o.tracker i)) d q))

  between-as : (k : Kept) (i : ℕ) (notes : ℕ → Note) (c : Call) (e : Event) → Going below t o k i notes → NoTurn e → e ≡ event c (does k c).said
      → Going below t o (kept (does k c)) i (noted e notes)
  between-as k i notes c e G f d = rw d (going-between below t o k i notes G c (subst NoTurn d f))

  busy-as : (k : Kept) (i : ℕ) (notes : ℕ → Note) (c : Call) (e : Event) → Going below t o k i notes → NoTurn e → e ≡ event c (does k c).said
      → (x : ℕ) → is_busy (notes x) ≡ true → noted e notes x ≡ notes x
  busy-as k i notes c e G f d x b = rw d (busy-between below t o k i notes G c (subst NoTurn d f) x b)

  -- events that take the circle on
  pub going : {i j n : ℕ} {notes notes' : ℕ → Note} {es : List Event} → Goes t o i notes es n j notes'
      → (cs : List Call) (k : Kept) → es ≡ seen k cs → Going below t o k i notes → Going below t o (ended k cs) j notes'
  unfolding ended
  going stays [] k e G = G
  going stays (c ∷ cs) k e G = absurd (no-cons (sym (e ∙ seen_more k c cs)))
  going (turned d q r) [] k e G = absurd (no-cons (e ∙ seen_none k))
  going {i = i} {notes = notes} (turned d q r) (c ∷ cs) k e G =
      let z = e ∙ seen_more k c cs in going r cs (kept (does k c)) (tails z) (turned_as k i notes c d G q (heads z))
  going {i = i} {notes = notes} (passed b r) cs k e G = going r cs k e (going-passed below t o k i notes G b)
  going (between d f r) [] k e G = absurd (no-cons (e ∙ seen_none k))
  going {i = i} {notes = notes} (between d f r) (c ∷ cs) k e G =
      let z = e ∙ seen_more k c cs in going r cs (kept (does k c)) (tails z) (between-as k i notes c d G f (heads z))

  elsewhere : (x i : ℕ) → x < t → o.tracker i ≢ x → i ≢ o.place x
  elsewhere x i hx ne q = ne (ap o.tracker q ∙ o.back x hx)

  -- another's turn leaves a note
  other-turn : (notes : ℕ → Note) (x y : ℕ) (e : Event) → TurnOf x e → y ≢ x → noted e notes y ≡ notes y
  other-turn notes x y (Event.goes_on z) h ne = becomes-other notes z y (went_on (notes z)) (λ q. ne (q ∙ h))
  other-turn notes x y (Event.ends z b k) h ne = becomes-other notes z y (Notes.ended k (notes z)) (λ q. ne (q ∙ h))
  other-turn notes x y (Event.begins z a) h ne = elim h [ ]
  other-turn notes x y Event.drained h ne = elim h [ ]
  other-turn notes x y Event.refused h ne = elim h [ ]

  -- in T places each busy tracker has a turn
  module _ (x : ℕ) where
    turn-comes : (k : Kept) (i : ℕ) (notes : ℕ → Note) (e : Event) → Going below t o k i notes → TurnOf (o.tracker i) e → is_busy (notes x) ≡ true
        → (n : ℕ) → dist t i (o.place x) < suc n → (A : Type 0) → (is_busy (noted e notes x) ≡ true → dist t (next t i) (o.place x) < n → A)
        → TurnOf x e ⊎ A
    turn-comes k i notes e G q b n f A ih = at (ℕ_discrete (o.tracker i) x)
      where
        hx : x < t
        hx = busy-in below t o k i notes G x b

        at : Dec (o.tracker i ≡ x) → TurnOf x e ⊎ A
        at (yes p) = inl (subst (λ (y : ℕ). TurnOf y e) p q)
        at (no ne) =
            let d = dist-next t i (o.place x) G.place (o.place-below x hx) (elsewhere x i hx ne) in
            inr (ih (ap is_busy (other-turn notes (o.tracker i) x e q (λ r. ne (sym r))) ∙ b) (omega arith))

    pub turn-of : {i j n : ℕ} {notes notes' : ℕ → Note} {es : List Event} → Goes t o i notes es n j notes'
        → (cs : List Call) (k : Kept) → es ≡ seen k cs → Going below t o k i notes → is_busy (notes x) ≡ true → dist t i (o.place x) < n → Among (TurnOf x) es
    turn-of stays cs k e G b f = absurd (omega arith)
    turn-of (turned d q r) [] k e G b f = absurd (no-cons (e ∙ seen_none k))
    turn-of {i = i} {notes = notes} (turned {n = n} {es = es} d q r) (c ∷ cs) k e G b f =
        let z = e ∙ seen_more k c cs in
        turn-comes k i notes d G q b n f (Among (TurnOf x) es) (λ b' f'. turn-of r cs (kept (does k c)) (tails z) (turned_as k i notes c d G q (heads z)) b' f')
    turn-of {i = i} {notes = notes} (passed {n = n} b' r) cs k e G b f =
        let hx = busy-in below t o k i notes G x b in
        let d = dist-next t i (o.place x) G.place (o.place-below x hx) (elsewhere x i hx (λ p. not-both-ways (subst (λ (y : ℕ). is_busy (notes y) ≡ true) (sym p) b) b')) in
        turn-of r cs k e (going-passed below t o k i notes G b') b (omega arith)
    turn-of (between d g r) [] k e G b f = absurd (no-cons (e ∙ seen_none k))
    turn-of {i = i} {notes = notes} (between d g r) (c ∷ cs) k e G b f =
        let z = e ∙ seen_more k c cs in
        inr (turn-of r cs (kept (does k c)) (tails z) (between-as k i notes c d G g (heads z)) (ap is_busy (busy-as k i notes c d G g (heads z) x b) ∙ b) f)

  -- what is left to be done for an access that is given its turns
  module _ (x : ℕ) (write bottom : Bool) where
    -- from place i, each of its `more` turns after the next is a circle away
    abbrev Far : (i given n : ℕ) → Type 0
    Far i given n = (more : ℕ) × (bound (suc (suc below)) t write bottom ≤ suc given + more) × (dist t i (o.place x) + t * more < n)

    nearer : (i given n : ℕ) → i < t → x < t → o.tracker i ≢ x → Far i given (suc n) → Far (next t i) given n
    nearer i given n hi hx ne (more, l, f) = (more, l, let d = dist-next t i (o.place x) hi (o.place-below x hx) (elsewhere x i hx ne) in omega arith)

    round : (i given n more : ℕ) → i < t → x < t → o.tracker i ≡ x → suc given < bound (suc (suc below)) t write bottom → bound (suc (suc below)) t write bottom ≤ suc given + more
        → dist t i (o.place x) + t * more < suc n → Far (next t i) (suc given) n
    round i given n zero hi hx q l l' f = absurd (omega arith)
    round i given n (suc more) hi hx q l l' f =
        let p : o.place x ≡ i = sym (ap o.place q) ∙ o.there i hi in
        let d : suc (dist t (next t i) (o.place x)) ≡ t = rw p (dist-own t i hi) in
        (more, omega arith, omega arith)

    -- a turn of the circle: of another, or its own, which ends it or leaves one turn less
    turn-case : (k : Kept) (i : ℕ) (notes : ℕ → Note) (k' : Kept) (e : Event) → Going below t o k i notes → Going below t o k' (next t i) (noted e notes)
        → TurnOf (o.tracker i) e → (given n : ℕ) → notes x ≡ busy write bottom given → Far i given (suc n) → (A : Type 0)
        → ((given' : ℕ) → noted e notes x ≡ busy write bottom given' → Far (next t i) given' n → A) → EndOf x e ⊎ A
    turn-case k i notes k' e G G' q given n is far A ih = at (ℕ_discrete (o.tracker i) x)
      where
        hx : x < t
        hx = busy-in below t o k i notes G x (rw is refl)

        own : (d : Event) → e ≡ d → TurnOf x d → o.tracker i ≡ x → EndOf x e ⊎ A
        own (Event.goes_on y) s h p =
            let same : noted e notes x ≡ busy write bottom (suc given) = rw (s, h, becomes-same notes x (went_on (notes x)), is) refl in
            let l : suc given < bound (suc (suc below)) t write bottom = subst (InTime (bound (suc (suc below)) t)) same (time below t o _ _ _ G' x) in
            inr (ih (suc given) same (round i given n far.0 G.place hx p l far.1 far.2))
        own (Event.ends y b c) s h p = inl (subst (EndOf x) (sym s) h)
        own (Event.begins y a) s h p = elim h [ ]
        own Event.drained s h p = elim h [ ]
        own Event.refused s h p = elim h [ ]

        at : Dec (o.tracker i ≡ x) → EndOf x e ⊎ A
        at (yes p) = own e refl (subst (λ (y : ℕ). TurnOf y e) p q) p
        at (no ne) = inr (ih given (other-turn notes (o.tracker i) x e q (λ r. ne (sym r)) ∙ is) (nearer i given n G.place hx ne far))

    -- it is answered
    pub answered-by : {i j n : ℕ} {notes notes' : ℕ → Note} {es : List Event} → Goes t o i notes es n j notes'
        → (cs : List Call) (k : Kept) → es ≡ seen k cs → Going below t o k i notes → (given : ℕ) → notes x ≡ busy write bottom given → Far i given n → Among (EndOf x) es
    answered-by stays cs k e G given is far = let f = far.2 in absurd (omega arith)
    answered-by (turned d q r) [] k e G given is far = absurd (no-cons (e ∙ seen_none k))
    answered-by {i = i} {notes = notes} (turned {n = n} {es = es} d q r) (c ∷ cs) k e G given is far =
        let z = e ∙ seen_more k c cs in
        let G' = turned_as k i notes c d G q (heads z) in
        turn-case k i notes (kept (does k c)) d G G' q given n is far (Among (EndOf x) es) (λ given' is' far'. answered-by r cs (kept (does k c)) (tails z) G' given' is' far')
    answered-by {i = i} {notes = notes} (passed {n = n} b r) cs k e G given is far =
        answered-by r cs k e (going-passed below t o k i notes G b) given is
        (nearer i given n G.place (busy-in below t o k i notes G x (rw is refl)) (λ p. not-both-ways (subst (λ (y : ℕ). is_busy (notes y) ≡ true) (sym p) (rw is refl)) b) far)
    answered-by (between d f r) [] k e G given is far = absurd (no-cons (e ∙ seen_none k))
    answered-by {i = i} {notes = notes} (between d f r) (c ∷ cs) k e G given is far =
        let z = e ∙ seen_more k c cs in
        inr (answered-by r cs (kept (does k c)) (tails z) (between-as k i notes c d G f (heads z)) given (busy-as k i notes c d G f (heads z) x (rw is refl) ∙ is) far)
