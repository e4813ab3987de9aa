-- Each public function has one answer: what it promises names all that it hands back and leaves.
use mathlib.Core.Path.{◌≡◌, sym, ap, ◌∙◌}
use mathlib.Core.List.{List, []}
use Prim.Native.Nat.{ℕ}
use Rattle.script.specs.Script.{Asks}
use Rattle.rules.specs.State.{zero_state}
use Rattle.rules.specs.Run.{Kept}
use Rattle.cache.specs.declared.State.{State}
use Rattle.cache.specs.declared.Out.{Out}
use Rattle.cache.specs.Seen.{did}
use Rattle.cache.proofs.One.{seen_one, did-one, bytes_one, memory-one}
use Rattle.play.specs.declared.Played.{Played}
use Rattle.play.specs.declared.Place.{Place}
use Rattle.play.specs.Play as definitions
use Rattle.play.specs.Play.{begins, line_end, plays, refuses_all}
use Rattle.play.specs.Seen.{left, left_refused}

pub one-play : (k : Kept) (number : ℕ) (input output : List ℕ) (a b : Played) (x y m n p q : List ℕ)
    → left a x m p ≡ plays k number input output → left b y n q ≡ plays k number input output → (a ≡ b) × (x ≡ y) × (m ≡ n) × (p ≡ q)
one-play k number input output a b x y m n p q e f =
    let g : left a x m p ≡ left b y n q = e ∙ sym f in (
      together a.state b.state a.place.number b.place.number a.place.taken b.place.taken a.place.written b.place.written
          (seen_one a.state b.state (ap (λ (r : definitions.Played). r.kept.state) g))
          (ap (λ (r : definitions.Played). r.number) g)
          (ap (λ (r : definitions.Played). r.taken) g)
          (ap (λ (r : definitions.Played). r.written) g),
      ap (λ (r : definitions.Played). r.kept.bytes) g,
      ap (λ (r : definitions.Played). r.kept.memory) g,
      ap (λ (r : definitions.Played). r.output) g,
    )
  where
    together : (s t : State) (c d i j u v : ℕ) → s ≡ t → c ≡ d → i ≡ j → u ≡ v
        → ◌≡◌ {A = Played} (record { state = s; place = record { number = c; taken = i; written = u } }) (record { state = t; place = record { number = d; taken = j; written = v } })
    together s t c d i j u v e f g h = rw (e, f, g, h)

pub one-refuse-all : (number : ℕ) (input output : List ℕ) (a b : Place) (p q : List ℕ)
    → ((k : Kept) → left_refused k a p ≡ refuses_all k number input output) → ((k : Kept) → left_refused k b q ≡ refuses_all k number input output) → (a ≡ b) × (p ≡ q)
one-refuse-all number input output a b p q e f =
    let k : Kept = record { state = zero_state; bytes = []; memory = [] } in
    let g : left_refused k a p ≡ left_refused k b q = e k ∙ sym (f k) in (
      together a.number b.number a.taken b.taken a.written b.written
          (ap (λ (r : definitions.Played). r.number) g)
          (ap (λ (r : definitions.Played). r.taken) g)
          (ap (λ (r : definitions.Played). r.written) g),
      ap (λ (r : definitions.Played). r.output) g,
    )
  where
    together : (c d i j u v : ℕ) → c ≡ d → i ≡ j → u ≡ v → ◌≡◌ {A = Place} (record { number = c; taken = i; written = u }) (record { number = d; taken = j; written = v })
    together c d i j u v f g h = rw (f, g, h)

pub one-begin : (asked : Asks) (bytes memory : List ℕ) (a b : Out) (x y m n : List ℕ)
    → did a x m ≡ begins asked bytes memory → did b y n ≡ begins asked bytes memory → (a ≡ b) × (x ≡ y) × (m ≡ n)
one-begin asked bytes memory a b x y m n e f =
    let g : did a x m ≡ did b y n = e ∙ sym f in
    (did-one a b x y m n g, bytes_one a b x y m n g, memory-one a b x y m n g)

pub one-first-end : (input : List ℕ) (a b : ℕ) → a ≡ line_end input 0 → b ≡ line_end input 0 → a ≡ b
one-first-end input a b e f = e ∙ sym f
