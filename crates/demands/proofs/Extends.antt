-- The log of a longer run extends that of its first calls: an entry is added after the others, and only one that has not ended is ended.
use mathlib.Core.Path.{◌≡◌, refl, sym, ap, ◌∙◌, subst}
use mathlib.Core.List.{List, [], ◌∷◌, ◌++◌}
use mathlib.Core.Logic.{⊎_elim}
use Prim.Native.Nat.{ℕ, suc, ◌+◌, ◌≤◌, ◌<◌}
use native.Mathlib.Omega.{arith}
use native.Mathlib.Decide.{ℕ_discrete}
use lib.ListN.{length}
use Rattle.laws.proofs.Splice.{lt-or-ge}
use Rattle.rules.specs.Run.{Call, Kept, kept, does, ended}
use Rattle.flat.specs.Flat.{Effect, Flat, Given, flat_does}
use Rattle.flat.specs.Demand.{unseen, given}
use Rattle.demands.specs.Event.{Told, event}
use Rattle.demands.specs.Row.{Row, told}
use Rattle.demands.specs.Demand2.{not_yet, Entry, with_end, Extends}
use Rattle.demands.proofs.Log.{Move, begins, goes_on, ends, neither, move_of, Pending, none, begun, past, shut-other, more-new, more-old, same-entry, put_same, put_other, open-not-at}
use Rattle.demands.proofs.Machine.{Linked, flat_then, watch_then, History, linked-then, history-then}
use Rattle.demands.proofs.Watch.{Watch, taken_by, taken, closed_by, closed, watch_by, watched, log_of}

-- an access past its moment has an entry that has not ended
pub record Open (w : Watch) : Type 0 where
  pub past_open : (x p : ℕ) (b : Told) → w.pend x ≡ past p b → (p < w.count) × ((w.log p).ending ≡ not_yet)

abbrev Onto : ℕ → Watch → Watch → Type 0
Onto n w w' = Extends n (log_of w) (log_of w')

pub onto_same : (n : ℕ) (w : Watch) → Onto n w w
onto_same n w = record { longer = omega arith; same = λ p l. refl; ended = λ p j l e. e; since = λ p a b. absurd (omega arith) }

pub onto-then : (m n : ℕ) (w w' w'' : Watch) → m ≤ n → Onto m w w' → Onto n w' w'' → Onto m w w''
onto-then m n w w' w'' h f g = record {
  longer = omega (arith, f.longer, g.longer);
  same = λ p l. g.same p (omega (arith, f.longer)) ∙ ap (λ (e : Entry). with_end e (w''.log p).ending) (f.same p l);
  ended = λ p j l e. g.ended p j (omega (arith, f.longer)) (f.ended p j l e);
  since = λ p a b. ⊎_elim
      (λ (q : p < w'.count). subst (λ (e : Entry). m ≤ e.moment) (sym (g.same p q)) (f.since p a q))
      (λ (q : w'.count ≤ p). omega (arith, g.since p q b)) (lt-or-ge p w'.count);
}

-- an access takes effect
module _ (n : ℕ) (row : Row) (w : Watch) (O : Open w) where
  taken-onto : (x : ℕ) (u : Pending) → w.pend x ≡ u → Onto n w (taken_by n row w x u) × Open (taken_by n row w x u)
  taken-onto x none e = (onto_same n w, O)
  taken-onto x (begun i a) e = (
    record {
      longer = omega arith;
      same = λ p l. old p l;
      ended = λ p j l f. ap (λ (z : Entry). z.ending) (more-old w.log w.count new p l) ∙ f;
      since = λ p l m. let q : p ≡ w.count = omega arith in subst (λ (k : ℕ). n ≤ (w1.log k).moment) (sym q) (subst (λ (z : Entry). n ≤ z.moment) (sym (more-new w.log w.count new)) (omega arith));
    },
    record { past_open = opens },
  )
    where
      new : Entry
      new = record { tracker = x; access = a; issued = i; moment = n; ending = not_yet }

      w1 : Watch
      w1 = taken_by n row w x (begun i a)

      old : (p : ℕ) → p < w.count → w1.log p ≡ with_end (w.log p) (w1.log p).ending
      old p l = more-old w.log w.count new p l ∙ ap (λ (z : Entry). with_end (w.log p) z.ending) (sym (more-old w.log w.count new p l))

      opens : (y p : ℕ) (b : Told) → w1.pend y ≡ past p b → (p < suc w.count) × ((w1.log p).ending ≡ not_yet)
      opens y p b s = go (ℕ_discrete y x)
        where
          go : Dec (y ≡ x) → (p < suc w.count) × ((w1.log p).ending ≡ not_yet)
          go (yes q) =
              let z : w.count ≡ p = same-entry (sym (put_same w.pend x (past w.count (told row a)) y q) ∙ s) in
              subst (λ (k : ℕ). (k < suc w.count) × ((w1.log k).ending ≡ not_yet)) z (omega arith, ap (λ (z : Entry). z.ending) (more-new w.log w.count new))
          go (no q) =
              let z = O.past_open y p b (sym (put_other w.pend x (past w.count (told row a)) y q) ∙ s) in
              (omega (arith, z.0), ap (λ (z : Entry). z.ending) (more-old w.log w.count new p z.0) ∙ z.1)
  taken-onto x (past p b) e = (onto_same n w, O)

  takes-onto : (es : List Effect) → Onto n w (taken n row w es) × Open (taken n row w es)
  takes-onto [] = (onto_same n w, O)
  takes-onto (e ∷ es) = taken-onto e.who (w.pend e.who) refl

-- an access begins, or ends
module _ (n : ℕ) (w : Watch) (O : Open w) where
  closes-onto : (x : ℕ) (u : Pending) → w.pend x ≡ u → Onto n w (closed_by n w x u)
  closes-onto x none e = onto_same n w
  closes-onto x (begun i a) e = onto_same n w
  closes-onto x (past p b) e = record {
    longer = omega arith;
    same = λ q l. refl;
    ended = λ q j l f. shut-other w.log p n q (λ d. open-not-at (sym (O.past_open x p b e).1 ∙ ap (λ (k : ℕ). (w.log k).ending) (sym d) ∙ f)) ∙ f;
    since = λ q l m. absurd (omega arith);
  }

  closed-onto : (m : Move) → Onto n w (closed n w m)
  closed-onto (begins x a) = onto_same n w
  closed-onto (goes_on x) = onto_same n w
  closed-onto (ends x b) = closes-onto x (w.pend x) refl
  closed-onto neither = onto_same n w

pub watch-onto : (n : ℕ) (row : Row) (w : Watch) (es : List Effect) (m : Move) → Open w → Onto n w (watch_by n row w es m)
watch-onto n row w es m O =
    let t = takes-onto n row w O es in
    onto-then n n w (taken n row w es) (watch_by n row w es m) (omega arith) t.0 (closed-onto n (taken n row w es) t.1 m)

-- over a run
module _ (seen : ℕ → Move) (n : ℕ) (start : Row) where
  open_of : (N : ℕ) (f : Flat) (w : Watch) → Linked seen n start N f w → Open w
  open_of N f w k = record { past_open = λ x p b e. let z = k.inv.past_is x p b e in (z.0, z.2) }

  onto-run : (hs : List Given) (f : Flat) (w : Watch) (N : ℕ) → Linked seen n start N f w → History seen N f hs → Onto N w (watched N f w hs)
  unfolding watched
  onto-run [] f w N k h = onto_same N w
  onto-run (g ∷ hs) f w N k h =
      onto-then N (suc N) w (watch_then N f w g) (watched (suc N) (flat_then f g) (watch_then N f w g) hs) (omega arith)
      (watch-onto N f.row w (flat_does f g.unseen g.call).effect (move_of (event g.call (flat_does f g.unseen g.call).said)) (open_of N f w k))
      (onto-run hs (flat_then f g) (watch_then N f w g) (suc N) (linked-then seen n start N f w g hs k h) (history-then seen n start N f g hs h))

  pub onto-after : (gs hs : List Given) (f : Flat) (w : Watch) (N : ℕ) → Linked seen n start N f w → History seen N f (gs ++ hs)
      → Onto (N + length gs) (watched N f w gs) (watched N f w (gs ++ hs))
  unfolding watched
  onto-after [] hs f w N k h = let z : N ≡ N + 0 = omega arith in subst (λ (m : ℕ). Onto m w (watched N f w hs)) z (onto-run hs f w N k h)
  onto-after (g ∷ gs) hs f w N k h =
      let z : suc N + length gs ≡ N + suc (length gs) = omega arith in
      subst (λ (m : ℕ). Onto m (watched (suc N) (flat_then f g) (watch_then N f w g) gs) (watched (suc N) (flat_then f g) (watch_then N f w g) (gs ++ hs))) z
      (onto-after gs hs (flat_then f g) (watch_then N f w g) (suc N) (linked-then seen n start N f w g (gs ++ hs) k h) (history-then seen n start N f g (gs ++ hs) h))

-- what the machine is given in a longer run
pub given-then : (cs ds : List Call) (k : Kept) → given k (cs ++ ds) ≡ given k cs ++ given (ended k cs) ds
unfolding given ended
given-then [] ds k = refl
given-then (c ∷ cs) ds k = ap (λ (r : List Given). record { call = c; unseen = unseen k c } ∷ r) (given-then cs ds (kept (does k c)))
