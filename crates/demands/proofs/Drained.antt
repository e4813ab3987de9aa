-- An accepted drain finds every tracker idle: after it a run is at rest.
use mathlib.Core.Path.{◌≡◌, refl, sym, ap, ◌∙◌, subst}
use mathlib.Core.Logic.{⊎_elim}
use mathlib.Core.Bool.{Bool, true, false}
use mathlib.Core.List.{List, [], ◌∷◌, ◌++◌}
use Prim.Native.Nat.{ℕ}
use Rattle.laws.proofs.Choice.{not-both-ways, true-or-false}
use Rattle.tracker.specs.declared.Tracker.{Tracker}
use Rattle.tracker.specs.Tracker.{is_idle}
use Rattle.rules.specs.Calls.{Out, all_idle}
use Rattle.rules.specs.Run.{Call, issues, steps, Kept, kept, does}
use Rattle.circle.proofs.Circle.{tracker_in}
use Rattle.circle.proofs.Ready.{Ready}
use Rattle.circle.proofs.Calls.{bare, Outcome, outcome}
use Rattle.circle.proofs.Calls as Calls
use Rattle.demands.specs.Event.{Event, event, written_by, written_from}
use Rattle.demands.specs.Circle.{Note, is_busy, noted}
use Rattle.demands.specs.Demand3.{noted_from}
use Rattle.demands.proofs.Noted.{True, true-busy, Turn, went, over, event-bare, Noted, step-turn, noted_call}
use Rattle.demands.proofs.Quiet.{all_rest}
use Rattle.demands.proofs.Rounds.{heads, tails, no-cons, seen, seen_none, seen_more}

-- the event is a drain
abbrev IsDrain : Event → Type 0
IsDrain (Event.begins x a) = ⊥
IsDrain (Event.goes_on x) = ⊥
IsDrain (Event.ends x b turns) = ⊥
IsDrain Event.drained = Unit {0}
IsDrain Event.refused = ⊥

no-drain : (x : ℕ) (t t' : Tracker) (e : Event) → Turn x t t' e → IsDrain e → ⊥
no-drain x t t' e (went q b s) h = subst IsDrain q h
no-drain x t t' e (over c q b) h = subst IsDrain q h

module _ (k : Kept) (s : Ready k) where
  drains-at : (c : Call) (o : Out) → Outcome k c o → IsDrain (event c o.said) → all_idle k.state ≡ true
  drains-at c o (Calls.refused r q z) h = absurd (subst (λ a. IsDrain (event c a)) q h)
  drains-at c o (Calls.issued x access p e is) h = absurd (subst (λ (a : Out). IsDrain (event (issues x access) a.said)) is h)
  drains-at c o (Calls.stepped x p b) h = let r = step-turn k s x p b in absurd (no-drain x (tracker_in k x) r.0 (event (steps x) (does k (steps x)).said) r.2 h)
  drains-at c o (Calls.drained q is) h = q

  drains-idle : (c : Call) → event c (does k c).said ≡ Event.drained → (x : ℕ) → is_idle (tracker_in k x) ≡ true
  drains-idle c e = all_rest k s (drains-at (bare c) (does k c) (outcome k s c) (subst IsDrain (sym e ∙ event-bare c (does k c).said) tt))

idle-note : (note : Note) (t : Tracker) → True note t → is_idle t ≡ true → is_busy note ≡ false
idle-note note t h i = ⊎_elim (λ b. absurd (not-both-ways i (true-busy note t h b))) (λ b. b) (true-or-false (is_busy note))

pub drained-idle : (before : List Event) (cs : List Call) (k : Kept) (notes : ℕ → Note) → Noted k notes → seen k cs ≡ before ++ (Event.drained ∷ [])
    → (x : ℕ) → is_busy (noted_from notes (seen k cs) x) ≡ false
unfolding noted_from
drained-idle [] [] k notes K e x = absurd (no-cons (sym (sym (seen_none k) ∙ e)))
drained-idle [] (c ∷ cs) k notes K e x =
    ap (λ (z : List Event). is_busy (noted_from notes z x)) e
    ∙ idle-note (notes x) (tracker_in k x) (K.is-so x) (drains-idle k K.ready c (heads (sym (seen_more k c cs) ∙ e)) x)
drained-idle (d ∷ before) [] k notes K e x = absurd (no-cons (sym (sym (seen_none k) ∙ e)))
drained-idle (d ∷ before) (c ∷ cs) k notes K e x =
    ap (λ (z : List Event). is_busy (noted_from notes z x)) (seen_more k c cs)
    ∙ drained-idle before cs (kept (does k c)) (noted (event c (does k c).said) notes) (noted_call k notes K c) (tails (sym (seen_more k c cs) ∙ e)) x

pub drained-clean : (before : List Event) (w : Bool) → written_from w (before ++ (Event.drained ∷ [])) ≡ false
unfolding written_from
drained-clean [] w = refl
drained-clean (e ∷ before) w = drained-clean before (written_by e w)
