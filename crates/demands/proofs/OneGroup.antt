-- No group has a busy write beside another busy access: an issue is refused where it would have, and a step leaves its access its group or ends it.
use mathlib.Core.Path.{◌≡◌, refl, sym, ap, ◌∙◌, subst}
use mathlib.Core.Logic.{⊎_elim}
use mathlib.Core.Bool.{true, false, not}
use mathlib.Core.List.{List, [], ◌∷◌}
use Prim.Native.Nat.{ℕ}
use borrow.Author.Tests.{eq-eqb, not-true}
use Rattle.laws.specs.Choice.{either}
use Rattle.laws.specs.Refusal.{refusal}
use Rattle.laws.proofs.Choice.{not-both-ways, both_true, either_left, either-right}
use Rattle.laws.proofs.Refusals.{refused-or-not}
use Rattle.laws.proofs.Scan.{all-at}
use Rattle.tracker.specs.declared.Access.{Access}
use Rattle.tracker.specs.declared.Tracker.{Tracker}
use Rattle.tracker.specs.Tracker.{is_idle}
use Rattle.tracker.specs.Tracker as Tracker
use Rattle.tracker.specs.Answer.{ok}
use Rattle.rules.specs.Calls.{Out, meets, meets_none, issue_tests}
use Rattle.rules.specs.Run.{Call, issues, steps, Kept, kept, does}
use Rattle.rules.specs.Run as Run
use Rattle.rules.proofs.Calls.{issue-refused, issue-free}
use Rattle.circle.proofs.Circle.{tracker_in}
use Rattle.circle.proofs.Ready.{Ready, busy-below}
use Rattle.circle.proofs.Link.{Anew, anew-issued, each}
use Rattle.circle.proofs.Calls.{bare, Outcome, outcome, call-keeps, ok-not-no}
use Rattle.circle.proofs.Calls as Calls
use Rattle.session.specs.Session.{kept_of}
use Rattle.session.proofs.Session.{session-leaves}
use Rattle.demands.specs.Event.{Event, event}
use Rattle.demands.specs.OneGroup.{WritesAlone, OneGroup}
use Rattle.demands.proofs.Noted.{Turn, went, over, step-turn}
use Rattle.demands.proofs.Start.{begun}

-- an access to the group of a busy tracker, one of the two a write
meets-by : (a : Access) (u : Tracker) → is_idle u ≡ false → u.group ≡ a.group → either a.write u.write ≡ true → meets a u ≡ true
unfolding meets
meets-by a u b e w = both_true _ _ (both_true _ _ (ap not b) (eq-eqb _ _ e)) w

-- tracker t at place y was busy before, with the same access
record Before (k : Kept) (y : ℕ) (t : Tracker) : Type 0 where
  busy : is_idle (tracker_in k y) ≡ false
  write : t.write ≡ (tracker_in k y).write
  group : t.group ≡ (tracker_in k y).group

abbrev Alone : Kept → Type 0
Alone k = WritesAlone k.state.trackers

module _ (k : Kept) (s : Ready k) (a : Alone k) where
  alone-still : (k' : Kept) → ((y : ℕ) → is_idle (tracker_in k' y) ≡ false → Before k y (tracker_in k' y)) → Alone k'
  alone-still k' f x y b w c e =
      let p = f x b in
      let q = f y c in
      a x y p.busy (sym p.write ∙ w) q.busy (sym q.group ∙ e ∙ p.group)

  alone-turn : (x : ℕ) (t' : Tracker) (k' : Kept) (e : Event) → is_idle (tracker_in k x) ≡ false → Anew k k' x t' → Turn x (tracker_in k x) t' e → Alone k'
  alone-turn x t' k' e b n (went q i m) = alone-still k'
      (each (λ (y : ℕ) (t : Tracker). is_idle t ≡ false → Before k y t) k k' x t' n (λ _. record { busy = b; write = m.write; group = m.group }) (λ y ne c. record { busy = c; write = refl; group = refl }))
  alone-turn x t' k' e b n (over d q i) = alone-still k'
      (each (λ (y : ℕ) (t : Tracker). is_idle t ≡ false → Before k y t) k k' x t' n (λ c. absurd (not-both-ways i c)) (λ y ne c. record { busy = c; write = refl; group = refl }))

  -- an issue: no busy tracker meets it
  module _ (x : ℕ) (access : Access) (none : meets_none k.state.shape.t access k.state.trackers ≡ true) where
    not-met : (y : ℕ) → is_idle (tracker_in k y) ≡ false → (tracker_in k y).group ≡ access.group → either access.write (tracker_in k y).write ≡ true → ⊥
    unfolding meets_none
    not-met y b e w = not-both-ways (meets-by access (tracker_in k y) b e w)
        (not-true _ (all-at (λ z. not (meets access (tracker_in k z))) k.state.shape.t none y (busy-below k s y b)))

    module _ (k' : Kept) (n : Anew k k' x (Tracker.issued access)) where
      -- a busy tracker y that has the group of a busy write: the new access, and an old one
      beside-new : access.write ≡ true → (y : ℕ) → is_idle (tracker_in k' y) ≡ false → (tracker_in k' y).group ≡ access.group → y ≡ x
      beside-new w = each (λ (y : ℕ) (t : Tracker). is_idle t ≡ false → t.group ≡ access.group → y ≡ x) k k' x (Tracker.issued access) n (λ _ _. refl)
          (λ y ne b e. absurd (not-met y b e (either_left _ _ w)))

      beside-old : (z : ℕ) → is_idle (tracker_in k z) ≡ false → (tracker_in k z).write ≡ true → (y : ℕ) → is_idle (tracker_in k' y) ≡ false → (tracker_in k' y).group ≡ (tracker_in k z).group → y ≡ z
      beside-old z b w = each (λ (y : ℕ) (t : Tracker). is_idle t ≡ false → t.group ≡ (tracker_in k z).group → y ≡ z) k k' x (Tracker.issued access) n
          (λ _ e. absurd (not-met z b (sym e) (either-right access.write _ w))) (λ y ne c e. a z y b w c e)

      alone-issued : Alone k'
      alone-issued x' y b w = each (λ (z : ℕ) (t : Tracker). is_idle t ≡ false → t.write ≡ true → is_idle (tracker_in k' y) ≡ false → (tracker_in k' y).group ≡ t.group → y ≡ z)
          k k' x (Tracker.issued access) n (λ _ w' c e. beside-new w' y c e) (λ z ne b' w' c e. beside-old z b' w' y c e) x' b w

  -- where an issue said ok its tests hold
  none-met : (x : ℕ) (access : Access) → (does k (issues x access)).said ≡ ok → meets_none k.state.shape.t access k.state.trackers ≡ true
  unfolding does
  none-met x access e = ⊎_elim (λ z. (issue-free k.state k.bytes k.memory s.0 s.1 x access z).3)
      (λ h. absurd (ok-not-no (sym e ∙ ap (λ (o : Out). o.said) (issue-refused k.state k.bytes k.memory s.0 s.1 x access h))))
      (refused-or-not (refusal (issue_tests k.state.shape x access k.state.trackers)))

  alone_at : (c : Call) (o : Out) → Outcome k c o → Alone (kept o)
  alone_at c o (Calls.refused r q is) = subst Alone (sym is) a
  alone_at c o (Calls.issued x access h e is) = alone-issued x access (none-met x access (ap (λ (d : Out). d.said) is)) (kept o)
      (anew-issued k s x access h is)
  alone_at c o (Calls.stepped x h b) = let r = step-turn k s x h b in alone-turn x r.0 (kept o) (event (steps x) o.said) b r.1 r.2
  alone_at c o (Calls.drained q is) = rw is a

-- a run
alone-run : (cs : List Call) (k : Kept) → Ready k → Alone k → Alone (Run.ended k cs)
unfolding Run.ended
alone-run [] k s a = a
alone-run (c ∷ cs) k s a = alone-run cs (kept (does k c)) (call-keeps k s c) (alone_at k s a (bare c) (does k c) (outcome k s c))

pub one-group : OneGroup
one-group t s s' b m b' m' cs answers st p =
    let g = begun t s b m st in
    subst (λ (k : Kept). Alone k) (sym (session-leaves p))
    (alone-run cs (kept_of s b m) (g.agrees.is_whole, g.agrees.right) (λ x y i. absurd (not-both-ways (ap Tracker.is_idle_at (g.idle x)) i)))
