-- A run of lent calls is a run of the rules: what it passes on is what the rules' calls pass on, in order, without those of another form.
use mathlib.Core.Path.{◌≡◌, refl, ap, sym, ◌∙◌}
use mathlib.Core.List.{List, [], ◌∷◌, ◌++◌}
use Prim.Native.Nat.{ℕ, zero, suc, ◌*◌}
use Rattle.rules.specs.Run as run
use Rattle.rules.specs.Run.{Call, Kept, kept, does, ended}
use Rattle.turn.specs.declared.Asked.{Asked}
use Rattle.turn.specs.declared.Asked.TheVariants.{Other, Issue, Step, Drain}
use Rattle.turn.specs.Turn.{takes}
use Rattle.running.specs.Run.{asked_in, ran}

-- the call that is asked for
abbrev pub call_of : Asked → List Call
call_of Other = []
call_of (Issue x a) = run.issues x a ∷ []
call_of (Step x) = run.steps x ∷ []
call_of Drain = run.drains ∷ []

-- those of the first i
unfoldable pub calls_to : List ℕ → ℕ → List Call
calls_to calls zero = []
calls_to calls (suc i) = calls_to calls i ++ call_of (asked_in calls (6 * i))

pub ended-append : (k : Kept) (cs ds : List Call) → ended k (cs ++ ds) ≡ ended (ended k cs) ds
unfolding ended
ended-append k [] ds = refl
ended-append k (c ∷ cs) ds = ended-append (kept (does k c)) cs ds

takes-ended : (k : Kept) (a : Asked) → kept (takes k a) ≡ ended k (call_of a)
unfolding ended
takes-ended k Other = refl
takes-ended k (Issue x a) = refl
takes-ended k (Step x) = refl
takes-ended k Drain = refl

pub ran-ended : (k : Kept) (calls answers : List ℕ) (i : ℕ) → (ran k calls answers i).kept ≡ ended k (calls_to calls i)
unfolding ran calls_to ended
ran-ended k calls answers zero = refl
ran-ended k calls answers (suc i) =
    takes-ended (ran k calls answers i).kept (asked_in calls (6 * i))
    ∙ ap (λ (z : Kept). ended z (call_of (asked_in calls (6 * i)))) (ran-ended k calls answers i)
    ∙ sym (ended-append k (calls_to calls i) (call_of (asked_in calls (6 * i))))
