-- The rules beside the flat machine, call by call from a fresh or an opened memory.
use mathlib.Core.Path.{◌≡◌, refl, ap, ◌∙◌}
use mathlib.Core.Bool.{true}
use mathlib.Core.List.{List, [], ◌∷◌}
use Prim.Native.Nat.{ℕ, ◌<◌}
use native.Mathlib.Omega.{arith}
use lib.ListN.{replicate}
use Rattle.laws.proofs.Writes.{get_d_replicate}
use Rattle.laws.proofs.Choice.{not-both-ways}
use Rattle.geometry.specs.Shape.{shape_of, below_top, top_of}
use Rattle.geometry.proofs.Shapes.{below-start}
use Rattle.geometry.specs.TagMemory.{most_trackers, most_lines}
use Rattle.memory.specs.PlainReading.{plain_group_of}
use Rattle.memory.specs.True.{is_true_of, cleared_of}
use Rattle.memory.proofs.Clearing.{length-cleared_of, cleared_of-true}
use Rattle.tracker.specs.declared.Phase.TheVariants.{Idle}
use Rattle.tracker.specs.declared.Tracker.{Tracker}
use Rattle.tracker.specs.Tracker.{idle}
use Rattle.tracker.specs.Answer.{ok}
use Rattle.line.specs.Word.{used}
use Rattle.rules.specs.State.{tracker_at, lengths_right, begun}
use Rattle.rules.specs.Whole.{limits}
use Rattle.rules.specs.Calls.{Out, accepted, fresh, opened}
use Rattle.rules.specs.Run.{Call, Kept, kept, does, answers, ended}
use Rattle.line.proofs.Words.{free-used}
use Rattle.rules.proofs.Whole.{l-most}
use Rattle.rules.proofs.Calls.{bytes-right, memory-right, lengths-right}
use Rattle.rules.proofs.Begun.{begun-whole, fresh-passed, open-passed, fresh-accepted, fresh-free, open-accepted, open_free, fresh-trackers, open-trackers}
use Rattle.flat.specs.Flat.{Row, Flat, flat_answers, flat_ended}
use Rattle.flat.specs.Demand.{given, Values32}
use Rattle.flat.proofs.Rest.{begins}
use Rattle.flat.proofs.Follows.{flat_with, Ok, Follows, follows}

-- a whole run, from any state that agrees with a row
pub record Runs (k : Kept) (cs : List Call) (row : Row) : Type 0 where
  pub answered : answers k cs ≡ flat_answers (flat_with k row) (given k cs)
  pub last : Row
  pub flat-is : flat_ended (flat_with k row) (given k cs) ≡ flat_with (ended k cs) last
  pub ok-still : Ok (ended k cs) last
  pub n-is : (ended k cs).state.shape.n ≡ k.state.shape.n

runs-more : (k : Kept) (c : Call) (cs : List Call) (row : Row) (f : Follows k c row) → Runs (kept (does k c)) cs f.row' → Runs k (c ∷ cs) row
unfolding answers ended flat_answers flat_ended given
runs-more k c cs row f r = record {
  answered = rw (f.said-is, f.flat-is, r.answered);
  last = r.last;
  flat-is = ap (λ (z : Flat). flat_ended z (given (kept (does k c)) cs)) f.flat-is ∙ r.flat-is;
  ok-still = r.ok-still;
  n-is = r.n-is ∙ f.n-is;
}

runs_none : (k : Kept) (row : Row) → Ok k row → Runs k [] row
unfolding answers ended flat_answers flat_ended given
runs_none k row a = record { answered = refl; last = row; flat-is = refl; ok-still = a; n-is = refl }

pub runs : (cs : List Call) (k : Kept) (row : Row) → Ok k row → Values32 cs → Runs k cs row
runs [] k row a q = runs_none k row a
runs (c ∷ cs) k row a q = let f = follows k row a c q.0 in runs-more k c cs row f (runs cs (kept (does k c)) f.row' f.ok-still q.1)

-- The beginning: every line free, every tracker idle, over a true memory. 01's device has no blocks between the leaves and the top.
module _ (n t l : ℕ) (bytes memory : List ℕ) (lim : limits (shape_of n t l) ≡ true) (right : lengths_right (shape_of n t l) bytes memory ≡ true) (tr : is_true_of (top_of (shape_of n t l)) n memory ≡ true) where
  pub begun_ok : Ok (kept (accepted (begun (shape_of n t l)) bytes memory)) (plain_group_of (top_of (shape_of n t l)) n memory)
  begun_ok = record {
    is_whole = begun-whole n t l lim;
    right = right;
    agrees = begins (below_top (shape_of n t l)) n l (record { lines = replicate most_lines 0; bytes = bytes; memory = memory }) (replicate most_trackers idle)
        (bytes-right (shape_of n t l) bytes memory right) (memory-right (shape_of n t l) bytes memory right) (l-most (shape_of n t l) lim)
        (λ i b h. not-both-ways h.is-used (ap used (get_d_replicate most_lines i 0) ∙ free-used)) (λ x. get_d_replicate most_trackers x idle) tr
        (λ b p q. absurd (let z : b < n = rw (below-start n t l) at q in omega arith));
  }

module _ (n t l : ℕ) (bytes memory : List ℕ) where
  abbrev top : ℕ
  top = top_of (shape_of n t l)

  -- an accepted fresh agrees with what its memory then reads
  pub fresh-agrees : (fresh n t l bytes memory).said ≡ ok
      → Ok (kept (fresh n t l bytes memory)) (plain_group_of (top_of (fresh n t l bytes memory).state.shape) (fresh n t l bytes memory).state.shape.n (fresh n t l bytes memory).memory)
  fresh-agrees s =
      let c = fresh-passed n t l bytes memory s in
      let f = fresh-free n t l bytes memory c in
      let m = cleared_of top n memory in
      rw (fresh-accepted n t l bytes memory c)
      (begun_ok n t l bytes m f.0
      (lengths-right (shape_of n t l) bytes m (bytes-right (shape_of n t l) bytes memory f.1) (length-cleared_of top n memory ∙ memory-right (shape_of n t l) bytes memory f.1))
      (cleared_of-true (below_top (shape_of n t l)) n memory))

  -- and so does an accepted open
  pub opened-agrees : (opened n t l bytes memory).said ≡ ok
      → Ok (kept (opened n t l bytes memory)) (plain_group_of (top_of (opened n t l bytes memory).state.shape) (opened n t l bytes memory).state.shape.n (opened n t l bytes memory).memory)
  opened-agrees s =
      let c = open-passed n t l bytes memory s in
      let f = open_free n t l bytes memory c in
      rw (open-accepted n t l bytes memory c) (begun_ok n t l bytes memory f.0 f.1 f.2)

  -- every tracker is idle then
  begun-idle : (o : Out) → o.state.trackers ≡ replicate most_trackers idle → (x : ℕ) → (tracker_at o.state.trackers x).phase ≡ Idle
  begun-idle o e x = ap (λ (ts : List Tracker). (tracker_at ts x).phase) e ∙ ap (λ (u : Tracker). u.phase) (get_d_replicate most_trackers x idle)

  pub fresh-idle : (x : ℕ) → (tracker_at (fresh n t l bytes memory).state.trackers x).phase ≡ Idle
  fresh-idle = begun-idle (fresh n t l bytes memory) (fresh-trackers n t l bytes memory)

  pub opened-idle : (x : ℕ) → (tracker_at (opened n t l bytes memory).state.trackers x).phase ≡ Idle
  opened-idle = begun-idle (opened n t l bytes memory) (open-trackers n t l bytes memory)
