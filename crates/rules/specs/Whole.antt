-- 01 "A state is whole when ..", in its order, over the levels of the device (02, E5).
use Rattle.std.specs.Prelude.{Bool, true, ℕ, suc, ◌+◌, ◌-◌, ◌*◌, eqb, ltb, leb, length, get_or}
use Rattle.geometry.specs.declared.Shape.{Shape}
use Rattle.geometry.specs.Shape.{top_of}
use Rattle.geometry.specs.TagMemory.{groups, most_trackers, most_lines, in_limits_of, block_over, blocks_of}
use Rattle.laws.specs.Choice.{both, implies, no}
use Rattle.laws.specs.Scan.{all, some}
use Rattle.tracker.specs.declared.Phase.{Phase}
use Rattle.tracker.specs.declared.Phase.TheVariants.{Idle, Probe, Top, Under, Set, Clear}
use Rattle.tracker.specs.declared.Tracker.{Tracker}
use Rattle.tracker.specs.Tracker.{is_idle, holds_at, asks_at, keeps_at}
use Rattle.line.specs.Word.{used, block_of, holder, held}
use Rattle.line.specs.Find.{line_of}
use Rattle.rules.specs.State.{State, tracker_at}

-- "There are T trackers, 1 to 8, and L lines, T + 1 to 64."; with a third level "1 now also for L below 2T + 1"
unfoldable pub limits : Shape → Bool
limits shape =
    both (in_limits_of (top_of shape) shape.n) (both (both (leb 1 shape.t) (leb shape.t most_trackers)) (both (leb (top_of shape * shape.t + 1) shape.l) (leb shape.l most_lines)))

-- tracker t keeps block b: b is its own group's block of a level, from 1 to top, whose line it keeps
unfoldable pub keeps : (top n : ℕ) → Tracker → ℕ → Bool
keeps top n t b = some (λ e. both (keeps_at t.phase (suc e)) (eqb (block_over (suc e) n t.group) b)) top

-- tracker t holds block b: "Only top blocks are held, from the Top step to the end."
unfoldable pub holds : (top n : ℕ) → Tracker → ℕ → Bool
holds top n t b = both (holds_at t.phase) (eqb (block_over top n t.group) b)

-- "lined blocks exist and no block has two lines", and a line that names a holder names a tracker that keeps its block: of line i
unfoldable pub line_whole : State → ℕ → Bool
line_whole s i =
    let w = get_or s.lines i 0 in
    implies (used w)
    (both (both (ltb (block_of w) (blocks_of (top_of s.shape) s.shape.n)) (eqb (line_of s.lines s.shape.l (block_of w)) i))
    (implies (held w) (both (leb (holder w) s.shape.t) (keeps (top_of s.shape) s.shape.n (tracker_at s.trackers (holder w - 1)) (block_of w)))))

-- "a tracker at Probe is bottom-up and one at Finish is a write"; a phase is of a level below the top
abbrev pub phase_whole : (top : ℕ) (write bottom : Bool) → Phase → Bool
phase_whole top write bottom Idle = true
phase_whole top write bottom (Probe d) = both bottom (ltb d top)
phase_whole top write bottom Top = true
phase_whole top write bottom (Under d) = ltb d top
phase_whole top write bottom (Set d) = both write (ltb d top)
phase_whole top write bottom (Clear d) = both write (ltb d top)

-- "each held map block is in a line": of tracker x, which is t, and level e. A line that it keeps names it.
unfoldable pub level_whole : State → ℕ → Tracker → ℕ → Bool
level_whole s x t e =
    let i = line_of s.lines s.shape.l (block_over e s.shape.n t.group) in
    both (implies (asks_at t.phase e) (ltb i s.shape.l))
    (implies (both (keeps_at t.phase e) (ltb i s.shape.l)) (eqb (holder (get_or s.lines i 0)) (x + 1)))

-- "busy groups are below 16n", the phase is as it must be, and "each held map block is in a line", which names its holder: of tracker x
unfoldable pub tracker_whole : State → ℕ → Bool
tracker_whole s x =
    let t = tracker_at s.trackers x in
    both (both (implies (no (is_idle t)) (ltb t.group (groups s.shape.n))) (phase_whole (top_of s.shape) t.write t.bottom t.phase))
    (all (λ e. level_whole s x t (suc e)) (top_of s.shape))

unfoldable pub whole : State → Bool
whole s =
    both (both (limits s.shape) (ltb s.shape.hand s.shape.l))
    (both (both (leb s.shape.l (length s.lines)) (leb s.shape.t (length s.trackers)))
    (both (both (all (λ i. implies (leb s.shape.l i) (no (used (get_or s.lines i 0)))) (length s.lines))
    (all (λ x. implies (leb s.shape.t x) (is_idle (tracker_at s.trackers x))) (length s.trackers)))
    (both (all (line_whole s) s.shape.l) (all (tracker_whole s) s.shape.t))))
