-- A state as words, for a caller that lends it: n, T, L, the hand, the 64 lines, and the words of each of the 8 trackers.
use Rattle.std.specs.Prelude.{List, [], ◌∷◌, ◌++◌, Bool, ℕ, zero, suc, ◌+◌, ◌*◌, ◌/◌, ◌%◌, eqb, ltb, length, get_or}
use Rattle.laws.specs.Choice.{pick, both, one}
use Rattle.laws.specs.Scan.{all}
use Rattle.laws.specs.Bytes.{part}
use Rattle.geometry.specs.TagMemory.{values, most_trackers, most_lines}
use Rattle.geometry.specs.declared.Shape.{Shape}
use Rattle.tracker.specs.declared.Phase.{Phase}
use Rattle.tracker.specs.declared.Phase.TheVariants.{Idle, Probe, Top, Under, Set, Clear}
use Rattle.tracker.specs.declared.Tracker.{Tracker}
use Rattle.tracker.specs.Tracker.{most_turns}
use Rattle.tracker.specs.Transfers.{most_transfers}
use Rattle.rules.specs.State.{State}

-- the words of a tracker: its phase, whether it writes, whether it is bottom-up, its group, its value, its turns, the blocks fetched for it and written back
abbrev pub tracker_words : ℕ
tracker_words = 8

-- the most that a level's 8 bits hold
abbrev pub most_level : ℕ
most_level = 255

-- where the lines begin, and tracker x
abbrev pub lines_place : ℕ
lines_place = 4

abbrev pub tracker_place : ℕ → ℕ
tracker_place x = lines_place + most_lines + tracker_words * x

-- the words of a state
abbrev pub state_words : ℕ
state_words = tracker_place most_trackers

-- the number of a phase: which it is, and eight times its level
abbrev pub phase_number : Phase → ℕ
phase_number Idle = 0
phase_number (Probe d) = 1 + 8 * d
phase_number Top = 2
phase_number (Under d) = 3 + 8 * d
phase_number (Set d) = 4 + 8 * d
phase_number (Clear d) = 5 + 8 * d

unfoldable pub tracker_coded : Tracker → List ℕ
tracker_coded t = phase_number t.phase ∷ one t.write ∷ one t.bottom ∷ t.group ∷ t.value ∷ t.turns ∷ t.transfers.fetched ∷ t.transfers.back ∷ []

unfoldable pub trackers_coded : List Tracker → List ℕ
trackers_coded [] = []
trackers_coded (t ∷ ts) = tracker_coded t ++ trackers_coded ts

abbrev pub shape_coded : Shape → List ℕ
shape_coded s = s.n ∷ s.t ∷ s.l ∷ s.hand ∷ []

-- the coding of a state
unfoldable pub coded : State → List ℕ
coded s = shape_coded s.shape ++ (s.lines ++ trackers_coded s.trackers)

-- the phase that has a number; a level has 8 bits in a state
unfoldable pub phase_of : ℕ → Phase
phase_of k =
    let which = k % 8 in
    let level = k / 8 in
    pick (eqb which 1) (Probe level) (pick (eqb which 2) Top (pick (eqb which 3) (Under level) (pick (eqb which 4) (Set level) (pick (eqb which 5) (Clear level) Idle))))

unfoldable pub codes_phase : ℕ → Bool
codes_phase k = both (ltb k (8 * suc most_level)) (eqb (phase_number (phase_of k)) k)

-- the tracker that the words from `at` on code
unfoldable pub tracker_in : List ℕ → ℕ → Tracker
tracker_in w at = record {
  phase = phase_of (get_or w at 0);
  write = eqb (get_or w (at + 1) 0) 1;
  bottom = eqb (get_or w (at + 2) 0) 1;
  group = get_or w (at + 3) 0;
  value = get_or w (at + 4) 0;
  turns = get_or w (at + 5) 0;
  transfers = record { fetched = get_or w (at + 6) 0; back = get_or w (at + 7) 0 };
}

-- the first x trackers
unfoldable pub trackers_to : List ℕ → ℕ → List Tracker
trackers_to w zero = []
trackers_to w (suc x) = trackers_to w x ++ (tracker_in w (tracker_place x) ∷ [])

-- the shape that words code
unfoldable pub shape_in : List ℕ → Shape
shape_in w = record { n = get_or w 0 0; t = get_or w 1 0; l = get_or w 2 0; hand = get_or w 3 0 }

-- the state that words code
unfoldable pub decoded : List ℕ → State
decoded w = record {
  shape = shape_in w;
  lines = part w lines_place most_lines;
  trackers = trackers_to w most_trackers;
}

-- the first word from `at` on is a phase's, and none is too wide for its field of a tracker
unfoldable pub codes_tracker : List ℕ → ℕ → Bool
codes_tracker w at =
    both (both (both (codes_phase (get_or w at 0)) (both (ltb (get_or w (at + 1) 0) 2) (ltb (get_or w (at + 2) 0) 2)))
    (both (ltb (get_or w (at + 3) 0) values) (both (ltb (get_or w (at + 4) 0) values) (ltb (get_or w (at + 5) 0) (suc most_turns)))))
    (both (ltb (get_or w (at + 6) 0) (suc most_transfers)) (ltb (get_or w (at + 7) 0) (suc most_transfers)))

-- n and T have 32 bits in a state, as a line has; L and the hand have 64, as a word has
abbrev pub codes_shape : List ℕ → Bool
codes_shape w = both (ltb (get_or w 0 0) values) (ltb (get_or w 1 0) values)

abbrev pub codes_line : List ℕ → ℕ → Bool
codes_line w i = ltb (get_or w (lines_place + i) 0) values

-- the words code a state: there are as many as a state has, and none is too wide for its field
unfoldable pub codes : List ℕ → Bool
codes w =
    both (eqb (length w) state_words)
    (both (codes_shape w) (both (all (codes_line w) most_lines) (all (λ x. codes_tracker w (tracker_place x)) most_trackers)))
