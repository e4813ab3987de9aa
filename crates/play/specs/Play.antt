-- 01 "The replay program": what a script's lines do and print, by the rules of issue, step and drain.
use Rattle.std.specs.Prelude.{List, Bool, ℕ, zero, suc, ◌+◌, ◌-◌, eqb, ltb, leb, length, get_or}
use Rattle.laws.specs.Choice.{pick, both}
use Rattle.laws.specs.Bytes.{part, splice, fits}
use Rattle.laws.specs.Scan.{first}
use Rattle.tracker.specs.Tracker.{read_of, write_of}
use Rattle.script.specs.Script.{Asks, news, reads, writes, steps, drains, bad, asks_for}
use Rattle.text.specs.Text.{line_text, most}
use Rattle.rules.specs.State.{lengths_right, zero_state}
use Rattle.rules.specs.Whole.{whole}
use Rattle.rules.specs.Calls.{Out, refused, fresh}
use Rattle.rules.specs.Run.{Kept, kept}
use Rattle.turn.specs.declared.Asked.{Asked}
use Rattle.turn.specs.declared.Asked.TheVariants.{Other, Issue, Step, Drain}
use Rattle.turn.specs.Turn.{takes}

-- "Line 1: `n N L T`, N at most 800 here (else refusal 1)"; a first line of another form gets 12
abbrev pub replay_leaves : ℕ
replay_leaves = 800

abbrev pub begins : Asks → List ℕ → List ℕ → Out
begins (news n l t) bytes memory = pick (leb n replay_leaves) (fresh n t l bytes memory) (refused 1 zero_state bytes memory)
begins (reads x g b) bytes memory = refused 12 zero_state bytes memory
begins (writes x g v b) bytes memory = refused 12 zero_state bytes memory
begins (steps x) bytes memory = refused 12 zero_state bytes memory
begins drains bytes memory = refused 12 zero_state bytes memory
begins bad bytes memory = refused 12 zero_state bytes memory

-- "Then `r T G O`, `w T G V O`, `s T`, `d`: issue a read or write, step, drain. .. Other lines, a later `n` .. get 12."
abbrev pub asked_by : Asks → Asked
asked_by (news n l t) = Other
asked_by (reads x g b) = Issue x (read_of b g)
asked_by (writes x g v b) = Issue x (write_of b g v)
asked_by (steps x) = Step x
asked_by drains = Drain
asked_by bad = Other

abbrev pub follows : Kept → Asks → Out
follows k a = takes k (asked_by a)

-- what a chunk of a script leaves: what is passed on, the number of the last line done, the bytes taken of the chunk, the output and how much of it is written
pub record Played : Type 0 where
  pub kept : Kept
  pub number : ℕ
  pub taken : ℕ
  pub output : List ℕ
  pub written : ℕ

-- the end of the line that begins at `at`: its newline, or the chunk's end
unfoldable pub line_end : List ℕ → ℕ → ℕ
line_end input at = at + first (λ i. eqb (get_or input (at + i) 0) 10) (length input - at)

-- another line ends in the chunk, the output has room for its text, and there is a number for it
unfoldable pub goes_on : List ℕ → Played → Bool
goes_on input p = both (ltb (line_end input p.taken) (length input)) (both (fits p.output p.written most) (ltb p.number 18446744073709551615))

-- what is left after a line that ends at e and did o: its text is put after what is written
abbrev pub after : Played → (e : ℕ) → Out → Played
after p e o =
    let text = line_text (p.number + 1) o.said o.transfers in
    record { kept = kept o; number = p.number + 1; taken = e + 1; output = splice p.output p.written text; written = p.written + length text }

-- after the line that begins where the chunk is taken to; `rule` says what a line does
unfoldable pub line_done : (rule : Kept → Asks → Out) → List ℕ → Played → Played
line_done rule input p =
    let e = line_end input p.taken in
    after p e (rule p.kept (asks_for (part input p.taken (e - p.taken))))

-- one line after the other, at most f of them
unfoldable pub played : (rule : Kept → Asks → Out) (f : ℕ) → List ℕ → Played → Played
played rule zero input p = p
played rule (suc f) input p = pick (goes_on input p) (played rule f input (line_done rule input p)) p

-- a chunk at its beginning, with an empty output
abbrev pub starts : Kept → ℕ → List ℕ → Played
starts k number output = record { kept = k; number = number; taken = 0; output = output; written = 0 }

-- a chunk of a script whose line 1 was accepted; nothing is done where the state is not whole or a lent length is wrong
unfoldable pub plays : Kept → ℕ → List ℕ → List ℕ → Played
plays k number input output =
    pick (both (whole k.state) (lengths_right k.state.shape k.bytes k.memory))
    (played follows (length input) input (starts k number output))
    (starts k number output)

-- "every line after a refused line 1" gets 12
abbrev pub refuses : Kept → Asks → Out
refuses k a = refused 12 k.state k.bytes k.memory

-- a chunk of a script whose line 1 was refused
unfoldable pub refuses_all : Kept → ℕ → List ℕ → List ℕ → Played
refuses_all k number input output = played refuses (length input) input (starts k number output)
