-- What is played is what the lines ask for, one after the other, and the output is the text of what they say.
use mathlib.Core.Path.{◌≡◌, refl, sym, ◌∙◌}
use mathlib.Core.Bool.{true, false}
use mathlib.Core.List.{List, [], ◌∷◌, ◌++◌, append_assoc}
use mathlib.Core.Logic.{◌⊎◌, inl, inr}
use Prim.Native.Nat.{ℕ, zero, suc, ◌+◌, ◌-◌, ◌≤◌}
use native.Mathlib.Omega.{arith}
use lib.ListN.{length, take, drop, take-append-drop, length-append, length-take, length-drop}
use lib.Seq.{take-append_seam, drop-append-add, drop-drop}
use Rattle.laws.specs.Choice.{both}
use Rattle.laws.specs.Bytes.{part, splice}
use Rattle.laws.proofs.Choice.{true-or-false}
use Rattle.script.specs.Script.{Asks, asks_for}
use Rattle.rules.specs.State.{lengths_right}
use Rattle.rules.specs.Whole.{whole}
use Rattle.rules.specs.Calls.{Out}
use Rattle.rules.specs.Run.{Kept}
use Rattle.play.specs.Play.{Played, follows, refuses, line_end, goes_on, line_done, played, starts, plays, refuses_all}
use Rattle.play.specs.Lines.{asked, said_by, transfers_by, left_by, text_of, Becomes}
use Rattle.play.proofs.Chunk.{played-stops, played-goes}
use Rattle.play.proofs.Ways.{plays-ready}

after-part : (p d c : List ℕ) (k : ℕ) → length p ≡ k → take k (p ++ d) ++ (c ++ drop (k + length c) (p ++ d)) ≡ p ++ (c ++ drop (length c) d)
after-part p d c k e = rw (sym e, take-append_seam p d, drop-append-add p d (length c)) refl

-- text after text is one text
splice-more : (m : List ℕ) (a : ℕ) (b c : List ℕ) → a ≤ length m → splice (splice m a b) (a + length b) c ≡ splice m a (b ++ c)
unfolding splice
splice-more m a b c h =
    let n : length (take a m ++ b) ≡ a + length b = simp (length-append, length-take) (omega arith) in
    let s : a + length b + length c ≡ a + (length b + length c) = omega arith in
    rw (← append_assoc (take a m) b (drop (a + length b) m))
    (after-part (take a m ++ b) (drop (a + length b) m) c (a + length b) n
    ∙ rw (drop-drop (length c) (a + length b) m, append_assoc (take a m) b, length-append b c, append_assoc b c, s) refl)

length_more : (m : List ℕ) (a : ℕ) (b : List ℕ) → a ≤ length m → a + length b ≤ length (splice m a b)
unfolding splice
length_more m a b h = simp (length-append, length-take, length-drop) (omega arith)

splice-none : (m : List ℕ) (a : ℕ) → m ≡ splice m a []
unfolding splice
splice-none m a = let z : a + 0 ≡ a = omega arith in rw z (sym (take-append-drop a m))

module _ (rule : Kept → Asks → Out) where
  becomes-itself : (p : Played) → Becomes rule p p []
  unfolding left_by said_by transfers_by text_of
  becomes-itself p = record { kept = refl; number = omega arith; written = omega arith; output = splice-none p.output p.written }

  becomes-more : (input : List ℕ) (p : Played) {q : Played} {lines : List Asks} → p.written ≤ length p.output
      → Becomes rule (line_done rule input p) q lines → Becomes rule p q (asks_for (part input p.taken (line_end input p.taken - p.taken)) ∷ lines)
  unfolding line_done left_by said_by transfers_by text_of
  becomes-more input p {q} {lines} h b =
      record {
        kept = b.kept;
        number = let n = b.number in omega arith;
        written = simp length-append (let n = b.written in omega arith);
        output = b.output ∙ splice-more p.output p.written _ _ h;
      }

  asked-goes : (f : ℕ) (input : List ℕ) (p : Played) → goes_on input p ≡ true
      → asked rule (suc f) input p ≡ asks_for (part input p.taken (line_end input p.taken - p.taken)) ∷ asked rule f input (line_done rule input p)
  unfolding asked
  asked-goes f input p h = rw h

  asked-stops : (f : ℕ) (input : List ℕ) (p : Played) → goes_on input p ≡ false → asked rule (suc f) input p ≡ []
  unfolding asked
  asked-stops f input p h = rw h

  room : (input : List ℕ) (p : Played) → p.written ≤ length p.output → (line_done rule input p).written ≤ length (line_done rule input p).output
  unfolding line_done
  room input p h = length_more p.output p.written _ h

  -- the theorem: what is played is what its lines ask for
  pub played-becomes : (f : ℕ) (input : List ℕ) (p : Played) → p.written ≤ length p.output → Becomes rule p (played rule f input p) (asked rule f input p)
  unfolding played asked
  played-becomes zero input p h = becomes-itself p
  played-becomes (suc f) input p h = by (played-becomes f input (line_done rule input p) (room input p h)) (true-or-false (goes_on input p))
    where
      by : Becomes rule (line_done rule input p) (played rule f input (line_done rule input p)) (asked rule f input (line_done rule input p)) → (goes_on input p ≡ true) ⊎ (goes_on input p ≡ false)
          → Becomes rule p (played rule (suc f) input p) (asked rule (suc f) input p)
      by more (inl g) = rw (played-goes rule input p f g, asked-goes f input p g) (becomes-more input p h more)
      by more (inr g) = rw (played-stops rule input p (suc f) g, asked-stops f input p g) (becomes-itself p)

-- a chunk that is played: its output is the text of what its lines say
pub plays-becomes : (k : Kept) (number : ℕ) (input output : List ℕ) → both (whole k.state) (lengths_right k.state.shape k.bytes k.memory) ≡ true
    → Becomes follows (starts k number output) (plays k number input output) (asked follows (length input) input (starts k number output))
plays-becomes k number input output h = rw (plays-ready k number input output h) (played-becomes follows (length input) input (starts k number output) (omega arith))

-- a chunk that is refused: its output is a refusal 12 for each line
pub refuses_all-becomes : (k : Kept) (number : ℕ) (input output : List ℕ)
    → Becomes refuses (starts k number output) (refuses_all k number input output) (asked refuses (length input) input (starts k number output))
unfolding refuses_all
refuses_all-becomes k number input output = played-becomes refuses (length input) input (starts k number output) (omega arith)
