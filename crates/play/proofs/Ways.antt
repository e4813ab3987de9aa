-- A law for each way out of each function, from what the code has tested.
use mathlib.Core.Path.{◌≡◌, refl, sym}
use mathlib.Core.Bool.{Bool, true, false}
use mathlib.Core.List.{List}
use Prim.Native.Nat.{ℕ, ◌+◌, ◌-◌, ◌≤◌, ◌<◌}
use native.Mathlib.Omega.{arith}
use lib.Dec.{eqb}
use lib.ListN.{length, get_or, take, drop, length-drop}
use Rattle.laws.specs.Refusal.{refusal, unless}
use Rattle.laws.specs.Choice.{both}
use Rattle.laws.proofs.Scan.{first-is, first-none}
use Rattle.script.proofs.Laws.{position-none}
use Rattle.std.specs.List.{position}
use Rattle.std.proofs.lemmas.List.Quantifiers.{position-Some}
use lib.Seq.{take_all, get_or-drop}
use Rattle.tracker.specs.Answer.{no}
use Rattle.std.specs.Prelude.{Some, None, nat_eq}
use Rattle.geometry.specs.TagMemory.{in_limits_of}
use Rattle.rules.specs.State.{lengths_right, zero_state}
use Rattle.rules.specs.Whole.{limits, whole}
use Rattle.rules.specs.Calls.{Out, refused, fresh}
use Rattle.rules.specs.Run.{Kept}
use Rattle.play.specs.Play.{follows, line_end, starts, played, plays}

-- the line's end
abbrev pub is_newline : ℕ → Bool
is_newline b = nat_eq b 10

abbrev newline_at : List ℕ → (at : ℕ) → ℕ → Bool
newline_at input at i = eqb (get_or input (at + i) 0) 10

-- the rest of the chunk as code cuts it, `&input[at..]`
module _ (input : List ℕ) (at : ℕ) (h : at ≤ length input) where
  rest : List ℕ
  rest = take (length input - at) (drop at input)

  rest-is : rest ≡ drop at input
  unfolding rest
  rest-is = take_all (length input - at) (drop at input) (simp length-drop (omega arith))

  rest-length : length rest ≡ length input - at
  rest-length = rw rest-is (length-drop at input)

  rest-at : (i : ℕ) → get_or rest i 0 ≡ get_or input (at + i) 0
  rest-at i = rw rest-is (get_or-drop at input i 0)

  pub end-found : (k : ℕ) → Some k ≡ position is_newline (take (length input - at) (drop at input)) → at + k ≡ line_end input at
  unfolding rest line_end
  end-found k e =
      let f = position-Some is_newline rest k 0 (sym e) in
      let l : k < length input - at = omega (arith, f.0, rest-length) in
      rw (first-is (newline_at input at) (length input - at) k l (rw rest-at at f.1) (λ i q. rw rest-at at (f.2 i q))) refl

  pub end_none : None ≡ position is_newline (take (length input - at) (drop at input)) → length input ≡ line_end input at
  unfolding rest line_end
  end_none e =
      let f = position-none is_newline rest e in
      rw (first-none (newline_at input at) (length input - at) (λ i q. rw rest-at at (f i (omega (arith, rest-length))))) (omega arith)

-- the whole chunk
module _ (k : Kept) (number : ℕ) (input output : List ℕ) where
  pub plays-not : both (whole k.state) (lengths_right k.state.shape k.bytes k.memory) ≡ false → plays k number input output ≡ starts k number output
  unfolding plays
  plays-not e = rw e

  pub plays-ready : both (whole k.state) (lengths_right k.state.shape k.bytes k.memory) ≡ true
      → plays k number input output ≡ played follows (length input) input (starts k number output)
  unfolding plays
  plays-ready e = rw e

module _ (bytes memory : List ℕ) where
  pub refused-of : (c : ℕ) {o : Out} → o ≡ fresh 0 0 0 bytes memory → (record { said = no c; state = o.state; bytes = o.bytes; memory = o.memory; transfers = o.transfers }) ≡ refused c zero_state bytes memory
  unfolding fresh limits in_limits_of both refusal unless
  refused-of c e = rw e refl
