-- Replay prints the flat row's answers, proved: a line does what its call does, so the lines of all chunks are one run of the rules.
use mathlib.Core.Path.{◌≡◌, refl, sym, ap, ◌∙◌, subst}
use mathlib.Core.Bool.{true}
use mathlib.Core.List.{List, [], ◌∷◌, ◌++◌, append_assoc}
use Prim.Native.Nat.{ℕ, zero, suc, ◌+◌, ◌-◌, ◌≤◌, ◌<◌, ◌^◌}
use native.Mathlib.Omega.{arith}
use lib.Dec.{leb}
use lib.ListN.{length, take, length-append}
use borrow.Author.Tests.{leb-true}
use Rattle.laws.specs.Choice.{both}
use Rattle.laws.specs.Bytes.{part, splice}
use Rattle.laws.proofs.Choice.{both_left, both_right, both_true, pick-by}
use Rattle.laws.proofs.Writes.{take-splice}
use Rattle.tracker.specs.Answer.{Said, no}
use Rattle.text.specs.Text.{line_text}
use Rattle.rules.specs.State.{lengths_right}
use Rattle.rules.specs.Whole.{whole}
use Rattle.rules.specs.Calls.{Out}
use Rattle.rules.specs.Run.{Call, Kept, kept, answers, ended}
use Rattle.flat.specs.Demand.{Values32}
use Rattle.flat.proofs.Demand.{runs}
use Rattle.cache.specs.declared.State.{State}
use Rattle.session.specs.Session.{kept_of}
use Rattle.script.specs.Script.{Asks, news, reads, writes, steps, drains, bad, spells, is_numeral, is_decimal, is_hex, is_letter, is_order, step_line, new_line, read_line, write_line, fields, of_fields, asks_for}
use Rattle.script.proofs.Laws.{spells-lt}
use Rattle.play.specs.Play.{Played, follows, goes_on, line_end, line_done, starts, plays}
use Rattle.play.specs.Lines.{asked, said_by, transfers_by, left_by, text_of, text_by}
use Rattle.play.proofs.Texts.{plays-becomes}
use Rattle.demands.specs.Event.{events}
use Rattle.demands.specs.Demand2.{OneRow}
use Rattle.demands.specs.Replay.{call_for, calls_for, lines_say, Replays, begun, chunk, ReplayPrints}
use Rattle.demands.proofs.Start.{Begun}
use Rattle.demands.proofs.Start as Start
use Rattle.demands.proofs.Watch.{logged, log_of}
use Rattle.demands.proofs.Demand2.{one-row}

-- lines as a run
says-more : (k : Kept) (a : Asks) (lines : List Asks) → ((k : Kept) → said_by follows k lines ≡ lines_say lines (answers k (calls_for lines)))
    → said_by follows k (a ∷ lines) ≡ lines_say (a ∷ lines) (answers k (calls_for (a ∷ lines)))
unfolding said_by lines_say calls_for answers
says-more k (news n l t) lines h = ap (λ (r : List Said). no 12 ∷ r) (h k)
says-more k (reads x g b) lines h = ap (λ (r : List Said). (follows k (reads x g b)).said ∷ r) (h (kept (follows k (reads x g b))))
says-more k (writes x g v b) lines h = ap (λ (r : List Said). (follows k (writes x g v b)).said ∷ r) (h (kept (follows k (writes x g v b))))
says-more k (steps x) lines h = ap (λ (r : List Said). (follows k (steps x)).said ∷ r) (h (kept (follows k (steps x))))
says-more k drains lines h = ap (λ (r : List Said). (follows k drains).said ∷ r) (h (kept (follows k drains)))
says-more k bad lines h = ap (λ (r : List Said). no 12 ∷ r) (h k)

says-run : (lines : List Asks) (k : Kept) → said_by follows k lines ≡ lines_say lines (answers k (calls_for lines))
unfolding said_by lines_say
says-run [] k = refl
says-run (a ∷ lines) k = says-more k a lines (says-run lines)

leaves-more : (k : Kept) (a : Asks) (lines : List Asks) → ((k : Kept) → left_by follows k lines ≡ ended k (calls_for lines)) → left_by follows k (a ∷ lines) ≡ ended k (calls_for (a ∷ lines))
unfolding left_by calls_for ended
leaves-more k (news n l t) lines h = h k
leaves-more k (reads x g b) lines h = h (kept (follows k (reads x g b)))
leaves-more k (writes x g v b) lines h = h (kept (follows k (writes x g v b)))
leaves-more k (steps x) lines h = h (kept (follows k (steps x)))
leaves-more k drains lines h = h (kept (follows k drains))
leaves-more k bad lines h = h k

leaves_run : (lines : List Asks) (k : Kept) → left_by follows k lines ≡ ended k (calls_for lines)
unfolding left_by calls_for ended
leaves_run [] k = refl
leaves_run (a ∷ lines) k = leaves-more k a lines (leaves_run lines)

-- lines after lines
left-then : (rule : Kept → Asks → Out) (xs ys : List Asks) (k : Kept) → left_by rule k (xs ++ ys) ≡ left_by rule (left_by rule k xs) ys
unfolding left_by
left-then rule [] ys k = refl
left-then rule (a ∷ xs) ys k = left-then rule xs ys (kept (rule k a))

text-then : (rule : Kept → Asks → Out) (xs ys : List Asks) (k : Kept) (n m : ℕ) → m ≡ n + length xs → text_by rule n k (xs ++ ys) ≡ text_by rule n k xs ++ text_by rule m (left_by rule k xs) ys
unfolding left_by said_by transfers_by text_of
text-then rule [] ys k n m e = let z : n ≡ m = omega arith in ap (λ (i : ℕ). text_by rule i k ys) z
text-then rule (a ∷ xs) ys k n m e =
    let line = line_text (n + 1) (rule k a).said (rule k a).transfers in
    ap (λ (r : List ℕ). line ++ r) (text-then rule xs ys (kept (rule k a)) (n + 1) m (omega arith)) ∙ sym (append_assoc line _ _)

-- a value of eight hex digits is a u32
abbrev Fits : Asks → Type 0
Fits a = Values32 (call_for a)

hex-fits : (v : List ℕ) → is_hex v ≡ true → spells 16 v (length v) < 4294967296
unfolding is_numeral
hex-fits v h =
    let a : both (leb 8 (length v)) (leb (length v) 8) ≡ true = both_left _ _ h in
    let p : 8 ≤ length v = leb-true 8 (length v) (both_left _ _ a) in
    let q : length v ≤ 8 = leb-true (length v) 8 (both_right (leb 8 (length v)) _ a) in
    let l : length v ≡ 8 = omega arith in
    let s : spells 16 v (length v) < 16 ^ length v = spells-lt 16 v (length v) (both_right _ _ h) in
    subst (λ (n : ℕ). spells 16 v (length v) < 16 ^ n) l s

write-fits : (x g v o : List ℕ) → Fits (write_line x g v o)
unfolding write_line
write-fits x g v o = pick-by Fits (both (is_decimal x) (both (is_decimal g) (both (is_hex v) (is_order o))))
    (λ h. (hex-fits v (both_left _ _ (both_right (is_decimal g) _ (both_right (is_decimal x) _ h))), tt)) (λ _. tt)

step_fits : (x : List ℕ) → Fits (step_line x)
unfolding step_line
step_fits x = pick-by Fits (is_decimal x) (λ _. (tt, tt)) (λ _. tt)

new-fits : (n l t : List ℕ) → Fits (new_line n l t)
unfolding new_line
new-fits n l t = pick-by Fits (both (is_decimal n) (both (is_decimal l) (is_decimal t))) (λ _. tt) (λ _. tt)

read_fits : (x g o : List ℕ) → Fits (read_line x g o)
unfolding read_line
read_fits x g o = pick-by Fits (both (is_decimal x) (both (is_decimal g) (is_order o))) (λ _. (omega arith, tt)) (λ _. tt)

fields_fit : (fs : List (List ℕ)) → Fits (of_fields fs)
unfolding of_fields
fields_fit [] = tt
fields_fit (a ∷ []) = pick-by Fits (is_letter a 100) (λ _. (tt, tt)) (λ _. tt)
fields_fit (a ∷ b ∷ []) = pick-by Fits (is_letter a 115) (λ _. step_fits b) (λ _. tt)
fields_fit (a ∷ b ∷ c ∷ []) = tt
fields_fit (a ∷ b ∷ c ∷ d ∷ []) = pick-by Fits (is_letter a 110) (λ _. new-fits b c d) (λ _. pick-by Fits (is_letter a 114) (λ _. read_fits b c d) (λ _. tt))
fields_fit (a ∷ b ∷ c ∷ d ∷ e ∷ []) = pick-by Fits (is_letter a 119) (λ _. write-fits b c d e) (λ _. tt)
fields_fit (a ∷ b ∷ c ∷ d ∷ e ∷ f ∷ fs) = tt

line-fits : (line : List ℕ) → Fits (asks_for line)
unfolding asks_for
line-fits line = pick-by Fits (leb (length line) 64) (λ _. fields_fit (fields line)) (λ _. tt)

values-then : (cs ds : List Call) → Values32 cs → Values32 ds → Values32 (cs ++ ds)
values-then [] ds v w = w
values-then (c ∷ cs) ds v w = (v.0, values-then cs ds v.1 w)

calls-then : (xs ys : List Asks) → calls_for (xs ++ ys) ≡ calls_for xs ++ calls_for ys
unfolding calls_for
calls-then [] ys = refl
calls-then (a ∷ xs) ys = ap (λ (r : List Call). call_for a ++ r) (calls-then xs ys) ∙ sym (append_assoc (call_for a) (calls_for xs) (calls_for ys))

asked-fit : (rule : Kept → Asks → Out) (f : ℕ) (input : List ℕ) (p : Played) → Values32 (calls_for (asked rule f input p))
unfolding asked calls_for
asked-fit rule zero input p = tt
asked-fit rule (suc f) input p = pick-by (λ (xs : List Asks). Values32 (calls_for xs)) (goes_on input p)
    (λ _. values-then (call_for (asks_for (part input p.taken (line_end input p.taken - p.taken)))) (calls_for (asked rule f input (line_done rule input p))) (line-fits _) (asked-fit rule f input (line_done rule input p)))
    (λ _. tt)

-- the text that a chunk leaves in front of its output
in-front : (p : Played) (output text : List ℕ) → p.written ≡ 0 + length text → p.output ≡ splice output 0 text → take p.written p.output ≡ text
in-front p output text w o = ap (λ (n : ℕ). take n p.output) w ∙ ap (take (0 + length text)) o ∙ take-splice output text (0 + length text) (omega arith)

-- what was printed up to a chunk's end
record Printed (k k' : Kept) (number : ℕ) (lines : List Asks) (text : List ℕ) : Type 0 where
  fit : Values32 (calls_for lines)
  leaves : k' ≡ left_by follows k lines
  count : number ≡ 1 + length lines
  text-is : text ≡ text_by follows 1 k lines

module _ (t : ℕ) (k : Kept) (B : Begun t k) where
  more : (k1 k2 : Kept) (number number2 : ℕ) (lines new : List Asks) (text text2 : List ℕ) → Printed k k1 number lines text → Values32 (calls_for new) → k2 ≡ left_by follows k1 new
      → number2 ≡ number + length new → text2 ≡ text_by follows number k1 new → Printed k k2 number2 (lines ++ new) (text ++ text2)
  more k1 k2 number number2 lines new text text2 P v l c e = record {
    fit = rw (calls-then lines new) (values-then (calls_for lines) (calls_for new) P.fit v);
    leaves = l ∙ ap (λ (z : Kept). left_by follows z new) P.leaves ∙ sym (left-then follows lines new k);
    count = omega (arith, P.count, c, length-append lines new);
    text-is =
        ap (λ (r : List ℕ). r ++ text2) P.text-is ∙ ap (λ (r : List ℕ). text_by follows 1 k lines ++ r) (e ∙ ap (λ (z : Kept). text_by follows number z new) P.leaves)
        ∙ sym (text-then follows lines new k 1 number P.count);
  }

  printed : {s0 : State} {b0 m0 : List ℕ} {s : State} {b m : List ℕ} {number : ℕ} {lines : List Asks} {text : List ℕ} → kept_of s0 b0 m0 ≡ k → Replays s0 b0 m0 s b m number lines text
      → Printed k (kept_of s b m) number lines text
  unfolding left_by calls_for said_by transfers_by text_of
  printed e begun = record { fit = tt; leaves = e; count = refl; text-is = refl }
  printed e (chunk {s = s} {b = b} {m = m} {number = number} {lines = lines} {text = text} p input output output' b' m' r d) =
      let P = printed e p in
      let k1 = kept_of s b m in
      let R = runs (calls_for lines) k _ B.agrees P.fit in
      let q : k1 ≡ ended k (calls_for lines) = P.leaves ∙ leaves_run lines k in
      let Z = plays-becomes k1 number input output (subst (λ (z : Kept). both (whole z.state) (lengths_right z.state.shape z.bytes z.memory) ≡ true) (sym q)
      (both_true _ _ R.ok-still.is_whole R.ok-still.right)) in
      let new = asked follows (length input) input (starts k1 number output) in
      more k1 (kept_of r.state b' m') number r.place.number lines new text (take r.place.written output') P (asked-fit follows (length input) input (starts k1 number output))
      (ap (λ (z : Played). z.kept) d ∙ Z.kept) (ap (λ (z : Played). z.number) d ∙ Z.number)
      (ap (λ (z : Played). take z.written z.output) d ∙ in-front (plays k1 number input output) output (text_by follows number k1 new) Z.written Z.output)

pub replay-prints : ReplayPrints
replay-prints t s s' b m b' m' number lines text start p =
    let k = kept_of s b m in
    let B = Start.begun t s b m start in
    let P = printed t k B refl p in (
      answers k (calls_for lines),
      log_of (logged k (calls_for lines)),
      P.text-is ∙ ap (λ (said : List Said). text_of 1 said (transfers_by follows k lines)) (says-run lines k),
      subst (λ (z : Kept). OneRow s.shape.n m (events (calls_for lines) (answers k (calls_for lines))) z.memory (log_of (logged k (calls_for lines)))) (sym (P.leaves ∙ leaves_run lines k))
          (one-row t k B (calls_for lines) P.fit),
    )
