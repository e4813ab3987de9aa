-- `sums::two_at` meets its contract, by the laws of a number that is there and of one that is not.
use Rattle.std.proofs.Common.{◌≡◌, ◌+◌, ◌<◌, ◌≤◌, ℕ, List, length, take, drop, get_or, ap, sym, ◌∙◌, ⊎_elim, arith, add-zero}
use Rattle.std.proofs.lemmas.List.{take_rest, get_or-drop, get_or-take}
use Rattle.laws.proofs.Value.{number_at-fits, number_at-not, value-2}
use Rattle.sums.proofs.two_at.Goals as goal

pub returns-in_default : goal.returns-in_default
returns-in_default c =
    sym (number_at-not 2 _ _ (⊎_elim (λ (h : length c.args.row.now < c.args.at). omega arith) (λ (h : length c.args.row.now < length c.args.row.now). omega arith) c.in_default.ensures.lookup.0))

pub returns-in_default-first_chunk : goal.returns-in_default-first_chunk
returns-in_default-first_chunk c =
    let short : length c.in-Some.rest.now < 2 = c.in_default-first_chunk.ensures.cases in
    sym (number_at-not 2 _ _ (omega (arith, c.in-Some.ensures.lookup.0.3, short)))

pub returns : goal.returns
returns c = let row = c.args.row.now in
    let at = c.args.at in
    let two = c.in-Some-first_chunk.two.now in
    let chunk = c.in-Some-first_chunk.ensures.cases in
    let long : 2 ≤ length c.in-Some.rest.now = chunk.enough in
    let here : two ≡ take 2 (drop at row) = chunk.same ∙ ap (take 2) (c.in-Some.ensures.lookup.0.2 ∙ take_rest row at) in
    let byte : (i : ℕ) → i < 2 → get_or two i 0 ≡ get_or row (at + i) 0 =
    λ i l. ap (λ (xs : List ℕ). get_or xs i 0) here ∙ get_or-take 2 (drop at row) i 0 l ∙ get_or-drop at row i 0 in
    let first : get_or two 0 0 ≡ get_or row at 0 = byte 0 (omega arith) ∙ ap (λ (i : ℕ). get_or row i 0) (add-zero at) in
    let room : at + 2 ≤ length row = omega (arith, c.in-Some.ensures.lookup.0, long) in
    rw (number_at-fits 2 row at room, value-2 row at room) (omega (arith, first, byte 1 (omega arith)))
