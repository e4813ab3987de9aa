-- `image::clear` meets its contract: the part is lent, and comes back as zeros.
use Rattle.std.proofs.Common.{sym, ◌∙◌, ◌≡◌, ◌+◌, ◌-◌, ℕ, length, take, drop, replicate, length-take, length-drop, arith, ap}
use Rattle.laws.proofs.Put.{put_w-is, put_w-not}
use Rattle.image.proofs.clear.Goals as goal
use Rattle.image.proofs.clear.Goals.{then-row-count-via-then-row-count, then-row-count-via-else-row-count+then-row-count-2}

pub returns-then-row-count : goal.returns-then-row-count
returns-then-row-count c = sym (put_w-not c.args.count c.args.row.now c.args.at _ (elim c.then-row-count.branch [ then-row-count-via-then-row-count w ↦ omega arith | then-row-count-via-else-row-count+then-row-count-2 w ↦ omega arith ]))

pub returns : goal.returns
returns c = let a = c.args in
    let e : length (take (a.at + a.count - a.at) (drop a.at a.row.now)) ≡ a.count = simp (length-take, length-drop) (omega arith) in
    put_w-is a.row.now a.at a.count (omega arith) (c.fill.ensures.after (λ y h. h) ∙ ap (λ (x : ℕ). replicate x 0) e) c.fill.ensures.len
