-- Run r's groups lie in the tags from its first on up to its end, which is at most theirs.
use mathlib.Core.Path.{refl, ap, ◌∙◌}
use mathlib.Core.Bool.{not}
use Prim.Native.Nat.{◌*◌, ◌≤◌, ◌<◌}
use native.Mathlib.Omega.{arith}
use Rattle.geometry.specs.TagMemory.{groups}
use Rattle.geometry.proofs.Groups.{group_place-is, block_place-groups}
use Rattle.geometry.proofs.Places.{groups-most}
use Rattle.prediction.proofs.RunsOf.{run-starts}
use Rattle.prediction.proofs.Groups.{any_in-cut}
use Rattle.prediction.proofs.Runs.any_in.Goals as goal

pub overflow_mul-from : goal.overflow_mul-from
overflow_mul-from c =
    let starts : c.args.r * c.args.self.c < groups c.args.self.n = run-starts c.args.self.n c.args.self.c c.args.self.some c.args.r c.requires.0 in
    let small : groups c.args.self.n ≤ 4194304 = groups-most c.args.self.n 262144 c.args.self.few in
    omega (arith, starts, small)

pub overflow_cast-end : goal.overflow_cast-end
overflow_cast-end c =
    let small : groups c.args.self.n ≤ 4194304 = groups-most c.args.self.n 262144 c.args.self.few in
    omega (arith, c.run_end-end.ensures, small)

pub slice_bounds-all_zero-count : goal.slice_bounds-all_zero-count
slice_bounds-all_zero-count c =
    let starts : c.args.r * c.args.self.c < groups c.args.self.n = run-starts c.args.self.n c.args.self.c c.args.self.some c.args.r c.requires.0 in
    let ordered : (c.group_place-at.result ≤ c.group_place-to.result) × (c.group_place-to.result ≤ 64 * c.args.self.n) = let from = group_place-is (c.args.r * c.args.self.c) in
    let to = group_place-is c.run_end-end.result in
    let end = c.run_end-end.ensures in
    let below = starts in
    (omega (arith, c.group_place-at.ensures, c.group_place-to.ensures), omega (arith, c.group_place-to.ensures, block_place-groups c.args.self.n)) in
    omega (arith, ordered.0)

pub slice_bounds-all_zero-start : goal.slice_bounds-all_zero-start
slice_bounds-all_zero-start c =
    let starts : c.args.r * c.args.self.c < groups c.args.self.n = run-starts c.args.self.n c.args.self.c c.args.self.some c.args.r c.requires.0 in
    let ordered : (c.group_place-at.result ≤ c.group_place-to.result) × (c.group_place-to.result ≤ 64 * c.args.self.n) = let from = group_place-is (c.args.r * c.args.self.c) in
    let to = group_place-is c.run_end-end.result in
    let end = c.run_end-end.ensures in
    let below = starts in
    (omega (arith, c.group_place-at.ensures, c.group_place-to.ensures), omega (arith, c.group_place-to.ensures, block_place-groups c.args.self.n)) in
    omega (arith, ordered.0)

pub slice_bounds-all_zero-end : goal.slice_bounds-all_zero-end
slice_bounds-all_zero-end c =
    let starts : c.args.r * c.args.self.c < groups c.args.self.n = run-starts c.args.self.n c.args.self.c c.args.self.some c.args.r c.requires.0 in
    let ordered : (c.group_place-at.result ≤ c.group_place-to.result) × (c.group_place-to.result ≤ 64 * c.args.self.n) = let from = group_place-is (c.args.r * c.args.self.c) in
    let to = group_place-is c.run_end-end.result in
    let end = c.run_end-end.ensures in
    let below = starts in
    (omega (arith, c.group_place-at.ensures, c.group_place-to.ensures), omega (arith, c.group_place-to.ensures, block_place-groups c.args.self.n)) in
    omega (arith, ordered.1, c.requires.1)

pub returns : goal.returns
returns c =
    let starts : c.args.r * c.args.self.c < groups c.args.self.n = run-starts c.args.self.n c.args.self.c c.args.self.some c.args.r c.requires.0 in
    ap not c.all_zero.ensures
    ∙ any_in-cut c.args.self.n c.args.self.c c.args.r (c.args.r * c.args.self.c) c.run_end-end.result c.args.tags.now
    c.args.self.some c.requires.1 refl starts c.run_end-end.ensures _ _ c.group_place-at.ensures c.group_place-to.ensures
