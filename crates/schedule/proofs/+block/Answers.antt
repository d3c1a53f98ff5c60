use Rattle.std.proofs.Common.{rules}
use Prim.Native.Nat.{◌≤◌}
use native.Mathlib.Omega.{arith}
use Rattle.planes.proofs.Counts.{block_ends}
use Rattle.halves.proofs.Marked.{others_mask}
use Rattle.halves.proofs.Halved.{halved_block}
use Rattle.split.proofs.Divided.{favours_second}
use Rattle.schedule.proofs.Framed.{inputs_in, all_blank, frame_one, shorter, half_counts, mid_fits, front_blank, still_room, back_blank, written}
use Rattle.schedule.proofs.Summed.{none_settled, sum_low, summed}
use Rattle.schedule.proofs.+block.Goals as goal

pub write-requires : goal.write-requires
write-requires t c =
    let pre = c.requires in
    (inputs_in c.args.ports c.args.m _ c.args.table.now.ends _ pre.3 pre.1.at_inputs, all_blank c.args.ports c.args.m _ pre.3)

pub returns-then-m-eq0 : goal.returns-then-m-eq0
returns-then-m-eq0 t c =
    let pre = c.requires in
    (search (rules, none_settled), frame_one _ _ c.args.planes.positions c.args.planes.words.now c.args.table.now.ends c.args.frame.now _ c.if-m-eq0.true pre.3 c.write.ensures)

pub halve-requires : goal.halve-requires
halve-requires t c = let some = c.if-m-eq0.false in (omega arith, c.requires.0, c.requires.2, c.split-here.ensures.favoured.odds)

pub invariant_of-first : goal.invariant_of-first
invariant_of-first t c =
    let many : 1 ≤ c.args.m = let some = c.if-m-eq0.false in omega arith in
    record { ends = block_ends (halved_block c.halve.ensures.1 c.requires.2 c.split-here.ensures.favoured.odds many) }

pub block-front-requires : goal.block-front-requires
block-front-requires t c =
    let pre = c.requires in
    let many : 1 ≤ c.args.m = let some = c.if-m-eq0.false in omega arith in
    let half = halved_block c.halve.ensures.1 pre.2 c.split-here.ensures.favoured.odds many in
    (shorter _ t many c.decreases, (omega (arith, pre.0), pre.1, half, front_blank _ _ _ pre.3 many))

pub halve-requires-2 : goal.halve-requires-2
halve-requires-2 t c = let some = c.if-m-eq0.false in (omega arith, c.requires.0, c.requires.2, others_mask c.others.ensures)

pub offset_bounds-frame-mid : goal.offset_bounds-frame-mid
offset_bounds-frame-mid t c = let pre = c.requires in mid_fits _ _ _ pre.3 pre.0 pre.1.few

-- the front is written, and there is room for the back
pub slice_bounds-block-count : goal.slice_bounds-block-count
slice_bounds-block-count t c =
    let many : 1 ≤ c.args.m = let some = c.if-m-eq0.false in omega arith in
    still_room _ _ _ c.requires.3 many _ _ _ c.block-front.ensures.1

pub slice_bounds-block-start : goal.slice_bounds-block-start
slice_bounds-block-start t c =
    let many : 1 ≤ c.args.m = let some = c.if-m-eq0.false in omega arith in
    still_room _ _ _ c.requires.3 many _ _ _ c.block-front.ensures.1

pub invariant_of-second : goal.invariant_of-second
invariant_of-second t c =
    let many : 1 ≤ c.args.m = let some = c.if-m-eq0.false in omega arith in
    record { ends = block_ends (halved_block c.halve-2.ensures.1 c.requires.2 (others_mask c.others.ensures) many) }

pub block-back-requires : goal.block-back-requires
block-back-requires t c =
    let pre = c.requires in
    let many : 1 ≤ c.args.m = let some = c.if-m-eq0.false in omega arith in
    let half = halved_block c.halve-2.ensures.1 pre.2 (others_mask c.others.ensures) many in
    (shorter _ t many c.decreases, (omega (arith, pre.0), pre.1, half, back_blank _ _ _ pre.3 many _ _ _ c.block-front.ensures.1))

pub overflow_add-result : goal.overflow_add-result
overflow_add-result t c =
    let pre = c.requires in
    omega (arith, sum_low c.args.m _ _ c.args.planes.words.now _ _ _ _ _ pre.0 pre.2.few c.split-here.ensures.listed.number c.block-front.ensures.0 c.block-back.ensures.0)

pub overflow_add-result-2 : goal.overflow_add-result-2
overflow_add-result-2 t c =
    let pre = c.requires in
    omega (arith, sum_low c.args.m _ _ c.args.planes.words.now _ _ _ _ _ pre.0 pre.2.few c.split-here.ensures.listed.number c.block-front.ensures.0 c.block-back.ensures.0)

pub returns : goal.returns
returns t c =
    let pre = c.requires in
    let many : 1 ≤ c.args.m = let some = c.if-m-eq0.false in omega arith in
    let left = c.split-here.ensures in
    let first = half_counts left.favoured (omega arith) c.halve.ensures.1 many in
    let second = half_counts (favours_second left.favoured c.others.ensures) (omega arith) c.halve-2.ensures.1 many in
    let frame = written _ _ _ pre.3 many _ _ _ c.block-front.ensures.1 _ _ _ first second c.block-back.ensures.1 in
    (search (rules, summed), frame)
