use Rattle.std.proofs.Common.{rules}
use Prim.Native.Nat.{◌<◌}
use native.Mathlib.Omega.{arith}
use Rattle.planes.specs.Planes.{words_of}
use Rattle.planes.proofs.Counts.{lowest_at}
use Rattle.halves.proofs.Marked.{marking_below, marking_on}
use Rattle.halves.proofs.mark.mark.Goals as goal

pub pick-requires : goal.pick-requires
pick-requires g c =
    let w : c.loop-w.w < words_of c.args.planes.positions = omega (arith, c.loop-w-test.true, c.lowest-word-items.ensures.len) in
    let below = marking_below c.args.planes.ends w (lowest_at _ _ _ c.lowest-word-items.ensures.words _ w) in
    (omega (arith, c.args.planes.ends.few), search rules)

pub loop-w-preserved : goal.loop-w-preserved
loop-w-preserved g c =
    let w : c.loop-w.w < words_of c.args.planes.positions = omega (arith, c.loop-w-test.true, c.lowest-word-items.ensures.len) in
    marking_on c.loop-w.invariant (omega (arith, c.args.planes.ends.few)) (lowest_at _ _ _ c.lowest-word-items.ensures.words _ w) c.pick.ensures
