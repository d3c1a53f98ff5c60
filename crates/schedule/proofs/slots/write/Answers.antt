use Prim.Native.Nat.{◌<◌}
use native.Mathlib.Omega.{arith}
use Rattle.planes.specs.Planes.{words_of}
use Rattle.planes.proofs.Counts.{lowest_at}
use Rattle.schedule.proofs.Written.{writing_placed, writing_on, writing_end}
use Rattle.schedule.proofs.slots.write.Goals as goal

pub put_cells-requires : goal.put_cells-requires
put_cells-requires c =
    let w : c.loop-w.w < words_of c.args.planes.positions = omega (arith, c.loop-w-test.true, c.lowest-word-items.ensures.len) in
    (omega (arith, c.args.planes.ends.few), writing_placed c.loop-w.invariant c.requires.0 c.args.planes.ends w (lowest_at _ _ _ c.lowest-word-items.ensures.words _ w))

pub loop-w-preserved : goal.loop-w-preserved
loop-w-preserved c =
    let w : c.loop-w.w < words_of c.args.planes.positions = omega (arith, c.loop-w-test.true, c.lowest-word-items.ensures.len) in
    writing_on c.loop-w.invariant (lowest_at _ _ _ c.lowest-word-items.ensures.words _ w) c.put_cells.ensures

pub returns : goal.returns
returns c = writing_end c.loop-w.invariant (omega (arith, c.lowest-word-items.ensures.len)) c.args.planes.ends
