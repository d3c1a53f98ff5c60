use Rattle.std.proofs.Common.{rules}
use Prim.Native.Nat.{◌<◌}
use native.Mathlib.Omega.{arith}
use Rattle.planes.specs.Planes.{words_of}
use Rattle.planes.proofs.Counts.{lowest_at}
use Rattle.planes.proofs.Placed.{gathering_room, gathering_on, gathering_end}
use Rattle.planes.proofs.gather.gather.Goals as goal

pub place-k-requires : goal.place-k-requires
place-k-requires c =
    let w : c.loop-w.w < words_of c.args.planes.positions = omega (arith, c.loop-w-test.true, c.lowest-word-items.ensures.len) in
    let room = gathering_room c.loop-w.invariant c.args.planes.ends w (lowest_at _ _ _ c.lowest-word-items.ensures.words _ w) in
    (omega (arith, c.args.planes.ends.few), search rules)

pub loop-w-preserved : goal.loop-w-preserved
loop-w-preserved c =
    let w : c.loop-w.w < words_of c.args.planes.positions = omega (arith, c.loop-w-test.true, c.lowest-word-items.ensures.len) in
    gathering_on c.loop-w.invariant c.args.planes.ends w (lowest_at _ _ _ c.lowest-word-items.ensures.words _ w) c.place-k.ensures

pub returns : goal.returns
returns c = gathering_end c.loop-w.invariant c.args.planes.ends (omega (arith, c.lowest-word-items.ensures.len))
