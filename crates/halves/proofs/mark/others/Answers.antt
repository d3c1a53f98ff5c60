use Rattle.std.proofs.Common.{rules}
use native.Mathlib.Omega.{arith}
use Rattle.planes.proofs.Counts.{lowest_at}
use Rattle.halves.proofs.Marked.{complementing_on}
use Rattle.halves.proofs.mark.others.Goals as goal

pub loop-w-preserved : goal.loop-w-preserved
loop-w-preserved c =
    let on = complementing_on c.loop-w.invariant c.requires (omega (arith, c.loop-w-test.true, c.lowest-word-items.ensures.len, c.args.planes.ends.few))
    (lowest_at _ _ _ c.lowest-word-items.ensures.words _ (omega (arith, c.loop-w-test.true, c.lowest-word-items.ensures.len))) in
    search rules
