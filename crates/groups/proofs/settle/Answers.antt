use Rattle.std.proofs.Common.{rules}
use native.Mathlib.Omega.{arith}
use Rattle.groups.proofs.Settled.{next_start, settled_start, reaches_next, settled_on, settled_end}
use Rattle.groups.proofs.settle.Goals as goal

pub loop-p-init : goal.loop-p-init
loop-p-init c = (search (rules, next_start), settled_start c.args.odds.now c.requires.1)

pub settle_group-next-requires : goal.settle_group-next-requires
settle_group-next-requires c = (reaches_next c.args.odds.now c.loop-p-test.true c.from.ensures c.requires.0, c.loop-p.invariant.0)

pub loop-p-preserved : goal.loop-p-preserved
loop-p-preserved c = (c.settle_group-next.ensures.next, settled_on c.args.odds.now c.loop-p-test.true c.from.ensures c.loop-p.invariant.1 c.settle_group-next.ensures)

pub returns : goal.returns
returns c = settled_end c.loop-p.invariant.1 (omega arith)
