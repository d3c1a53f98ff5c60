use Rattle.std.proofs.Common.{rules}
use Rattle.halves.proofs.Halved.{halving_start, halving_on, halving_end}
use Rattle.halves.proofs.halve.halve.Goals as goal

pub loop-w-init : goal.loop-w-init
loop-w-init c = search (rules, halving_start)

pub loop-w-preserved : goal.loop-w-preserved
loop-w-preserved c = search (rules, halving_on)

pub returns : goal.returns
returns c = (search rules, search (rules, halving_end))
