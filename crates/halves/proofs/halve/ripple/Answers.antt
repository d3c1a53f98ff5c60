use Rattle.std.proofs.Common.{rules}
use Rattle.halves.proofs.Halved.{rippling_start, rippling_on, rippling_end}
use Rattle.halves.proofs.halve.ripple.Goals as goal

pub loop-b-init : goal.loop-b-init
loop-b-init c = search (rules, rippling_start)

pub loop-b-preserved : goal.loop-b-preserved
loop-b-preserved c = search (rules, rippling_on)

pub returns : goal.returns
returns c = search (rules, rippling_end)
