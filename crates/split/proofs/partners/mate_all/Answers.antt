use Rattle.std.proofs.Common.{rules}
use mathlib.Core.Path.{refl}
use native.Mathlib.Omega.{arith}
use Rattle.split.proofs.Mated.{mating_start, next_low, next_at_inputs, next_at_links, mating_on, mating_end}
use Rattle.split.proofs.partners.mate_all.Goals as goal

pub loop-p-init : goal.loop-p-init
loop-p-init c = mating_start c.told-mates c.requires.2

pub mate_at-pending_at_inputs-requires : goal.mate_at-pending_at_inputs-requires
mate_at-pending_at_inputs-requires c =
    (next_low c.requires.0 c.requires.1 c.loop-p-test.true refl, next_at_inputs c.requires.0 c.requires.1 c.loop-p-test.true refl, c.loop-p.invariant.pends_at_inputs.known)

pub mate_at-pending-requires : goal.mate_at-pending-requires
mate_at-pending-requires c =
    (next_low c.requires.0 c.requires.1 c.loop-p-test.true refl, next_at_links c.requires.0 c.requires.1 c.loop-p-test.true refl, c.loop-p.invariant.all.pends.known)

pub loop-p-preserved : goal.loop-p-preserved
loop-p-preserved c = search (rules, mating_on c.requires.0 c.requires.1 c.loop-p-test.true refl c.loop-p.invariant)

pub returns : goal.returns
returns c = mating_end c.loop-p.invariant (omega arith)
