use mathlib.Core.Path.{sym, ◌∙◌}
use Rattle.checks.proofs.Fits.{level_low}
use Rattle.adding.proofs.Swapping.{swapping_on, all_done, none_came, none_else, else_low}
use Rattle.adding.proofs.exchange_slots.Goals as goal

pub returns-then-o-eq0 : goal.returns-then-o-eq0
returns-then-o-eq0 c = none_came _ _ _ _ _ _ _ _ _ _ _ c.loop-n.invariant c.output_of-o.ensures c.if-o-eq0.true

pub invariant_of-now : goal.invariant_of-now
invariant_of-now c = let framed = c.loop-n.invariant.flowed.framed in record { power = level_low framed; size = framed.size }

pub returns-in_default : goal.returns-in_default
returns-in_default c = none_else _ _ _ _ _ _ _ _ _ _ _ c.loop-n.invariant c.output_of-o.ensures (sym c.in_default.is ∙ c.lowest_to.ensures)

pub swap_entries-moved-requires : goal.swap_entries-moved-requires
swap_entries-moved-requires c = (c.loop-n.invariant.flowed.framed, c.requires.1, c.requires.2, else_low _ _ _ _ _ _ _ _ _ _ _ c.loop-n.invariant c.output_of-o.ensures c.in-Some.ensures)

pub loop-n-preserved : goal.loop-n-preserved
loop-n-preserved c = swapping_on _ _ _ _ _ _ _ _ _ _ _ c.loop-n.invariant c.output_of-o.ensures c.in-Some.ensures c.if-o-eq0.false c.loop-n-test.true c.requires.1 c.requires.2 c.swap_entries-moved.ensures.0 c.swap_entries-moved.ensures.1

pub returns : goal.returns
returns c = all_done _ _ _ _ _ _ _ _ _ _ _ c.loop-n.invariant c.loop-n-test.false
