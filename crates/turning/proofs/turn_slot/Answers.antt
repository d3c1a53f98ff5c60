use Rattle.std.proofs.Common.{rules}
use Rattle.turning.proofs.Putting.{filled_on, filled_end, entry_most}
use Rattle.turning.proofs.turn_slot.Goals as goal

pub put_entry-requires : goal.put_entry-requires
put_entry-requires c = (c.loop-entry.invariant.size, search (rules, entry_most))

pub loop-entry-preserved : goal.loop-entry-preserved
loop-entry-preserved c = search (rules, filled_on)

pub returns : goal.returns
returns c = search (rules, filled_end)
