use Rattle.calls.specs.Sides.{side_of}
use Rattle.entries.specs.Entries.{Used}
use Rattle.entries.proofs.uses_of.Given as goal

abbrev pub invariant-loop-entry : goal.invariant-loop-entry
invariant-loop-entry l = Used (side_of l.side) l.frame.frame.of.list.now l.entry-items l.entry-index l.uses
