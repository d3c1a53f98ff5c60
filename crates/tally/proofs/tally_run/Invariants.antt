use Rattle.tally.proofs.Tallies.{Counted}
use Rattle.tally.proofs.tally_run.Given as goal

abbrev pub invariant-loop-entry : goal.invariant-loop-entry
invariant-loop-entry l =
    Counted l.frame.frame.of.list.now l.entry-items l.entry-index
    (record { flows = l.tally.flows; inputs = l.tally.inputs; outputs = l.tally.outputs; links = l.tally.links; total = l.total })
