use Rattle.std.proofs.Common.{◌≡◌}
use Rattle.printing.proofs.Prints.{Celled}
use Rattle.printing.proofs.put_cells.Given as goal

abbrev pub invariant-loop-entry : goal.invariant-loop-entry
invariant-loop-entry l = record {
  same : l.line.out.ghost_name ≡ l.initial.line.out.ghost_name;
  celled : Celled l.initial.line.out.now l.initial.line.at l.slot l.line.out.now l.line.at l.entry-index;
}
