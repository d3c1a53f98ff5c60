use Rattle.std.proofs.Common.{◌≡◌}
use Rattle.printing.proofs.Prints.{Slotted}
use Rattle.printing.proofs.put_slots.Given as goal

abbrev pub invariant-loop-s : goal.invariant-loop-s
invariant-loop-s l = record {
  same : l.line.out.ghost_name ≡ l.initial.line.out.ghost_name;
  slotted : Slotted l.initial.line.out.now l.initial.line.at l.frame.ports l.frame.slots l.frame.entries.now l.line.out.now l.line.at l.s;
}
