use Rattle.schedule.proofs.Tabled.{Tabling}
use Rattle.schedule.proofs.positions.tabulate.Given as goal

abbrev pub invariant-loop-f : goal.invariant-loop-f
invariant-loop-f l = Tabling l.of.list.now l.f l.table.multi_link l.table.ends
