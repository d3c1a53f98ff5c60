use Rattle.std.proofs.Common.{[], length}
use Rattle.sheets.specs.Text.{lines}
use Rattle.sheets.specs.Sheet.{read_pairs}
use Rattle.reading.specs.Reading.{Reached}
use Rattle.reading.proofs.read_pairs.Given as goal

abbrev pub invariant-loop-rest : goal.invariant-loop-rest
invariant-loop-rest l = Reached (read_pairs l.ports l.slots 3 [] (lines l.bytes)) l.ports l.slots l.rest l.list l.flows

abbrev pub decreases-loop-rest : goal.decreases-loop-rest
decreases-loop-rest l = length l.rest
