use Rattle.rules.specs.Schedule.{favouring}
use Rattle.planes.specs.Tables.{lookup}
use Rattle.planes.specs.Favours.{favour_numbers}
use Rattle.groups.proofs.Walked.{Walking}
use Rattle.groups.proofs.walk.Given as goal

abbrev pub invariant-loop-start : goal.invariant-loop-start
invariant-loop-start l = Walking (lookup l.mates l.near) (lookup l.mates l.far) l.start (favour_numbers l.initial.favoured) l.p l.steps (favour_numbers l.favoured)

abbrev pub decreases-loop-start : goal.decreases-loop-start
decreases-loop-start l = favouring 0 (favour_numbers l.favoured)
