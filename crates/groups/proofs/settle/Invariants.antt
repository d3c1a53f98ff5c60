use lib.ListN.{take}
use Rattle.rules.specs.Flows.{inputs, links}
use Rattle.planes.specs.Tables.{tabled}
use Rattle.planes.specs.Favours.{favour_number, favour_numbers}
use Rattle.groups.specs.Steps.{Next, SettledBy}
use Rattle.groups.proofs.settle.Given as goal

abbrev pub invariant-loop-p : goal.invariant-loop-p
invariant-loop-p l =
    Next (favour_number l.next) (favour_numbers l.favoured)
    × SettledBy (tabled l.mates inputs) (tabled l.mates links) (take l.p-index l.odds) (favour_numbers l.initial.favoured) (favour_numbers l.favoured)
