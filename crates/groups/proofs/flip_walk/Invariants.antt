use Prim.Native.Nat.{◌≤◌, ◌<◌}
use Rattle.planes.specs.Tables.{lookup}
use Rattle.planes.specs.Favours.{favour_number, favour_numbers}
use Rattle.groups.proofs.Walked.{Flipping}
use Rattle.groups.proofs.flip_walk.Given as goal

abbrev pub invariant-loop : goal.invariant-loop
invariant-loop l =
    (l.near ≤ 528) × (l.far ≤ 528) × (l.p < 528)
    × Flipping (lookup l.mates l.initial.near) (lookup l.mates l.initial.far) l.start l.counter (favour_numbers l.initial.favoured) (favour_numbers l.favoured) l.p (favour_number l.half)
    (lookup l.mates l.near) (lookup l.mates l.far)
