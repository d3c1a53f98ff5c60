use Rattle.std.proofs.Common.{rules, arith, ◌≡◌, length, take}
use Rattle.frame.proofs.Moves.{takes_more}
use Rattle.frame.proofs.skip_rest.Goals as goal

pub loop-preserved : goal.loop-preserved
loop-preserved g c =
    let size : length c.read_some.new.part ≡ 4096 = search rules in
    let read = c.in_ok-read_some.ensures in
    takes_more _ _ _ _ 4096 _ c.loop.invariant
    (take c.in_ok-read_some.field-0 c.read_some.new.part, read.bytes.0, omega (arith, read.bound.0, read.bound.1))
    (omega arith)
