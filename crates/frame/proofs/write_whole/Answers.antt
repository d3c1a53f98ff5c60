use Rattle.std.proofs.Common.{rules}
use Rattle.std.proofs.lemmas.List.{take_rest}
use Rattle.frame.proofs.Moves.{appends_more, rest_more}
use Rattle.frame.proofs.write_whole.Goals as goal

pub loop-rest-preserved : goal.loop-rest-preserved
loop-rest-preserved g c =
    let x = rest_more _ _ c.in_ok-n.n _ c.loop-rest.invariant.of (search rules) (take_rest c.loop-rest.rest.now c.in_ok-n.n) in
    record { of = x.0; put = appends_more _ _ _ _ _ _ c.loop-rest.invariant.put c.in_ok-n.ensures.bytes x.1 }
