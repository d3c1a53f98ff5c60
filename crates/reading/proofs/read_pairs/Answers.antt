use Rattle.std.proofs.Common.{rules, arith}
use Rattle.std.proofs.lemmas.Grind.{common_steps}
use Rattle.reading.proofs.Lines.{reached_on, reached_end}
use Rattle.reading.proofs.read_pairs.Goals as goal

pub loop-rest-preserved : goal.loop-rest-preserved
loop-rest-preserved c = reached_on _ _ _ _ _ _ _ _ _ _ c.loop-rest.invariant c.in-Ok.ensures _ (search rules)

pub returns : goal.returns
returns c = reached_end _ _ _ _ _ _ c.loop-rest.invariant (grind (arith, common_steps))
