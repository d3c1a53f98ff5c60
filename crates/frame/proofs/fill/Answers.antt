use Rattle.std.proofs.Common.{rules, ◌-◌, length}
use Rattle.frame.proofs.Moves.{consumes_more, front_of_part}
use Rattle.frame.proofs.fill.Goals as goal

pub loop-at-preserved : goal.loop-at-preserved
loop-at-preserved g c = record {
  size = search rules;
  within = search rules;
  got = consumes_more _ _ _ _ _ _ c.loop-at.invariant.got c.in_ok-n.ensures.bytes.0
      (front_of_part c.loop-at.at (length c.loop-at.buffer - c.loop-at.at) c.in_ok-n.n c.loop-at.buffer c.read_some.new.part
      c.loop-at.invariant.within c.in_ok-n.ensures.bound.0);
}
