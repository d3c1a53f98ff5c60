use Rattle.std.proofs.Common.{rules}
use Rattle.turning.proofs.Turning.{turned_on, turned_end, part_turnable, part_length}
use Rattle.turning.proofs.turn_frame.Goals as goal

pub turn_slot-requires : goal.turn_slot-requires
turn_slot-requires c = (search (rules, part_turnable), search (rules, part_length))

pub loop-s-preserved : goal.loop-s-preserved
loop-s-preserved c = search (rules, turned_on)

pub returns : goal.returns
returns c = search (rules, turned_end)
