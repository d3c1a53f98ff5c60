use Rattle.std.proofs.Common.{rules}
use Rattle.reading.proofs.Lines.{slots_form, slots_out, slots_in}
use Rattle.reading.proofs.slots_line.Goals as goal

pub returns-in_err-read : goal.returns-in_err-read
returns-in_err-read c = slots_form _ _ _ c.one_number.ensures _ c.in_err-read.ensures.ok_part (search rules)

pub returns-then-bad_slots : goal.returns-then-bad_slots
returns-then-bad_slots c = slots_out _ _ _ c.one_number.ensures _ c.in_ok-read.ensures.ok_part _ c.bad_slots.ensures c.if-bad_slots.true

pub returns : goal.returns
returns c = slots_in _ _ _ c.one_number.ensures _ c.in_ok-read.ensures.ok_part _ c.bad_slots.ensures c.if-bad_slots.false
