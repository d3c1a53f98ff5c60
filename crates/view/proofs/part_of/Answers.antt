use Rattle.std.proofs.Common.{rules}
use Rattle.view.proofs.Checks.{number_shut, start_shut, size_shut, number_open, start_open, size_open, slot_from_one, start_fits}
use Rattle.view.proofs.part_of.Goals as goal

pub returns-in_err-check_slot-clause-number : goal.returns-in_err-check_slot-clause-number
returns-in_err-check_slot-clause-number c = search (rules, number_shut)

pub returns-in_err-check_slot-clause-start : goal.returns-in_err-check_slot-clause-start
returns-in_err-check_slot-clause-start c = let shut = start_shut c.args.ports c.args.slots c.args.frame.now c.args.slot c.in_err-check_slot.field-0.0 c.in_err-check_slot.ensures in search rules

pub returns-in_err-check_slot-clause-size : goal.returns-in_err-check_slot-clause-size
returns-in_err-check_slot-clause-size c = let shut = size_shut c.args.ports c.args.slots c.args.frame.now c.args.slot c.in_err-check_slot.field-0.0 c.in_err-check_slot.ensures in search rules

pub overflow_sub-result : goal.overflow_sub-result
overflow_sub-result c = search (rules, slot_from_one)

pub overflow_mul-result : goal.overflow_mul-result
overflow_mul-result c = search (rules, start_fits)

pub returns-clause-number : goal.returns-clause-number
returns-clause-number c = search (rules, number_open)

pub returns-clause-start : goal.returns-clause-start
returns-clause-start c = search (rules, start_open)

pub returns-clause-size : goal.returns-clause-size
returns-clause-size c = search (rules, size_open)
