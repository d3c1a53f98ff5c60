use Rattle.std.proofs.Common.{rules}
use Rattle.view.proofs.Checks.{ports_refused, slots_refused, size_refused, slot_refused, none_refused}
use Rattle.view.proofs.check_slot.Goals as goal

pub returns-then-outside : goal.returns-then-outside
returns-then-outside c = search (rules, ports_refused)

pub returns-then-bad_slots : goal.returns-then-bad_slots
returns-then-bad_slots c = search (rules, slots_refused)

pub returns-then-bad_length : goal.returns-then-bad_length
returns-then-bad_length c = search (rules, size_refused)

pub returns-then-outside-2 : goal.returns-then-outside-2
returns-then-outside-2 c = search (rules, slot_refused)

pub returns : goal.returns
returns c = search (rules, none_refused)
