use Rattle.std.proofs.Common.{rules}
use Rattle.checks.proofs.Listed.{list_fits}
use Rattle.checks.proofs.reservations.check_list.Goals as goal

pub invariant_of-result : goal.invariant_of-result
invariant_of-result c = record { fits = list_fits {slots = c.args.slots} (search rules) }
