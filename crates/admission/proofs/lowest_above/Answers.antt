use Rattle.std.proofs.Common.{rules, ltb}
use borrow.Author.Tests.{tests}
use Rattle.rules.proofs.Ranges.{found_below}
use Rattle.admission.specs.Overloads.{value_at}
use Rattle.admission.proofs.Deciding.{found_low}
use Rattle.admission.proofs.lowest_above.Goals as goal

pub returns-clause-first : goal.returns-clause-first
returns-clause-first c = found_below (λ port. ltb c.args.slots (value_at c.args.loads.now port)) _ _ _ _ c.find.ensures.ran (λ x b q k. search (rules, tests)) 16 (cc)

pub returns-clause-low : goal.returns-clause-low
returns-clause-low c = found_low (λ port. ltb c.args.slots (value_at c.args.loads.now port)) 16 _ (returns-clause-first c)
