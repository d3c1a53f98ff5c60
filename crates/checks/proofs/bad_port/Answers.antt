use Rattle.std.proofs.Common.{rules, not}
use borrow.Author.Tests.{tests}
use Rattle.calls.specs.Refusals.{ports_within}
use Rattle.rules.proofs.Ranges.{any_below}
use Rattle.checks.proofs.bad_port.Goals as goal

pub returns : goal.returns
returns c = any_below (λ f. not (ports_within c.args.ports c.args.list.now f)) _ _ _ _ c.any.ensures.ran (λ x b q k. search (rules, tests)) _ (cc)
