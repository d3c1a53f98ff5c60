use Rattle.std.proofs.Common.{rules, not}
use borrow.Author.Tests.{tests}
use Rattle.calls.specs.Refusals.{link_within}
use Rattle.rules.proofs.Ranges.{any_below}
use Rattle.checks.proofs.bad_link.Goals as goal

pub returns : goal.returns
returns c = any_below (λ f. not (link_within c.args.list.now f)) _ _ _ _ c.any.ensures.ran (λ x b q k. search (rules, tests)) _ (cc)
