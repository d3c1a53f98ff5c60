use Rattle.std.proofs.Common.{rules}
use borrow.Author.Tests.{tests}
use Rattle.rules.specs.Frames.{levels}
use Rattle.rules.proofs.Ranges.{mapped_below}
use Rattle.balance.specs.Balance.{block_at}
use Rattle.balance.proofs.Blocks.{first_block}
use Rattle.balance.proofs.unbalanced_block.Goals as goal

pub returns : goal.returns
returns c =
    let of = c.args.frame.now.frame.of in
    first_block of.ports of.slots of.list.now c.args.frame.now.frame.entries.now _
    (mapped_below (block_at of.ports of.slots of.list.now c.args.frame.now.frame.entries.now) _ _ _ c.find_map.ensures.runs (λ x b q k. search (rules, tests)) (levels of.slots) (search rules))
