use Rattle.tally.specs.Tally.{flow_cells}
use Rattle.balance.proofs.Blocks.{block_ends, number_told}
use Rattle.balance.proofs.block_unbalanced.Goals as goal

pub unbalanced_at-requires : goal.unbalanced_at-requires
unbalanced_at-requires c = block_ends _ c.args.depth c.args.frame.now.frame.power c.requires.0 c.requires.1

pub returns : goal.returns
returns c = number_told (flow_cells c.args.frame.now.frame.of.list.now) _ _ _ _ _ _ c.unbalanced_at.ensures
