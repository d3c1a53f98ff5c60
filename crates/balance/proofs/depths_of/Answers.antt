use Rattle.balance.proofs.Blocks.{depths}
use Rattle.balance.proofs.depths_of.Goals as goal

pub returns : goal.returns
returns c = depths c.requires c.ilog2.ensures.power_le c.ilog2.ensures.next_power_gt
