use Rattle.std.proofs.Common.{rules}
use Rattle.depth.proofs.Asked.{flow_load}
use Rattle.depth.proofs.load_of.Goals as goal

pub returns-in-Flow : goal.returns-in-Flow
returns-in-Flow c = search (rules, flow_load)
