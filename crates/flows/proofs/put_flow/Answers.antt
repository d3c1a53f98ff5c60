use Rattle.flows.proofs.Puts.{put_four}
use Rattle.std.proofs.Common.{rules}
use Rattle.flows.proofs.put_flow.Goals as goal

pub returns : goal.returns
returns c = search (rules, put_four)
