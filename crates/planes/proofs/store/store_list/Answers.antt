use Rattle.std.proofs.Common.{rules}
use Rattle.planes.proofs.Stored.{loading_start, loading_end}
use Rattle.planes.proofs.store.store_list.Goals as goal

pub loop-f-init : goal.loop-f-init
loop-f-init c = search (rules, loading_start)

pub returns : goal.returns
returns c = search (rules, loading_end)
