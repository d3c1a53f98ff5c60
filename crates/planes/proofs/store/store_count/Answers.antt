use Rattle.std.proofs.Common.{rules}
use mathlib.Core.Path.{◌≡◌}
use Rattle.planes.proofs.Stored.{both_stored}
use Rattle.planes.proofs.store.store_count.Goals as goal

pub returns : goal.returns
returns c = let same : c.from-x.result ≡ c.args.count = search rules in rw (← same) (both_stored _ _ c.store_two.ensures c.store_ones.ensures)
