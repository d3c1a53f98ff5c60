use Rattle.std.proofs.Common.{rules}
use Rattle.planes.proofs.Stored.{two_stored}
use Rattle.planes.proofs.store.store_two.Goals as goal

pub returns : goal.returns
returns c = search (rules, two_stored)
