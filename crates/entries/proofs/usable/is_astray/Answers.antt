use Rattle.std.proofs.Common.{rules}
use Rattle.entries.proofs.Read.{astray_told}
use Rattle.entries.proofs.usable.is_astray.Goals as goal

pub returns : goal.returns
returns c = search (rules, astray_told)
