use Rattle.std.proofs.Common.{rules}
use Rattle.idle.proofs.Found.{none_number, some_number}
use Rattle.idle.proofs.output_of.Goals as goal

pub returns-then-entry-eq0 : goal.returns-then-entry-eq0
returns-then-entry-eq0 c = search (rules, none_number)

pub returns : goal.returns
returns c = some_number _ c.if-entry-eq0.false c.from.ensures c.flow.ensures.output
