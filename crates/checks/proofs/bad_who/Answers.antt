use Rattle.std.proofs.Common.{rules}
use Rattle.checks.proofs.Whom.{flow_alone, input_alone, output_alone}
use Rattle.checks.proofs.bad_who.Goals as goal

pub returns-in-Flow : goal.returns-in-Flow
returns-in-Flow c = search (rules, flow_alone)

pub returns-in-Input : goal.returns-in-Input
returns-in-Input c = search (rules, input_alone)

pub returns-in-Output : goal.returns-in-Output
returns-in-Output c = search (rules, output_alone)
