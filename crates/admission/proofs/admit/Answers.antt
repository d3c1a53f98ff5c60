use Rattle.std.proofs.Common.{rules}
use Rattle.admission.proofs.Admitted.{admit_refused, admit_decided}
use Rattle.admission.proofs.admit.Goals as goal

pub returns-in_err-of : goal.returns-in_err-of
returns-in_err-of c = search (rules, admit_refused)

pub returns : goal.returns
returns c = let decides = admit_decided c.args.ports c.args.slots c.args.list.now c.args.limits c.in_ok-of.ensures.passed c.in_ok-of.ensures.clear c.add_loads.ensures c.overload.result in search (rules, decides)
