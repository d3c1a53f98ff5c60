use Rattle.std.proofs.Common.{rules, sym, ◌∙◌}
use Rattle.admission.proofs.Deciding.{ports_refused, link_past, none_past}
use Rattle.admission.proofs.overload.Goals as goal

pub returns-in_err-port_overload : goal.returns-in_err-port_overload
returns-in_err-port_overload c =
    let refused = ports_refused c.args.slots c.args.loads.now c.args.limits c.in_err-port_overload.field-0.0 c.in_err-port_overload.ensures in search rules

pub returns-in-Some : goal.returns-in-Some
returns-in-Some c =
    let past = link_past c.args.slots c.args.loads.now c.args.limits c.in_ok-port_overload.ensures c.in-Some.ensures.first in search rules

pub returns : goal.returns
returns c = none_past c.args.slots c.args.loads.now c.args.limits c.in_ok-port_overload.ensures (sym c.in_default.is ∙ c.lowest_past.ensures.first)
