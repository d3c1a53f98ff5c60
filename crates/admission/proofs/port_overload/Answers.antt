use Rattle.std.proofs.Common.{rules, sym, ◌∙◌}
use Rattle.admission.proofs.Deciding.{input_above, output_above, none_above}
use Rattle.admission.proofs.port_overload.Goals as goal

pub returns-in-Some : goal.returns-in-Some
returns-in-Some c = search (rules, input_above)

pub returns-in-Some-lowest_above : goal.returns-in-Some-lowest_above
returns-in-Some-lowest_above c =
    let above = output_above c.args.slots c.args.loads.now (sym c.in_default.is ∙ c.lowest_above.ensures.first) c.in-Some-lowest_above.ensures.first in search rules

pub returns : goal.returns
returns c = none_above c.args.slots c.args.loads.now (sym c.in_default.is ∙ c.lowest_above.ensures.first) (sym c.in_default-lowest_above.is ∙ c.lowest_above-2.ensures.first)
