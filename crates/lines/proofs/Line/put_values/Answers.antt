use Rattle.std.proofs.Common.{rules, ap, drop, inl, inr}
use Rattle.calls.specs.Refusals.{refusal}
use Rattle.lines.proofs.Refused.{port_printed, link_printed}
use Rattle.lines.proofs.Line.put_values.Goals as goal

pub returns-in-LinkLoad-clause-printed : goal.returns-in-LinkLoad-clause-printed
returns-in-LinkLoad-clause-printed c =
    link_printed _ _ _ (ap (λ r. drop 1 (refusal r)) c.in-LinkLoad.is) (search rules) c.put_value-in-LinkLoad.ensures.printed c.put_value-in-LinkLoad-2.ensures.printed

pub returns-in-InputLoad-clause-printed : goal.returns-in-InputLoad-clause-printed
returns-in-InputLoad-clause-printed c =
    port_printed c.in-InputLoad.port c.in-InputLoad.cells
    (elim c.in-InputLoad.is [ inl e ↦ ap (λ r. drop 1 (refusal r)) e | inr e ↦ ap (λ r. drop 1 (refusal r)) e ])
    (search rules) c.put_value-in-InputLoad-2.ensures.printed
