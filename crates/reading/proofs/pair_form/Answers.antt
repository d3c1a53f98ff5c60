use Rattle.std.proofs.Common.{rules}
use Rattle.reading.proofs.Pairs.{form_none, form_first, form_second, form_third, form_end, form_yes}
use Rattle.reading.proofs.pair_form.Goals as goal

pub returns-in_err-input : goal.returns-in_err-input
returns-in_err-input c = form_none _ _ (search rules) (form_first _ (search rules))

pub returns-in_err-output : goal.returns-in_err-output
returns-in_err-output c = form_none _ _ (search rules) (form_second _ _ _ c.in_ok-input.ensures (search rules))

pub returns-in_err-cells : goal.returns-in_err-cells
returns-in_err-cells c =
    form_none _ _ (search rules) (form_third _ _ _ c.in_ok-input.ensures _ _ c.in_ok-output.ensures (search rules))

pub returns-in_err-rest : goal.returns-in_err-rest
returns-in_err-rest c =
    form_none _ _ (search rules)
    (form_end _ _ _ c.in_ok-input.ensures _ _ c.in_ok-output.ensures _ _ c.in_ok-cells.ensures
    c.in_err-rest.ensures.cases)

pub returns : goal.returns
returns c =
    form_yes _ _ _ c.in_ok-input.ensures _ _ c.in_ok-output.ensures _ _ c.in_ok-cells.ensures
    _ c.in_ok-rest.ensures.cases
