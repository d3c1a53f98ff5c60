use Rattle.std.proofs.Common.{rules}
use Rattle.reading.proofs.Lines.{pair_form, pair_full, pair_input, pair_output, pair_in}
use Rattle.reading.proofs.pair_line.Goals as goal
use Rattle.reading.proofs.pair_line.Goals.{then-outside-via-then-outside, then-outside-via-else-outside+then-outside-2}

pub returns-in_err-pair : goal.returns-in_err-pair
returns-in_err-pair c = pair_form _ _ _ _ c.pair_form.ensures _ c.requires.some c.in_err-pair.ensures.ok_part (search rules)

pub returns-then-flows-ge512 : goal.returns-then-flows-ge512
returns-then-flows-ge512 c = pair_full _ _ _ _ c.pair_form.ensures _ c.in_ok-pair.ensures.ok_part c.if-flows-ge512.true

pub returns-then-outside : goal.returns-then-outside
returns-then-outside c =
    elim c.then-outside.branch [
      | then-outside-via-then-outside w ↦
          pair_input _ _ _ _ c.pair_form.ensures _ c.in_ok-pair.ensures.ok_part (search rules) _ c.outside.ensures w.if-outside.true
      | then-outside-via-else-outside+then-outside-2 w ↦
          pair_output _ _ _ _ c.pair_form.ensures _ c.in_ok-pair.ensures.ok_part (search rules) _ _
          c.outside.ensures w.if-outside.false (search rules) w.if-outside-2.true
    ]

pub returns : goal.returns
returns c =
    pair_in _ _ _ _ c.pair_form.ensures _ c.in_ok-pair.ensures.ok_part (search rules)
    _ _ c.outside.ensures c.if-outside.false (search rules) c.if-outside-2.false
