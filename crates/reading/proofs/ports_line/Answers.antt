use Rattle.std.proofs.Common.{rules}
use Rattle.reading.proofs.Lines.{ports_form, ports_out, ports_in}
use Rattle.reading.proofs.ports_line.Goals as goal

pub returns-in_err-read : goal.returns-in_err-read
returns-in_err-read c = ports_form _ _ c.one_number.ensures _ c.in_err-read.ensures.ok_part (search rules)

pub returns-then-outside : goal.returns-then-outside
returns-then-outside c = ports_out _ _ c.one_number.ensures _ c.in_ok-read.ensures.ok_part _ c.outside.ensures c.if-outside.true

pub returns : goal.returns
returns c = ports_in _ _ c.one_number.ensures _ c.in_ok-read.ensures.ok_part _ c.outside.ensures c.if-outside.false
