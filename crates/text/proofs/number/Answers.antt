use Rattle.std.proofs.Common.{rules, refl}
use Rattle.text.proofs.Numbers.{number_none, number_zero, number_start, number_more, number_over, number_end}
use Rattle.text.proofs.number.Goals as goal

pub returns-in_err-read : goal.returns-in_err-read
returns-in_err-read c = search (rules, number_none)

pub returns-then-leading_zero : goal.returns-then-leading_zero
returns-then-leading_zero c = number_zero _ _ _ _ c.requires c.in_ok-read.ensures c.if-leading_zero.true

pub loop-d-init : goal.loop-d-init
loop-d-init c = number_start _ _ _ _ c.requires c.in_ok-read.ensures c.if-leading_zero.false

pub returns-then-most-value : goal.returns-then-most-value
returns-then-most-value c = number_over _ _ _ _ _ _ _ c.loop-d.invariant c.in-Some.ensures refl c.if-most-value.true

pub loop-d-preserved : goal.loop-d-preserved
loop-d-preserved c = number_more _ _ _ _ _ _ _ c.loop-d.invariant c.in-Some.ensures refl c.if-most-value.false

pub returns : goal.returns
returns c = number_end _ _ _ _ c.loop-d.invariant c.in_default.ensures
