use Rattle.std.proofs.Common.{rules, arith, refl}
use Rattle.std.proofs.lemmas.List.{take_more_same}
use Rattle.text.proofs.Numbers.{word_passed}
use Rattle.text.proofs.behind.Goals as goal

pub loop-i-init : goal.loop-i-init
loop-i-init c = refl

pub loop-i-preserved : goal.loop-i-preserved
loop-i-preserved c = take_more_same _ _ _ 0 (omega (arith, c.loop-i-test.true, c.if-bytes-word.false)) c.loop-i-test.true c.loop-i.invariant c.if-bytes-i.false

pub returns : goal.returns
returns c = record { cases = word_passed _ _ _ c.loop-i-test.false c.loop-i.auto.i-end c.loop-i.invariant }
