use mathlib.Core.Path.{◌∙◌, sym, ap}
use Prim.Native.Nat.{◌<◌}
use native.Mathlib.Omega.{arith}
use lib.ListN.{get_or}
use Rattle.split.proofs.Joined.{after_one, joining_come, joining_stay, joining_end}
use Rattle.split.proofs.partners.mate_singles.Goals as goal
use Rattle.split.proofs.partners.mate_singles.Goals.{then-has_digit+in-Some, then-has_digit+in-None, else-has_digit}

pub loop-link-preserved : goal.loop-link-preserved
loop-link-preserved c =
    let p_lt : get_or c.args.latest.now c.loop-link.link 0 < 528 = c.requires.1.low _ (omega (arith, c.loop-link-test.true, c.requires.0)) in
    elim c.if-has_digit.branch [
      | then-has_digit+in-Some w ↦
          joining_come c.loop-link.invariant c.loop-link.auto.link c.has_digit.ensures w.if-has_digit.true p_lt w.unwrap_or.ensures (w.mates-is ∙ w.pair.ensures)
          (w.alone-is ∙ sym (ap (λ a. after_one a (get_or c.args.latest.now c.loop-link.link 0)) w.in-Some.is))
      | then-has_digit+in-None w ↦
          joining_come c.loop-link.invariant c.loop-link.auto.link c.has_digit.ensures w.if-has_digit.true p_lt w.unwrap_or.ensures (w.mates-is ∙ w.pair.ensures)
          (w.alone-is ∙ sym (ap (λ a. after_one a (get_or c.args.latest.now c.loop-link.link 0)) w.in-None.is))
      | else-has_digit w ↦ joining_stay c.loop-link.invariant c.loop-link.auto.link c.has_digit.ensures w.if-has_digit.false w.mates-is w.alone-is
    ]

pub returns : goal.returns
returns c = joining_end c.loop-link.invariant (omega arith)
