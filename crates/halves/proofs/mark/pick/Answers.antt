use Rattle.std.proofs.Common.{rules}
use native.Mathlib.Omega.{arith}
use mathlib.Core.Path.{◌≡◌}
use Rattle.halves.proofs.Marked.{picking_start, picking_zeros, picking_below, picking_on, picking_end}
use Rattle.halves.proofs.mark.pick.Goals as goal

pub loop-t-init : goal.loop-t-init
loop-t-init g c = let same : c.into_iter-t-iterator.result.word ≡ c.args.x = search rules in rw same (picking_start c.requires.1)

pub overflow_add-base : goal.overflow_add-base
overflow_add-base g c = omega (arith, picking_below c.loop-t.invariant _ c.in-Some.ensures.steps)

pub digit-requires : goal.digit-requires
digit-requires g c = picking_below c.loop-t.invariant _ c.in-Some.ensures.steps

pub put_digit-picked-requires : goal.put_digit-picked-requires
put_digit-picked-requires g c = (picking_zeros c.loop-t.invariant _ c.in-Some.ensures.steps, omega (arith, c.digit.ensures.1))

pub loop-t-preserved : goal.loop-t-preserved
loop-t-preserved g c =
    picking_on c.loop-t.invariant _ c.in-Some.ensures.steps (omega (arith, c.digit.ensures.0)) c.put_digit-picked.ensures

pub returns : goal.returns
returns g c = picking_end c.loop-t.invariant c.in-None.ensures.steps.0 (omega arith)
