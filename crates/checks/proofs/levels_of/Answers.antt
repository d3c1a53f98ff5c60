use mathlib.Core.Path.{◌∙◌, sym}
use native.Mathlib.Omega.{arith}
use Rattle.std.proofs.Common.{rules}
use Rattle.checks.proofs.Searching.{shifted, level_some, level_none}
use Rattle.checks.proofs.levels_of.Goals as goal
use Rattle.checks.proofs.levels_of.Goals.{else-k-le10-via-then-k-le10+else-slots-k, else-k-le10-via-else-k-le10}

pub returns-then-slots-k : goal.returns-then-slots-k
returns-then-slots-k c = let level = level_some _ _ (c.if-slots-k.true ∙ shifted _ c.if-k-le10.true) c.if-k-le10.true in search rules

pub returns : goal.returns
returns c =
    level_none _ _ c.ilog2-k.ensures.power_le c.ilog2-k.ensures.next_power_gt
    (λ e h. elim c.else-k-le10.branch [ else-k-le10-via-then-k-le10+else-slots-k w ↦ w.if-slots-k.false (e ∙ sym (shifted _ h)) | else-k-le10-via-else-k-le10 w ↦ absurd (omega (arith, h, w.if-k-le10.false)) ])
