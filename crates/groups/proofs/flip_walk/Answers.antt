use Rattle.std.proofs.Common.{rules}
use mathlib.Core.Path.{◌≡◌, ◌∙◌, ap}
use native.Mathlib.Omega.{arith}
use Rattle.planes.specs.Tables.{lookup, first_place}
use Rattle.planes.specs.Favours.{favour_numbers}
use Rattle.planes.proofs.Halves.{numbers_set}
use Rattle.groups.proofs.Walked.{flipping_start, flipping_at, flipping_on, reaches_told, stepped_told}
use Rattle.groups.proofs.flip_walk.Goals as goal

pub loop-init : goal.loop-init
loop-init c = (c.first-near.ensures.1, c.first-far.ensures.1, c.requires.low 0, flipping_start _ _)

pub bounds-favoured-p : goal.bounds-favoured-p
bounds-favoured-p c =
    flipping_at c.loop.invariant.3 (search rules) (reaches_told c.args.mates.now c.first-near.ensures.0 (c.first-far.ensures.0 ∙ ap first_place c.other.ensures) c.requires)

pub loop-preserved : goal.loop-preserved
loop-preserved c =
    let q : c.from-p.result ≡ lookup c.args.mates.now c.loop.near c.loop.p = search rules in (
      c.loop.invariant.1,
      c.loop.invariant.0,
      flipping_at c.loop.invariant.3 q (reaches_told c.args.mates.now c.first-near.ensures.0 (c.first-far.ensures.0 ∙ ap first_place c.other.ensures) c.requires),
      rw (numbers_set c.loop.favoured c.from-p.result c.loop.half) (flipping_on c.loop.invariant.3 q c.other-half.ensures),
    )

pub returns : goal.returns
returns c =
    let end : c.loop.counter ≡ c.args.steps = omega (arith, c.loop-test.false, c.loop.auto.counter-end) in
    let same = c.loop.invariant.3.same in
    stepped_told c.args.mates.now c.first-near.ensures.0 (c.first-far.ensures.0 ∙ ap first_place c.other.ensures) c.args.start 2 c.args.steps (favour_numbers c.args.favoured.now) (rw end at same)
