use Rattle.std.proofs.Common.{rules}
use mathlib.Core.Path.{◌∙◌, ap}
use native.Mathlib.Omega.{arith}
use Rattle.planes.specs.Tables.{first_place}
use Rattle.planes.proofs.Halves.{numbers_length}
use Rattle.groups.proofs.Walked.{walking_start, walking_at, walking_at_2_told, walking_stop_told, walking_stop_2_told, walking_on_told, walking_less_told, reaches_told, walks_told}
use Rattle.groups.proofs.walk.Goals as goal

pub loop-start-init : goal.loop-start-init
loop-start-init c =
    walking_start _ _ (reaches_told c.args.mates.now c.first-near.ensures.0 (c.first-far.ensures.0 ∙ ap first_place c.other.ensures) c.requires)
    (numbers_length c.args.favoured.now ∙ c.told-favoured)

pub bounds-favoured-q : goal.bounds-favoured-q
bounds-favoured-q c = walking_at c.loop-start.invariant c.from-q.ensures

pub returns-then-is_settled : goal.returns-then-is_settled
returns-then-is_settled c =
    walks_told c.args.mates.now c.first-near.ensures.0 (c.first-far.ensures.0 ∙ ap first_place c.other.ensures)
    (walking_stop_told c.loop-start.favoured c.loop-start.invariant c.from-q.ensures _ c.is_settled.ensures c.if-is_settled.true)

pub bounds-favoured-q-in-loop-start : goal.bounds-favoured-q-in-loop-start
bounds-favoured-q-in-loop-start c = walking_at c.loop-start.invariant c.from-q.ensures

pub bounds-mates-far : goal.bounds-mates-far
bounds-mates-far c = omega (arith, walking_at c.loop-start.invariant c.from-q.ensures, c.first-far.ensures.1)

pub bounds-favoured-p : goal.bounds-favoured-p
bounds-favoured-p c = walking_at_2_told c.loop-start.favoured c.loop-start.invariant c.from-q.ensures _ c.is_settled.ensures c.if-is_settled.false c.from-p.ensures

pub returns-then-is_settled-2 : goal.returns-then-is_settled-2
returns-then-is_settled-2 c =
    walks_told c.args.mates.now c.first-near.ensures.0 (c.first-far.ensures.0 ∙ ap first_place c.other.ensures)
    (search (rules, walking_stop_2_told c.loop-start.favoured c.loop-start.invariant c.from-q.ensures _ c.is_settled.ensures c.if-is_settled.false c.from-p.ensures _ c.is_settled-in-loop-start.ensures))

pub bounds-favoured-p-in-loop-start : goal.bounds-favoured-p-in-loop-start
bounds-favoured-p-in-loop-start c = walking_at_2_told c.loop-start.favoured c.loop-start.invariant c.from-q.ensures _ c.is_settled.ensures c.if-is_settled.false c.from-p.ensures

pub loop-start-smaller : goal.loop-start-smaller
loop-start-smaller c =
    walking_less_told c.loop-start.favoured c.loop-start.invariant c.from-q.ensures _ c.is_settled.ensures c.if-is_settled.false c.from-p.ensures _ c.is_settled-in-loop-start.ensures c.if-is_settled-2.false

pub loop-start-preserved : goal.loop-start-preserved
loop-start-preserved c = search (rules, walking_on_told c.loop-start.favoured c.loop-start.invariant c.from-q.ensures _ c.is_settled.ensures c.if-is_settled.false c.from-p.ensures)
