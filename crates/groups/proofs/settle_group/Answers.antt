use Rattle.std.proofs.Common.{rules}
use Prim.Native.Nat.{◌+◌, ◌%◌}
use mathlib.Core.Path.{◌≡◌, ◌∙◌, sym, ap}
use mathlib.Core.Logic.{◌≢◌}
use native.Mathlib.Omega.{arith}
use borrow.Author.Tests.{tests}
use denote.Enum.Bare.{same_true}
use Rattle.planes.specs.contracts.favours.Favour as contract
use Rattle.planes.specs.Favours.{favour_number}
use Rattle.planes.specs.declared.favours.Favour.TheVariants.{First, Second}
use Rattle.planes.proofs.Halves.{numbers_length, numbers_set, settled_yes, settled_no, favour_same}
use Rattle.groups.proofs.Settled.{group_off, group_even, group_right, group_flipped}
use Rattle.groups.proofs.settle_group.Goals as goal

pub bounds-favoured-p : goal.bounds-favoured-p
bounds-favoured-p c = c.requires.0.by_inputs.low 0

pub returns-then-is_settled : goal.returns-then-is_settled
returns-then-is_settled c =
    let wide = numbers_length c.args.favoured.now ∙ c.told-favoured in
    group_off _ _ wide c.requires.1 (settled_yes c.args.favoured.now wide c.args.p (c.requires.0.by_inputs.low 0) _ c.is_settled.ensures c.if-is_settled.true)

pub bounds-favoured-p-2 : goal.bounds-favoured-p-2
bounds-favoured-p-2 c = c.requires.0.by_inputs.low 0

pub returns-then-by_inputs-by_links-eq1 : goal.returns-then-by_inputs-by_links-eq1
returns-then-by_inputs-by_links-eq1 c =
    let wide = numbers_length c.args.favoured.now ∙ c.told-favoured in
    let z = settled_no c.args.favoured.now wide c.args.p (c.requires.0.by_inputs.low 0) _ c.is_settled.ensures c.if-is_settled.false in
    let first = rw (numbers_set c.args.favoured.now c.args.p First) at c.walk-by_inputs.ensures in
    let even : (c.walk-by_inputs.result + c.walk-by_links.result) % 2 ≡ 1 = omega (arith, c.if-by_inputs-by_links-eq1.true) in
    search (rules, group_even _ _ wide c.requires.1 z c.requires.0.by_inputs c.requires.0.by_links first)

pub returns-then-eq : goal.returns-then-eq
returns-then-eq c =
    let wide = numbers_length c.args.favoured.now ∙ c.told-favoured in
    let z = settled_no c.args.favoured.now wide c.args.p (c.requires.0.by_inputs.low 0) _ c.is_settled.ensures c.if-is_settled.false in
    let first = rw (numbers_set c.args.favoured.now c.args.p First) at c.walk-by_inputs.ensures in
    let odd : (c.walk-by_inputs.result + c.walk-by_links.result) % 2 ≢ 1 = search rules in
    let same : c.larger_half.result ≡ c.args.next = same_true contract.the_type tt _ _ (sym c.eq.ensures ∙ c.if-eq.true) in
    group_right _ _ wide c.requires.1 z c.requires.0.by_inputs c.requires.0.by_links first c.walk-by_links.ensures odd
    c.larger_half.ensures (ap favour_number same) c.other.ensures

pub bounds-favoured-p-3 : goal.bounds-favoured-p-3
bounds-favoured-p-3 c = c.requires.0.by_inputs.low 0

pub returns : goal.returns
returns c =
    let wide = numbers_length c.args.favoured.now ∙ c.told-favoured in
    let z = settled_no c.args.favoured.now wide c.args.p (c.requires.0.by_inputs.low 0) _ c.is_settled.ensures c.if-is_settled.false in
    let first = rw (numbers_set c.args.favoured.now c.args.p First) at c.walk-by_inputs.ensures in
    let odd : (c.walk-by_inputs.result + c.walk-by_links.result) % 2 ≢ 1 = search rules in
    let differ : c.larger_half.result ≢ c.args.next = search (rules, tests) in
    let flipped = rw (numbers_set c.walk-by_links.new.favoured c.args.p Second) at c.flip_walk.ensures in
    group_flipped _ _ wide c.requires.1 z c.requires.0.by_inputs c.requires.0.by_links first c.walk-by_links.ensures odd
    c.larger_half.ensures (λ e. differ (favour_same _ _ e)) c.other-2.ensures flipped c.flip_walk-2.ensures
