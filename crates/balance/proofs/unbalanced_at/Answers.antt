use Rattle.std.proofs.Common.{rules, ◌≡◌, ◌+◌, ◌*◌}
use mathlib.Core.Path.{sym, ◌∙◌}
use mathlib.Core.Bool.{◌||◌}
use lib.ListN.{take}
use Rattle.rules.specs.Frames.{run_of}
use Rattle.tally.specs.Tally.{tally_of}
use Rattle.balance.specs.Balance.{any_far}
use Rattle.balance.proofs.Far.{or_then, or_else, some_tell, last_tell}
use Rattle.balance.proofs.unbalanced_at.Goals as goal
use Rattle.balance.proofs.unbalanced_at.Goals.{then-any_apart, else-any_apart, then-any_apart-2, else-any_apart-2, then-any_apart-3, else-any_apart-3}

pub returns-then-any_apart-4 : goal.returns-then-any_apart-4
returns-then-any_apart-4 c =
    let front = c.tally_run.new.tally in
    let back = c.tally_run-2.new.tally in
    let ports = c.args.frame.now.frame.of.ports in
    let n = c.flows-flows.result in
    let list = c.args.frame.now.frame.of.list.now in
    let entries = c.args.frame.now.frame.entries.now in
    let front_is : front ≡ tally_of list (run_of ports c.args.start c.args.half entries) = search rules in
    let back_is : back ≡ tally_of list (run_of ports (c.args.start + c.args.half) c.args.half entries) = search rules in
    let first : c.any_apart.result ≡ any_far (take n front.flows) (take n back.flows) = search rules in
    let two : c.if-any_apart.value ≡ (any_far (take n front.flows) (take n back.flows) || any_far (take ports front.inputs) (take ports back.inputs)) =
    elim c.if-any_apart.branch [
      | then-any_apart w ↦ or_then _ (w.value-is ∙ w.if-any_apart.true) (sym first ∙ w.if-any_apart.true)
      | else-any_apart w ↦ or_else w.value-is (sym first ∙ w.if-any_apart.false) (search rules)
    ] in
    let three : c.if-any_apart-2.value ≡ (c.if-any_apart.value || any_far (take ports front.outputs) (take ports back.outputs)) =
    elim c.if-any_apart-2.branch [
      | then-any_apart-2 w ↦ or_then _ (w.value-is ∙ w.if-any_apart-2.true) w.if-any_apart-2.true
      | else-any_apart-2 w ↦ or_else w.value-is w.if-any_apart-2.false (search rules)
    ] in
    let four : c.if-any_apart-3.value ≡ (c.if-any_apart-2.value || any_far (take (ports * 4) front.links) (take (ports * 4) back.links)) =
    elim c.if-any_apart-3.branch [
      | then-any_apart-3 w ↦ or_then _ (w.value-is ∙ w.if-any_apart-3.true) w.if-any_apart-3.true
      | else-any_apart-3 w ↦ or_else w.value-is w.if-any_apart-3.false (search rules)
    ] in
    some_tell ports c.args.start c.args.half entries c.args.frame.now.frame.of.fits front_is back_is n c.flows-flows.ensures two three four c.if-any_apart-4.true

pub returns-else-any_apart-4 : goal.returns-else-any_apart-4
returns-else-any_apart-4 c =
    let front = c.tally_run.new.tally in
    let back = c.tally_run-2.new.tally in
    let ports = c.args.frame.now.frame.of.ports in
    let n = c.flows-flows.result in
    let list = c.args.frame.now.frame.of.list.now in
    let entries = c.args.frame.now.frame.entries.now in
    let front_is : front ≡ tally_of list (run_of ports c.args.start c.args.half entries) = search rules in
    let back_is : back ≡ tally_of list (run_of ports (c.args.start + c.args.half) c.args.half entries) = search rules in
    let first : c.any_apart.result ≡ any_far (take n front.flows) (take n back.flows) = search rules in
    let two : c.if-any_apart.value ≡ (any_far (take n front.flows) (take n back.flows) || any_far (take ports front.inputs) (take ports back.inputs)) =
    elim c.if-any_apart.branch [
      | then-any_apart w ↦ or_then _ (w.value-is ∙ w.if-any_apart.true) (sym first ∙ w.if-any_apart.true)
      | else-any_apart w ↦ or_else w.value-is (sym first ∙ w.if-any_apart.false) (search rules)
    ] in
    let three : c.if-any_apart-2.value ≡ (c.if-any_apart.value || any_far (take ports front.outputs) (take ports back.outputs)) =
    elim c.if-any_apart-2.branch [
      | then-any_apart-2 w ↦ or_then _ (w.value-is ∙ w.if-any_apart-2.true) w.if-any_apart-2.true
      | else-any_apart-2 w ↦ or_else w.value-is w.if-any_apart-2.false (search rules)
    ] in
    let four : c.if-any_apart-3.value ≡ (c.if-any_apart-2.value || any_far (take (ports * 4) front.links) (take (ports * 4) back.links)) =
    elim c.if-any_apart-3.branch [
      | then-any_apart-3 w ↦ or_then _ (w.value-is ∙ w.if-any_apart-3.true) w.if-any_apart-3.true
      | else-any_apart-3 w ↦ or_else w.value-is w.if-any_apart-3.false (search rules)
    ] in
    last_tell ports c.args.start c.args.half entries c.args.frame.now.frame.of.fits front_is back_is n c.flows-flows.ensures two three four c.if-any_apart-4.false (search rules)
