use Rattle.std.proofs.Common.{rules, ◌≡◌, ◌/◌, ◌^◌, suc}
use borrow.Author.Tests.{tests}
use mathlib.Core.Path.{◌∙◌}
use Rattle.rules.specs.Words.{found}
use Rattle.calls.specs.Inspect.{unbalanced_number}
use Rattle.rules.proofs.Ranges.{found_below}
use Rattle.tally.specs.Tally.{flow_cells}
use Rattle.balance.proofs.Blocks.{blocks, none_at, some_at, slot_fits, number_fits}
use Rattle.balance.proofs.unbalanced_of.Goals as goal

pub returns-in_err-b : goal.returns-in_err-b
returns-in_err-b c =
    let of = c.args.frame.now.frame.of in
    let test = unbalanced_number (flow_cells of.list.now) of.ports of.list.now c.args.frame.now.frame.entries.now (of.slots / 2 ^ suc c.args.depth) in
    let told : c.find.result ≡ found test 0 (2 ^ c.args.depth) =
    found_below test _ _ _ _ c.find.ensures.ran (λ x b q k. search (rules, tests)) (2 ^ c.args.depth)
    (let count = blocks of.slots c.args.depth c.args.frame.now.frame.power c.requires in search (rules, count)) in
    c.from_residual.ensures ∙ none_at of.ports of.slots of.list.now c.args.frame.now.frame.entries.now c.args.depth told c.in_err-b.was

pub overflow_mul-result : goal.overflow_mul-result
overflow_mul-result c =
    let of = c.args.frame.now.frame.of in
    let test = unbalanced_number (flow_cells of.list.now) of.ports of.list.now c.args.frame.now.frame.entries.now (of.slots / 2 ^ suc c.args.depth) in
    let told : c.find.result ≡ found test 0 (2 ^ c.args.depth) =
    found_below test _ _ _ _ c.find.ensures.ran (λ x b q k. search (rules, tests)) (2 ^ c.args.depth)
    (let count = blocks of.slots c.args.depth c.args.frame.now.frame.power c.requires in search (rules, count)) in
    let low = (some_at of.ports of.slots of.list.now c.args.frame.now.frame.entries.now c.args.depth told c.in_ok-b.was).0 in
    slot_fits of.slots c.args.depth c.args.frame.now.frame.power c.requires low

pub overflow_add-result : goal.overflow_add-result
overflow_add-result c =
    let of = c.args.frame.now.frame.of in
    let test = unbalanced_number (flow_cells of.list.now) of.ports of.list.now c.args.frame.now.frame.entries.now (of.slots / 2 ^ suc c.args.depth) in
    let told : c.find.result ≡ found test 0 (2 ^ c.args.depth) =
    found_below test _ _ _ _ c.find.ensures.ran (λ x b q k. search (rules, tests)) (2 ^ c.args.depth)
    (let count = blocks of.slots c.args.depth c.args.frame.now.frame.power c.requires in search (rules, count)) in
    let low = (some_at of.ports of.slots of.list.now c.args.frame.now.frame.entries.now c.args.depth told c.in_ok-b.was).0 in
    number_fits of.slots c.args.depth c.args.frame.now.frame.power c.requires low

pub returns : goal.returns
returns c =
    let of = c.args.frame.now.frame.of in
    let test = unbalanced_number (flow_cells of.list.now) of.ports of.list.now c.args.frame.now.frame.entries.now (of.slots / 2 ^ suc c.args.depth) in
    let told : c.find.result ≡ found test 0 (2 ^ c.args.depth) =
    found_below test _ _ _ _ c.find.ensures.ran (λ x b q k. search (rules, tests)) (2 ^ c.args.depth)
    (let count = blocks of.slots c.args.depth c.args.frame.now.frame.power c.requires in search (rules, count)) in
    (some_at of.ports of.slots of.list.now c.args.frame.now.frame.entries.now c.args.depth told c.in_ok-b.was).1
