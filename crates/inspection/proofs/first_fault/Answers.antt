use mathlib.Core.Path.{sym, ap, ◌∙◌}
use Rattle.calls.specs.Sides.{side_of}
use Rattle.checks.proofs.Framed.{frame_fits}
use Rattle.balance.specs.Balance.{block_numbers}
use Rattle.entries.proofs.Found.{right_flows}
use Rattle.inspection.proofs.Faults.{row_fits, flow_fits, wrong_entry_found, twice, wrong_count_found, last_fault}
use Rattle.inspection.proofs.first_fault.Goals as goal

pub overflow_add-result : goal.overflow_add-result
overflow_add-result c = let frame = c.args.frame.now in row_fits (frame_fits frame.of.fits frame.power frame.size) _ (sym c.in-Some.is ∙ c.first_wrong.ensures)

pub returns-in-Some : goal.returns-in-Some
returns-in-Some c = wrong_entry_found (side_of c.args.side) _ _ _ _ c.args.frame.now.size (sym c.in-Some.is ∙ c.first_wrong.ensures)

pub invariant_of-frame : goal.invariant_of-frame
invariant_of-frame c = record { each_flow = right_flows (side_of c.args.side) _ _ _ _ c.args.frame.now.size (sym c.in_default.is ∙ c.first_wrong.ensures) }

pub overflow_add-result-in-Some-first_twice : goal.overflow_add-result-in-Some-first_twice
overflow_add-result-in-Some-first_twice c =
    let frame = c.args.frame.now in row_fits (frame_fits frame.of.fits frame.power frame.size) _ (sym c.in-Some-first_twice.is ∙ c.first_twice.ensures)

pub returns-in-Some-first_twice : goal.returns-in-Some-first_twice
returns-in-Some-first_twice c =
    twice (side_of c.args.side) _ _ _ _ c.args.frame.now.size (sym c.in_default.is ∙ c.first_wrong.ensures) (sym c.in-Some-first_twice.is ∙ c.first_twice.ensures)

pub overflow_add-result-in-Some-first_wrong_count : goal.overflow_add-result-in-Some-first_wrong_count
overflow_add-result-in-Some-first_wrong_count c = flow_fits c.args.frame.now.of.fits _ (sym c.in-Some-first_wrong_count.is ∙ c.first_wrong_count.ensures)

pub returns-in-Some-first_wrong_count : goal.returns-in-Some-first_wrong_count
returns-in-Some-first_wrong_count c =
    wrong_count_found (side_of c.args.side) _ _ _ _ c.args.frame.now.size (sym c.in_default.is ∙ c.first_wrong.ensures) (sym c.in_default-first_twice.is ∙ c.first_twice.ensures)
    (sym c.in-Some-first_wrong_count.is ∙ c.first_wrong_count.ensures)

pub returns-in-Some-unbalanced_block : goal.returns-in-Some-unbalanced_block
returns-in-Some-unbalanced_block c =
    last_fault (side_of c.args.side) _ _ _ _ c.args.frame.now.size (sym c.in_default.is ∙ c.first_wrong.ensures) (sym c.in_default-first_twice.is ∙ c.first_twice.ensures)
    (sym c.in_default-first_wrong_count.is ∙ c.first_wrong_count.ensures) (sym (ap block_numbers c.in-Some-unbalanced_block.is) ∙ c.unbalanced_block.ensures)

pub returns-in-None : goal.returns-in-None
returns-in-None c =
    last_fault (side_of c.args.side) _ _ _ _ c.args.frame.now.size (sym c.in_default.is ∙ c.first_wrong.ensures) (sym c.in_default-first_twice.is ∙ c.first_twice.ensures)
    (sym c.in_default-first_wrong_count.is ∙ c.first_wrong_count.ensures) (sym (ap block_numbers c.in-None.is) ∙ c.unbalanced_block.ensures)
