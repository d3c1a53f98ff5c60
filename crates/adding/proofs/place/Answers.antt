use mathlib.Core.Path.{sym, ◌∙◌}
use Rattle.std.proofs.Common.{rules}
use Rattle.checks.proofs.Fits.{level_low}
use Rattle.adding.proofs.Placing.{found_under, slot_fits, usable_flows, put_flows, both_placed, input_full, output_full, two_placed}
use Rattle.adding.proofs.place.Goals as goal

pub invariant_of-now : goal.invariant_of-now
invariant_of-now c = let framed = (usable_flows c.requires.0).framed in record { power = level_low framed; size = framed.size }

pub invariant_of-now-2 : goal.invariant_of-now-2
invariant_of-now-2 c = record { each_flow = (usable_flows c.requires.0).each_flow }

pub put_cell-requires : goal.put_cell-requires
put_cell-requires c = (usable_flows c.requires.0, c.requires.1, found_under _ c.in-Some.ensures)

pub overflow_add-result : goal.overflow_add-result
overflow_add-result c = slot_fits _ (usable_flows c.requires.0).framed c.in-Some.ensures

pub returns-in-Some : goal.returns-in-Some
returns-in-Some c = record { placed = both_placed _ _ _ _ _ c.in-Some.ensures c.put_cell.ensures; other = search rules }

pub returns-in_default-lowest_input : goal.returns-in_default-lowest_input
returns-in_default-lowest_input c = record { placed = input_full _ _ _ _ _ (sym c.in_default-lowest_input.is ∙ c.lowest_input.ensures); other = search rules }

pub returns-in_default-lowest_output : goal.returns-in_default-lowest_output
returns-in_default-lowest_output c = record { placed = output_full _ _ _ _ _ c.in-Some-lowest_input.ensures (sym c.in_default-lowest_output.is ∙ c.lowest_output.ensures); other = search rules }

pub put_cell-requires-2 : goal.put_cell-requires-2
put_cell-requires-2 c = (usable_flows c.requires.0, c.requires.1, found_under _ c.in-Some-lowest_input.ensures)

pub exchange_slots-moved-requires : goal.exchange_slots-moved-requires
exchange_slots-moved-requires c = (
  put_flows _ _ _ _ _ _ c.requires.0 c.requires.1 c.put_cell-2.ensures,
  found_under _ c.in-Some-lowest_input.ensures,
  found_under _ c.in-Some-lowest_output.ensures,
  c.flow-f.ensures.low.0,
)

pub overflow_add-result-2 : goal.overflow_add-result-2
overflow_add-result-2 c = slot_fits _ (usable_flows c.requires.0).framed c.in-Some-lowest_input.ensures

pub overflow_add-result-3 : goal.overflow_add-result-3
overflow_add-result-3 c = slot_fits _ (usable_flows c.requires.0).framed c.in-Some-lowest_output.ensures

pub returns : goal.returns
returns c =
    record {
      placed = two_placed _ _ _ _ _ c.in-Some-lowest_input.ensures c.requires.0 c.requires.1 (sym c.in_default.is ∙ c.lowest_both.ensures) c.in-Some-lowest_output.ensures
          c.put_cell-2.ensures c.flow-f.ensures.input c.exchange_slots-moved.ensures;
      other = search rules;
    }
