use mathlib.Core.Path.{ap, ◌∙◌}
use native.Mathlib.Omega.{arith}
use Rattle.std.proofs.Common.{rules, ℕ, ◌+◌, Bool, eqb, not, get_or}
use Rattle.std.specs.List.{range_with_len}
use Rattle.std.proofs.lemmas.Iterator.{YieldsList-from_range, YieldsList-from_slice, YieldsList-from_map, serves_from_Range}
use Rattle.std.proofs.lemmas.Iterator.Consumers.{sum_by_from_yields_List, fits_by_from_yields_list}
use borrow.Author.Tests.{tests}
use Rattle.rules.specs.Words.{bit}
use Rattle.rules.specs.Flows.{port_on}
use Rattle.rules.specs.Frames.{is_flow_of, cells_on, run_of}
use Rattle.calls.specs.Sides.{side_of}
use Rattle.checks.proofs.Fits.{slots_within}
use Rattle.checks.proofs.Framed.{frame_fits}
use Rattle.service.proofs.Counted.{few_pass, own_counted, other_counted, sides_same, sides_apart}
use Rattle.service.proofs.port_cells.Goals as goal

pub sum-requires-clause-can : goal.sum-requires-clause-can
sum-requires-clause-can c = (tt, serves_from_Range (λ x q k. search (rules, tests)) (λ x low high. search rules))

pub sum-requires-clause-fits : goal.sum-requires-clause-fits
sum-requires-clause-fits c =
    let frame = c.args.frame.now in
    let run = c.args.run in
    let busy : ℕ → Bool = λ s. not (eqb (get_or (run_of frame.of.ports s 1 frame.entries.now) c.args.port 0) 0) in
    let slots = slots_within (frame_fits frame.of.fits frame.power frame.size) in
    fits_by_from_yields_list (λ s. bit (busy s)) (range_with_len run.start run.len) _ _
    (YieldsList-from_map _ (λ s. bit (busy s)) (YieldsList-from_range run.start (run.start + run.len) run.len c.map.ensures.source (omega arith)) c.map.ensures.closure (λ x r q k. search (rules, tests)))
    (omega (arith, few_pass busy run.start run.len, c.requires.0, slots.1))

pub returns-then-eq : goal.returns-then-eq
returns-then-eq c =
    let frame = c.args.frame.now in
    let run = c.args.run in
    let busy : ℕ → ℕ = λ s. bit (not (eqb (get_or (run_of frame.of.ports s 1 frame.entries.now) c.args.port 0) 0)) in
    sum_by_from_yields_List busy (range_with_len run.start run.len) _ _ c.sum.ensures.ran
    (YieldsList-from_map _ busy (YieldsList-from_range run.start (run.start + run.len) run.len c.map.ensures.source (omega arith)) c.map.ensures.closure (λ x r q k. search (rules, tests)))
    ∙ own_counted (side_of c.args.side) _ frame.of.list.now _ _ frame.size _ _ _ c.requires.0 c.requires.1
    ∙ ap (λ side. cells_on (side_of c.args.side) frame.of.ports frame.of.list.now (port_on side c.args.port) (run_of frame.of.ports run.start run.len frame.entries.now)) (sides_same _ _ c.eq.ensures c.if-eq.true)

pub returns : goal.returns
returns c =
    let frame = c.args.frame.now in
    let counts : ℕ → ℕ = λ e. bit (is_flow_of (port_on (side_of c.args.of) c.args.port) frame.of.list.now e) in
    sum_by_from_yields_List counts c.entries_in.result.now _ _ c.sum-2.ensures.ran
    (YieldsList-from_map _ counts (YieldsList-from_slice c.entries_in.result.now cc) c.map-2.ensures.closure (λ x r q k. search (rules, tests)))
    ∙ other_counted (side_of c.args.side) _ _ _ _ (sides_apart _ _ c.eq.ensures c.if-eq.false) c.entries_in.result.now
    ∙ ap (cells_on _ _ _ _) c.entries_in.ensures.entries
