use mathlib.Core.Path.{sym, ap, ◌∙◌}
use Rattle.std.proofs.Common.{rules, ℕ, eqb}
use Rattle.std.proofs.lemmas.Iterator.{YieldsList-from_slice, YieldsList-from_map}
use Rattle.std.proofs.lemmas.Iterator.Consumers.{sum_by_from_yields_List}
use borrow.Author.Tests.{tests}
use Rattle.rules.specs.Words.{bit}
use Rattle.rules.specs.Frames.{cells_on, run_of}
use Rattle.rules.proofs.Cases.{within_true}
use Rattle.calls.specs.Sides.{side_of}
use Rattle.calls.specs.Service.{class_of, who_within}
use Rattle.service.proofs.Counted.{flow_counted}
use Rattle.service.proofs.Asked.inside.Goals as goal

pub returns-in-Flow : goal.returns-in-Flow
returns-in-Flow c =
    let asked = c.args.self.now in
    let frame = asked.frame.now in
    let f = c.in-Flow.flow in
    let same : ℕ → ℕ = λ e. bit (eqb e f) in
    let low = within_true 1 _ f (sym (ap (who_within frame.of.ports frame.of.list.now) c.in-Flow.is) ∙ asked.within) in
    sum_by_from_yields_List same _ _ _ c.sum.ensures.ran
    (YieldsList-from_map _ same (YieldsList-from_slice c.entries_in.result.now cc) c.map.ensures.closure (λ x r q k. search (rules, tests)))
    ∙ flow_counted (side_of asked.side) _ _ f low.0 low.1 c.entries_in.result.now
    ∙ ap (cells_on _ _ _ _) c.entries_in.ensures.entries
    ∙ ap (λ who. cells_on (side_of asked.side) frame.of.ports frame.of.list.now (class_of who) (run_of frame.of.ports c.args.run.start c.args.run.len frame.entries.now)) (sym c.in-Flow.is)
