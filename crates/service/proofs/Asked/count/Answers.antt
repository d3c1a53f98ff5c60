use mathlib.Core.Path.{◌≡◌, ◌∙◌}
use native.Mathlib.Omega.{arith}
use Rattle.std.proofs.Common.{rules}
use mir.Syntax.{w64}
use mir.Val.{to_z, of_z}
use Rattle.checks.proofs.Fits.{slots_within}
use Rattle.checks.proofs.Framed.{frame_fits}
use Rattle.service.proofs.Turns.{whole_counted, whole_fits, run_fits, lead_counted}
use Rattle.service.proofs.Asked.count.Goals as goal

pub repeated-cells-requires : goal.repeated-cells-requires
repeated-cells-requires c = let frame = c.args.self.now.frame.now in (c.requires.0, c.requires.1, whole_counted _ _ _ _ _ _ frame.size c.inside-whole.ensures)

pub lead_of-requires : goal.lead_of-requires
lead_of-requires c =
    let frame = c.args.self.now.frame.now in
    let fits = frame_fits frame.of.fits frame.power frame.size in
    let run = run_fits fits _ _ _ _ c.requires.1 c.repeated-cells.ensures in
    let whole = whole_fits fits _ _ _ (whole_counted _ _ _ _ _ _ frame.size c.inside-whole.ensures) in
    ((slots_within fits).1, run, c.requires.1, omega (arith, whole))

pub returns-clause-lead : goal.returns-clause-lead
returns-clause-lead c =
    let frame = c.args.self.now.frame.now in
    let kept : to_z w64 (of_z w64 c.lead_of.result) ≡ c.lead_of.result = search rules in
    kept ∙ c.lead_of.ensures ∙ search (rules, lead_counted, whole_counted)
