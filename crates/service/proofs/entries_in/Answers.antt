use Rattle.checks.proofs.Framed.{frame_fits}
use Rattle.service.proofs.Turns.{part_run, part_short, run_inside}
use Rattle.service.proofs.entries_in.Goals as goal

pub slice_bounds-result-end : goal.slice_bounds-result-end
slice_bounds-result-end c = let frame = c.args.frame.now in run_inside (frame_fits frame.of.fits frame.power frame.size) _ _ c.requires

pub returns-clause-entries : goal.returns-clause-entries
returns-clause-entries c = part_run _ _ _ _

pub returns-clause-few : goal.returns-clause-few
returns-clause-few c = let frame = c.args.frame.now in part_short (frame_fits frame.of.fits frame.power frame.size) _ _
