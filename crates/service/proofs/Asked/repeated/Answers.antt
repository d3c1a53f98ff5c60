use native.Mathlib.Omega.{arith}
use Rattle.std.proofs.Common.{rules}
use Rattle.checks.proofs.Framed.{frame_fits}
use Rattle.service.proofs.Turns.{parts_run, run_fits}
use Rattle.service.proofs.Asked.repeated.Goals as goal

pub returns : goal.returns
returns c =
    let frame = c.args.self.now.frame.now in
    parts_run (frame_fits frame.of.fits frame.power frame.size) _ _ _ _ _ _ _ c.requires.0 c.min-head.ensures (search rules) c.requires.2 c.inside-before.ensures c.inside-after.ensures

pub overflow_mul-result : goal.overflow_mul-result
overflow_mul-result c = let frame = c.args.self.now.frame.now in omega (arith, run_fits (frame_fits frame.of.fits frame.power frame.size) _ _ _ _ c.requires.1 (returns c))

pub overflow_add-result : goal.overflow_add-result
overflow_add-result c = let frame = c.args.self.now.frame.now in omega (arith, run_fits (frame_fits frame.of.fits frame.power frame.size) _ _ _ _ c.requires.1 (returns c))

pub overflow_add-result-2 : goal.overflow_add-result-2
overflow_add-result-2 c = let frame = c.args.self.now.frame.now in omega (arith, run_fits (frame_fits frame.of.fits frame.power frame.size) _ _ _ _ c.requires.1 (returns c))
