use native.Mathlib.Omega.{arith}
use Rattle.entries.proofs.Read.{frame_start, frame_on, frame_end}
use Rattle.entries.proofs.usable.words_clash.Goals as goal

pub loop-slot-init : goal.loop-slot-init
loop-slot-init c = frame_start _ _ _ _

pub loop-slot-preserved : goal.loop-slot-preserved
loop-slot-preserved c = frame_on c.loop-slot.invariant c.loop-slot-test.true c.slot_clashes.ensures c.if-slot_clashes.false

pub returns : goal.returns
returns c = frame_end c.loop-slot.invariant (omega (arith, c.loop-slot-test.false)) c.any_astray.ensures
