use Rattle.std.proofs.Common.{rules}
use mathlib.Core.Path.{refl}
use Rattle.checks.proofs.Framed.{of_flows}
use Rattle.entries.proofs.Found.{run_word, run_place}
use Rattle.entries.proofs.Read.{slot_start, slot_on}
use Rattle.entries.proofs.usable.slot_clashes.Goals as goal

pub loop-i-init : goal.loop-i-init
loop-i-init c = slot_start _ _ _ _ c.requires.2

pub bounds-words-from : goal.bounds-words-from
bounds-words-from c =
    let frame = c.args.frame.now in
    run_word (of_flows frame) c.requires.0 c.slot-entry-items.ensures.run c.loop-i-test.true c.from.ensures

pub loop-i-preserved : goal.loop-i-preserved
loop-i-preserved c =
    let frame = c.args.frame.now in
    let at = run_place (of_flows frame) c.requires.0 c.slot-entry-items.ensures.run c.loop-i-test.true c.from.ensures in
    slot_on c.loop-i.invariant at.0 at.1 at.2 refl c.from-sum.ensures (search rules) (search rules)
