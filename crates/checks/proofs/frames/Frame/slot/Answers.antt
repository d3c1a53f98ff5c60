use Rattle.std.proofs.Common.{rules}
use Rattle.checks.proofs.Framed.{slot_is_run}
use Rattle.checks.proofs.frames.Frame.slot.Goals as goal

pub returns-clause-run : goal.returns-clause-run
returns-clause-run c = let run = slot_is_run c.args.self.now.of.ports c.args.s c.args.self.now.entries.now in search rules
