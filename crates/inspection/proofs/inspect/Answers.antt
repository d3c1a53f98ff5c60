use Rattle.std.proofs.Common.{rules}
use Rattle.calls.specs.Sides.{side_of}
use Rattle.inspection.proofs.Faults.{inspect_refused, inspect_frame, inspect_faults}
use Rattle.inspection.proofs.inspect.Goals as goal

pub returns-in_err-of : goal.returns-in_err-of
returns-in_err-of c = search (rules, inspect_refused)

pub returns-in_err-frame : goal.returns-in_err-frame
returns-in_err-frame c =
    let refused = inspect_frame (side_of c.args.side) c.args.ports c.args.slots c.args.list.now c.args.frame.now c.in_ok-of.ensures.passed c.in_ok-of.ensures.clear in
    search (rules, refused)

pub returns : goal.returns
returns c =
    inspect_faults (side_of c.args.side) c.args.ports c.args.slots c.args.list.now c.args.frame.now c.in_ok-of.ensures.passed c.in_ok-of.ensures.clear
    c.in_ok-frame.ensures.passed c.in_ok-frame.frame.size _ c.first_fault.ensures
