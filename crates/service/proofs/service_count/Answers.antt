use Rattle.std.proofs.Common.{rules}
use Rattle.calls.specs.Sides.{side_of}
use Rattle.service.proofs.Checks.{list_shut, frame_shut, start_shut, who_shut, length_shut, run_counted}
use Rattle.service.proofs.service_count.Goals as goal

pub returns-in_err-of : goal.returns-in_err-of
returns-in_err-of c = search (rules, list_shut)

pub returns-in_err-frame : goal.returns-in_err-frame
returns-in_err-frame c = search (rules, frame_shut)

pub returns-then-outside : goal.returns-then-outside
returns-then-outside c =
    let a = c.args in
    search (rules, start_shut (side_of a.side) a.ports a.slots a.list.now a.frame.now a.who a.start a.len c.in_ok-of.ensures.clear c.in_ok-of.ensures.passed c.in_ok-frame.frame.size c.in_ok-frame.ensures.passed)

pub returns-then-bad_who : goal.returns-then-bad_who
returns-then-bad_who c =
    let a = c.args in
    search (rules, who_shut (side_of a.side) a.ports a.slots a.list.now a.frame.now a.who a.start a.len c.in_ok-of.ensures.clear c.in_ok-of.ensures.passed c.in_ok-frame.frame.size c.in_ok-frame.ensures.passed)

pub returns-then-too_long : goal.returns-then-too_long
returns-then-too_long c =
    let a = c.args in
    search (rules, length_shut (side_of a.side) a.ports a.slots a.list.now a.frame.now a.who a.start a.len c.in_ok-of.ensures.clear c.in_ok-of.ensures.passed c.in_ok-frame.frame.size c.in_ok-frame.ensures.passed)

pub returns : goal.returns
returns c =
    let a = c.args in
    search (rules, run_counted (side_of a.side) a.ports a.slots a.list.now a.frame.now a.who a.start a.len c.in_ok-of.ensures.clear c.in_ok-of.ensures.passed c.in_ok-frame.frame.size c.in_ok-frame.ensures.passed)
