use Rattle.std.proofs.Common.{rules}
use Rattle.calls.specs.Sides.{side_of}
use Rattle.turning.proofs.Answered.{flows_alone, list_done, frame_done, second_done, wrong_done, twice_done, turnable, turns}
use Rattle.turning.proofs.turn.Goals as goal

pub returns-in_err-of : goal.returns-in_err-of
returns-in_err-of c =
    let a = c.args in
    let done = list_done (side_of a.side) a.ports a.slots a.list.now a.frame.now a.second.now c.in_err-of.field-0.0 c.in_err-of.ensures.refused in
    search rules

pub returns-in_err-frame : goal.returns-in_err-frame
returns-in_err-frame c =
    let a = c.args in
    let done = frame_done (side_of a.side) a.ports a.slots a.list.now a.frame.now a.second.now c.in_ok-of.ensures.clear c.in_ok-of.ensures.passed c.in_err-frame.field-0.0 c.in_err-frame.ensures.refused in
    search rules

pub returns-then-second-frame : goal.returns-then-second-frame
returns-then-second-frame c =
    let a = c.args in
    let done = second_done (side_of a.side) a.ports a.slots a.list.now a.frame.now a.second.now c.in_ok-of.ensures.clear c.in_ok-of.ensures.passed c.in_ok-frame.frame.size c.in_ok-frame.ensures.passed c.if-second-frame.true in
    search rules

pub returns-then-is_some : goal.returns-then-is_some
returns-then-is_some c =
    let a = c.args in
    let done = wrong_done (side_of a.side) a.ports a.slots a.list.now a.frame.now a.second.now c.in_ok-of.ensures.clear c.in_ok-of.ensures.passed c.in_ok-frame.frame.size c.in_ok-frame.ensures.passed c.if-second-frame.false _ c.first_wrong.ensures (search rules) in
    search rules

pub invariant_of-frame : goal.invariant_of-frame
invariant_of-frame c =
    record { each_flow = flows_alone _ _ _ _ _ c.in_ok-frame.frame.size _ c.first_wrong.ensures (search rules) }

pub returns-then-is_some-2 : goal.returns-then-is_some-2
returns-then-is_some-2 c =
    let a = c.args in
    let done = twice_done (side_of a.side) a.ports a.slots a.list.now a.frame.now a.second.now c.in_ok-of.ensures.clear c.in_ok-of.ensures.passed c.in_ok-frame.frame.size c.in_ok-frame.ensures.passed c.if-second-frame.false _ c.first_wrong.ensures (search rules) _ c.first_twice.ensures (search rules) in
    search rules

pub turn_frame-requires : goal.turn_frame-requires
turn_frame-requires c =
    let a = c.args in
    (turnable (side_of a.side) a.ports a.slots a.list.now a.frame.now a.second.now c.in_ok-of.ensures.clear c.in_ok-of.ensures.passed c.in_ok-frame.frame.size c.in_ok-frame.ensures.passed c.if-second-frame.false _ c.first_wrong.ensures (search rules) _ c.first_twice.ensures (search rules), c.if-second-frame.false)

pub returns : goal.returns
returns c =
    let a = c.args in
    let done = turns (side_of a.side) a.ports a.slots a.list.now a.frame.now a.second.now c.in_ok-of.ensures.clear c.in_ok-of.ensures.passed c.in_ok-frame.frame.size c.in_ok-frame.ensures.passed c.if-second-frame.false _ c.first_wrong.ensures (search rules) _ c.first_twice.ensures (search rules) c.turn_frame.ensures in
    search rules
