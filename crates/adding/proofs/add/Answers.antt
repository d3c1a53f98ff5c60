use Rattle.std.proofs.Common.{rules}
use Rattle.adding.proofs.Answered.{list_done, frame_done, flow_done, entries_done, usable, flow_within, place_done}
use Rattle.adding.proofs.add.Goals as goal

pub returns-in_err-of : goal.returns-in_err-of
returns-in_err-of c =
    let a = c.args in
    let done = list_done a.ports a.slots a.list.now a.frame.now a.flow c.in_err-of.field-0.0 c.in_err-of.ensures.refused in
    search rules

pub returns-in_err-lent : goal.returns-in_err-lent
returns-in_err-lent c =
    let a = c.args in
    let done = frame_done a.ports a.slots a.list.now a.frame.now a.flow c.in_ok-of.ensures.clear c.in_ok-of.ensures.passed c.in_err-lent.field-0.0 c.in_err-lent.ensures.refused in
    search rules

pub returns-then-outside : goal.returns-then-outside
returns-then-outside c =
    let a = c.args in
    let done = flow_done a.ports a.slots a.list.now a.frame.now a.flow c.in_ok-of.ensures.clear c.in_ok-of.ensures.passed c.in_ok-lent.lent.size c.in_ok-lent.ensures.passed c.flows.ensures c.outside.ensures c.if-outside.true in
    search rules

pub returns-then-bad_entries : goal.returns-then-bad_entries
returns-then-bad_entries c =
    let a = c.args in
    let done = entries_done a.ports a.slots a.list.now a.frame.now a.flow c.in_ok-of.ensures.clear c.in_ok-of.ensures.passed c.in_ok-lent.lent.size c.in_ok-lent.ensures.passed c.flows.ensures c.outside.ensures c.if-outside.false c.bad_entries.ensures c.if-bad_entries.true in
    search rules

pub place-requires : goal.place-requires
place-requires c =
    let a = c.args in
    (usable a.ports a.slots a.list.now a.frame.now a.flow c.in_ok-of.ensures.clear c.in_ok-of.ensures.passed c.in_ok-lent.lent.size c.in_ok-lent.ensures.passed c.flows.ensures c.outside.ensures c.if-outside.false c.bad_entries.ensures c.if-bad_entries.false, flow_within a.ports a.slots a.list.now a.frame.now a.flow c.in_ok-of.ensures.clear c.in_ok-of.ensures.passed c.in_ok-lent.lent.size c.in_ok-lent.ensures.passed c.flows.ensures c.outside.ensures c.if-outside.false c.bad_entries.ensures c.if-bad_entries.false)

pub returns : goal.returns
returns c =
    let a = c.args in
    let done = place_done a.ports a.slots a.list.now a.frame.now a.flow c.in_ok-of.ensures.clear c.in_ok-of.ensures.passed c.in_ok-lent.lent.size c.in_ok-lent.ensures.passed c.flows.ensures c.outside.ensures c.if-outside.false c.bad_entries.ensures c.if-bad_entries.false c.place.ensures.placed in
    record { answer = done.0; entries = done.1; other = search rules }
