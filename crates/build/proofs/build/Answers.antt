use Rattle.std.proofs.Common.{rules}
use Rattle.build.proofs.Built.{leaves, list_answer, frame_answer, load_answer, fillable, filled_answer, filled_leaves}
use Rattle.build.proofs.build.Goals as goal

pub returns-in_err-of-clause-answer : goal.returns-in_err-of-clause-answer
returns-in_err-of-clause-answer c = search (rules, list_answer)

pub returns-in_err-of-clause-entries : goal.returns-in_err-of-clause-entries
returns-in_err-of-clause-entries c =
    let x = c.in_err-of.field-0.0 in
    leaves _ _ _ _ _ x (list_answer _ _ _ _ _ x c.in_err-of.ensures.refused)

pub returns-in_err-check_frame-clause-answer : goal.returns-in_err-check_frame-clause-answer
returns-in_err-check_frame-clause-answer c =
    let a = c.args in
    let of = c.in_ok-of.ensures in
    let refused = frame_answer a.ports a.slots a.list.now a.limits a.frame.now of.passed of.clear c.in_err-check_frame.field-0.0 c.in_err-check_frame.ensures.refused in
    search rules

pub returns-in_err-check_frame-clause-entries : goal.returns-in_err-check_frame-clause-entries
returns-in_err-check_frame-clause-entries c =
    let of = c.in_ok-of.ensures in
    let x = c.in_err-check_frame.field-0.0 in
    leaves _ _ _ _ _ x (frame_answer _ _ _ _ _ of.passed of.clear x c.in_err-check_frame.ensures.refused)

pub returns-in_err-overload-clause-answer : goal.returns-in_err-overload-clause-answer
returns-in_err-overload-clause-answer c =
    let a = c.args in
    let of = c.in_ok-of.ensures in
    let frame = c.in_ok-check_frame in
    let refused = load_answer a.ports a.slots a.list.now a.limits a.frame.now of.passed of.clear frame.ensures.passed frame.field-0.size c.add_loads.ensures c.in_err-overload.field-0.0 in
    search (rules, refused)

pub returns-in_err-overload-clause-entries : goal.returns-in_err-overload-clause-entries
returns-in_err-overload-clause-entries c =
    let of = c.in_ok-of.ensures in
    let frame = c.in_ok-check_frame in
    let x = c.in_err-overload.field-0.0 in
    leaves _ _ _ _ _ x (load_answer _ _ _ _ _ of.passed of.clear frame.ensures.passed frame.field-0.size c.add_loads.ensures x c.in_err-overload.ensures)

pub fill-requires : goal.fill-requires
fill-requires c =
    let a = c.args in
    let of = c.in_ok-of.ensures in
    let frame = c.in_ok-check_frame in
    fillable a.ports a.slots a.list.now a.limits a.frame.now of.passed of.clear frame.ensures.passed frame.field-0.size c.add_loads.ensures c.in_ok-overload.ensures

pub returns-clause-answer : goal.returns-clause-answer
returns-clause-answer c =
    let a = c.args in
    let of = c.in_ok-of.ensures in
    let frame = c.in_ok-check_frame in
    let filled = filled_answer a.ports a.slots a.list.now a.limits a.frame.now of.passed of.clear frame.ensures.passed frame.field-0.size c.add_loads.ensures c.in_ok-overload.ensures c.fill.ensures.0 in
    search rules

pub returns-clause-entries : goal.returns-clause-entries
returns-clause-entries c =
    let a = c.args in
    let of = c.in_ok-of.ensures in
    let frame = c.in_ok-check_frame in
    filled_leaves a.ports a.slots a.list.now a.limits a.frame.now of.passed of.clear frame.ensures.passed frame.field-0.size c.add_loads.ensures c.in_ok-overload.ensures c.fill.ensures.1
