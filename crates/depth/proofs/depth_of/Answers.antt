use Rattle.std.proofs.Common.{rules}
use Rattle.depth.proofs.Asked.{list_shut, ports_shut, who_shut, who_open, list_power, who_room, bound_is}
use Rattle.depth.proofs.depth_of.Goals as goal

pub returns-in_err-of : goal.returns-in_err-of
returns-in_err-of c = search (rules, list_shut)

pub returns-in_err-port_overload : goal.returns-in_err-port_overload
returns-in_err-port_overload c =
    let a = c.args in
    let shut = ports_shut a.ports a.slots a.list.now a.who c.in_ok-of.ensures.clear c.in_ok-of.ensures.passed c.add_loads.ensures c.in_err-port_overload.field-0.0 c.in_err-port_overload.ensures in
    search rules

pub returns-then-bad_who : goal.returns-then-bad_who
returns-then-bad_who c =
    let a = c.args in
    search (rules, who_shut a.ports a.slots a.list.now a.who c.in_ok-of.ensures.clear c.in_ok-of.ensures.passed c.add_loads.ensures c.in_ok-port_overload.ensures)

pub load_of-requires : goal.load_of-requires
load_of-requires c =
    let a = c.args in
    (who_open a.ports a.slots a.list.now a.who c.in_ok-of.ensures.clear c.in_ok-of.ensures.passed c.add_loads.ensures c.in_ok-port_overload.ensures c.bad_who.ensures c.if-bad_who.false, c.add_loads.ensures)

pub invariant_of-load : goal.invariant_of-load
invariant_of-load c =
    let a = c.args in
    record {
      power = list_power a.ports a.slots a.list.now a.who c.in_ok-of.ensures.clear c.in_ok-of.ensures.passed c.add_loads.ensures;
      room = who_room a.ports a.slots a.list.now a.who c.in_ok-of.ensures.clear c.in_ok-of.ensures.passed c.add_loads.ensures c.in_ok-port_overload.ensures c.bad_who.ensures c.if-bad_who.false c.load_of.ensures;
    }

pub returns : goal.returns
returns c =
    let a = c.args in
    search (rules, bound_is a.ports a.slots a.list.now a.who c.in_ok-of.ensures.clear c.in_ok-of.ensures.passed c.add_loads.ensures c.in_ok-port_overload.ensures c.bad_who.ensures c.if-bad_who.false c.load_of.ensures)
