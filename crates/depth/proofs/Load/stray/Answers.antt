use Rattle.std.proofs.Common.{rules}
use native.Mathlib.Omega.{arith}
use Rattle.depth.proofs.Peaks.{room_of, whole_low, slot_start, closer, whole_stray}
use Rattle.depth.proofs.Load.stray.Goals as goal

pub nonzero_div-whole : goal.nonzero_div-whole
nonzero_div-whole c = omega (arith, whole_low (room_of c.args.self.power c.args.self.room))

pub overflow_add-peaks : goal.overflow_add-peaks
overflow_add-peaks c = omega (arith, whole_low (room_of c.args.self.power c.args.self.room))

pub overflow_mul-peaks : goal.overflow_mul-peaks
overflow_mul-peaks c = omega (arith, whole_low (room_of c.args.self.power c.args.self.room))

pub overflow_sub-peaks : goal.overflow_sub-peaks
overflow_sub-peaks c = omega (arith, whole_low (room_of c.args.self.power c.args.self.room))

pub loop-size-init : goal.loop-size-init
loop-size-init c = search (rules, room_of, slot_start)

pub overflow_mul-size : goal.overflow_mul-size
overflow_mul-size c = omega (arith, whole_low (room_of c.args.self.power c.args.self.room))

pub loop-size-smaller : goal.loop-size-smaller
loop-size-smaller c = search (rules, closer)

pub returns : goal.returns
returns c = search (rules, room_of, whole_stray)
