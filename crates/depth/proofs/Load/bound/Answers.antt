use native.Mathlib.Omega.{arith}
use Rattle.depth.proofs.Peaks.{room_of}
use Rattle.depth.proofs.Asked.{bound_low}
use Rattle.depth.proofs.Load.bound.Goals as goal

pub overflow_mul-parts : goal.overflow_mul-parts
overflow_mul-parts c = omega (arith, bound_low (room_of c.args.self.power c.args.self.room))

pub overflow_sub-result : goal.overflow_sub-result
overflow_sub-result c = omega (arith, bound_low (room_of c.args.self.power c.args.self.room))

pub overflow_add-result : goal.overflow_add-result
overflow_add-result c = omega (arith, bound_low (room_of c.args.self.power c.args.self.room))

pub overflow_add-result-2 : goal.overflow_add-result-2
overflow_add-result-2 c = omega (arith, bound_low (room_of c.args.self.power c.args.self.room))

pub nonzero_div-result : goal.nonzero_div-result
nonzero_div-result c = omega (arith, bound_low (room_of c.args.self.power c.args.self.room))
