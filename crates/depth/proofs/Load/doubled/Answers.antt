use native.Mathlib.Omega.{arith}
use Rattle.depth.proofs.Peaks.{room_of, share_low, half_low, slots_half, more_low, low_low, high_low, even_next, odd_next}
use Rattle.depth.proofs.Load.doubled.Goals as goal

pub overflow_mul-share : goal.overflow_mul-share
overflow_mul-share c = omega (arith, share_low (room_of c.args.self.power c.args.self.room) c.requires.0)

pub overflow_add-half : goal.overflow_add-half
overflow_add-half c = omega (arith, half_low (room_of c.args.self.power c.args.self.room) c.requires.0)

pub overflow_mul-self : goal.overflow_mul-self
overflow_mul-self c = omega (arith, more_low (room_of c.args.self.power c.args.self.room) c.requires.0)

pub joined-odd-requires : goal.joined-odd-requires
joined-odd-requires c = let r = room_of c.args.self.power c.args.self.room in let b = c.requires.0 in (omega (arith, more_low r b), omega (arith, low_low r b))

pub overflow_mul-share-2 : goal.overflow_mul-share-2
overflow_mul-share-2 c = omega (arith, share_low (room_of c.args.self.power c.args.self.room) c.requires.0)

pub overflow_mul-half : goal.overflow_mul-half
overflow_mul-half c = omega (arith, half_low (room_of c.args.self.power c.args.self.room) c.requires.0)

pub overflow_mul-self-then-share-self : goal.overflow_mul-self-then-share-self
overflow_mul-self-then-share-self c = omega (arith, slots_half (room_of c.args.self.power c.args.self.room) c.requires.0)

pub joined-low-requires : goal.joined-low-requires
joined-low-requires c = let r = room_of c.args.self.power c.args.self.room in let b = c.requires.0 in (omega (arith, slots_half r b), omega (arith, low_low r b))

pub returns-then-share-self : goal.returns-then-share-self
returns-then-share-self c = even_next (room_of c.args.self.power c.args.self.room) c.requires.0 c.requires.1 c.if-share-self.true c.joined-low.ensures c.joined-odd.ensures

pub overflow_add-half-2 : goal.overflow_add-half-2
overflow_add-half-2 c = omega (arith, half_low (room_of c.args.self.power c.args.self.room) c.requires.0)

pub overflow_mul-self-2 : goal.overflow_mul-self-2
overflow_mul-self-2 c = omega (arith, more_low (room_of c.args.self.power c.args.self.room) c.requires.0)

pub joined-high-requires : goal.joined-high-requires
joined-high-requires c = let r = room_of c.args.self.power c.args.self.room in let b = c.requires.0 in (omega (arith, more_low r b), omega (arith, high_low r b))

pub returns : goal.returns
returns c = odd_next (room_of c.args.self.power c.args.self.room) c.requires.0 c.requires.1 c.if-share-self.false c.joined-odd.ensures c.joined-high.ensures
