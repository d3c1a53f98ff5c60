-- Orders: what Depth answers holds of every list of Build calls.
use Prim.Native.Nat.{ℕ, ◌+◌, ◌*◌, ◌-◌, ◌/◌, ◌^◌, ◌≤◌, ◌<◌}
use mathlib.Core.Path.{◌≡◌, ap, subst}
use mathlib.Core.List.{List, [], ◌∷◌}
use native.Mathlib.Nat.{mod-lt, div-add-mod', mul-le-mul_left}
use native.Mathlib.Omega.{arith}
use lib.Pow.{pow_pos}
use lib.ListN.{length}
use Rattle.rules.specs.Words.{Every}
use Rattle.rules.specs.Frames.{levels, Power}
use Rattle.strays.specs.Stray.{stray}
use Rattle.wire.specs.Wire.{Call, Carried, none, chain, cells_at, cells_in, share, Shape}
use Rattle.queues.specs.Queue.{waiting, Paced}
use Rattle.queues.specs.Order.{DepthEnough}
use Rattle.rules.proofs.Cases.{by_lt}
use Rattle.rules.proofs.Levels.{level_is}
use Rattle.calls.proofs.Demand2.{accepts_is}
use Rattle.wire.proofs.Chains.{none_in}
use Rattle.wire.proofs.Demand3.{chain_every}
use Rattle.bounds.proofs.ByLoad.{strays, within_run, same_within}
use Rattle.queues.proofs.Queues.{share_is, buffers}

-- the slots of a carried frame are a power of two up to 1,024, as those of every accepted call
abbrev Powered : Carried → Type 0
Powered f = Power f.call.slots

chain_powered : (buffer : List ℕ) (calls : List Call) → Every Powered (chain none buffer calls)
chain_powered buffer calls =
    chain_every Powered (λ c buffer e. (accepts_is c.ports c.slots c.list c.limits buffer e).well.power) none buffer calls tt

-- so where there is a slot, its level is k
level_of : (ports k : ℕ) (fs : List Carried) → Every Powered fs → Every (Shape ports (2 ^ k)) fs → (t : ℕ) → t < length fs * 2 ^ k → levels (2 ^ k) ≡ k
level_of ports k [] power shape t h = absurd (omega arith)
level_of ports k (f ∷ fs) power shape t h =
    let p : Power (2 ^ k) = subst Power shape.0.slots_are power.0 in level_is p (omega arith)

-- numbers of which 2 ^ k are at most so many
whole_cells : (k n all : ℕ) → 2 ^ k * n ≤ all → n ≤ all / 2 ^ k
whole_cells k n all h =
    let part = mod-lt all (pow_pos k) in
    let whole = div-add-mod' all (2 ^ k) in
    by_lt (all / 2 ^ k) n
    (λ l. let more = mul-le-mul_left (2 ^ k) l in absurd (omega arith))
    (λ l. l)

-- a run that has no slot is exact, and any other goes by the level of its slots
pub depth_enough : DepthEnough
depth_enough buffer calls ports k shape c of m same =
    record {
      runs = λ start len fits.
          let near = (within_run k (stray k m) c fs start len (same_within k m c fs same) (strays buffer calls ports k shape start len fits c of)).0 in
          by_lt 0 len
          (λ l. rw (level (length fs * 2 ^ k - 1) (omega arith)) near)
          (λ l.
          let none : len ≡ 0 = omega arith in
          let cells = ap (λ z. 2 ^ k * cells_in c fs start z) none in
          let shares = ap (share c 0 fs start) none in
          omega (arith, ap (λ z. 2 ^ k * z) (none_in c fs start), share_is c ports k m fs shape same start len fits, ap (λ z. z * m) none));
      waits = λ arrive even t h.
          let paced : Paced k (2 ^ k - 1) (length fs * 2 ^ k) (λ start len. len * m) arrive = λ start len fits.
          omega (arith, mul-le-mul_left (2 ^ k) (even start len fits), div-add-mod' (len * m + (2 ^ k - 1)) (2 ^ k)) in
          let held = (buffers buffer calls ports k shape c of m same (2 ^ k - 1) arrive paced t h).before in
          rw (level t h) (whole_cells k (waiting arrive (cells_at c fs) t + arrive t) (2 ^ k - 1 + 2 * stray k m + m) (omega (arith, held)));
    }
  where
    fs : List Carried
    fs = chain none buffer calls

    level : (t : ℕ) → t < length fs * 2 ^ k → levels (2 ^ k) ≡ k
    level = level_of ports k fs (chain_powered buffer calls) shape
