-- Lines: what waits at the card of a link is bounded by what the frames may be ahead of the link's limit, and by what its line may be behind.
use Prim.Native.Nat.{ℕ, suc, ◌+◌, ◌*◌, ◌^◌, ◌≤◌, ◌<◌}
use mathlib.Core.Path.{◌≡◌, ap}
use mathlib.Core.List.{List, [], ◌∷◌}
use native.Mathlib.Nat.{mul-le-mul_left}
use native.Mathlib.Omega.{arith}
use lib.ListN.{length, get_or}
use Rattle.rules.specs.Words.{Every}
use Rattle.rules.specs.Flows.{link, load}
use Rattle.strays.specs.Stray.{stray}
use Rattle.wire.specs.Wire.{Carried, none, chain, cells_at, Shape}
use Rattle.queues.specs.Queue.{waiting, arrived, Paced, sent}
use Rattle.queues.specs.Line.{Takes, LinkBuffers}
use Rattle.wire.proofs.Demand3.{Allowed, chain_allowed}
use Rattle.bounds.proofs.ByLoad.{at_most}
use Rattle.queues.proofs.Queues.{since, arrived_more, served}
use Rattle.queues.proofs.Rows.{sent_most}

-- ---- a queue that is filled ahead of m cells a frame by at most a, and emptied behind it by at most b
module _ (k m a b slots : ℕ) (come line : ℕ → ℕ) (paced : Paced k a slots (λ start len. len * m) come) (takes : Takes k m b slots line) where
  drained : (t : ℕ) → t ≤ slots → 2 ^ k * waiting come line t ≤ b + a
  drained t h =
      let s = since come line t in
      let fits : s.start + s.len ≤ slots = omega (arith, s.ends) in
      omega (arith, paced s.start s.len fits, takes s.start s.len fits, mul-le-mul_left (2 ^ k) s.waits)

  filled : (t : ℕ) → t < slots → 2 ^ k * (waiting come line t + come t) ≤ b + a + m
  filled t h =
      let s = since come line t in
      let fits : s.start + s.len ≤ slots = omega (arith, s.ends) in
      let more : s.start + (s.len + 1) ≤ slots = omega (arith, s.ends) in
      let now : come (s.start + s.len) ≡ come t = ap come s.ends in
      let all : waiting come line t + come t + arrived line s.start s.len ≤ arrived come s.start (s.len + 1) =
      omega (arith, s.waits, arrived_more come s.start s.len) in
      omega (arith, paced s.start (s.len + 1) more, takes s.start s.len fits, mul-le-mul_left (2 ^ k) all)

-- ---- a link
-- its load is at most its limit, and that at most m
limited : (ports slots x m : ℕ) → x < ports * 4 → (fs : List Carried) → Every (Shape ports slots) fs → Every Allowed fs
    → Every (λ f. get_or f.call.limits x 0 ≤ m) fs → Every (λ f. load (link x) f.call.list ≤ m) fs
limited ports slots x m h [] shape allowed limits = tt
limited ports slots x m h (f ∷ fs) shape allowed limits =
    let at : x < f.call.ports * 4 = omega (arith, shape.0.ports_are) in
    (omega (arith, allowed.0 x at, limits.0), limited ports slots x m h fs shape.1 allowed.1 limits.1)

pub link_buffers : LinkBuffers
link_buffers buffer calls ports k shape x m h limits b arrive line takes t low =
    let fs = chain none buffer calls in
    let slots = length fs * 2 ^ k in
    let come = sent arrive (cells_at (link x) fs) in
    let loads = limited ports (2 ^ k) x m h fs shape (chain_allowed buffer calls) limits in
    let paced : Paced k (2 * stray k m) slots (λ start len. len * m) come = λ start len fits.
    omega (
      arith,
      at_most buffer calls ports k shape start len fits (link x) h m loads,
      mul-le-mul_left (2 ^ k) (sent_most arrive (cells_at (link x) fs) start len),
      ap (λ z. 2 ^ k * z) (served (link x) fs start len),
    ) in
    record {
      after = omega (arith, drained k m (2 * stray k m) b slots come line paced takes (suc t) (omega arith));
      before = omega (arith, filled k m (2 * stray k m) b slots come line paced takes t low);
    }
