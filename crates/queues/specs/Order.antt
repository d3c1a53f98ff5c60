-- What Depth answers is enough: no run is farther from its share, and for an even source no more cells wait at once.
use Rattle.std.specs.Prelude.{ℕ, ◌+◌, ◌*◌, ◌-◌, ◌/◌, ◌^◌, ◌≤◌, ◌<◌, ◌≡◌, List, length}
use Rattle.rules.specs.Words.{Every}
use Rattle.rules.specs.Flows.{Class, OnSwitch, load}
use Rattle.calls.specs.Depth.{farthest, most_waiting}
use Rattle.wire.specs.Wire.{Carried, cells_at, EveryChain}
use Rattle.bounds.specs.ByLoad.{NearShare}
use Rattle.queues.specs.Queue.{waiting, arrived}

-- A source of m cells a frame of 2 ^ k slots is even: in no run of the first slots do more cells arrive than the run's share, rounded up.
abbrev pub Even : ℕ → ℕ → ℕ → (ℕ → ℕ) → Type 0
Even k m slots arrive = (start len : ℕ) → start + len ≤ slots → arrived arrive start len ≤ (len * m + (2 ^ k - 1)) / 2 ^ k

-- Of a load of m in every frame: how far a run is from its share, and how many cells of an even source wait just before one leaves.
pub record Ordered (c : Class) (k m : ℕ) (frames : List Carried) : Type 0 where
  pub runs : (start len : ℕ) → start + len ≤ length frames * 2 ^ k → NearShare (farthest (2 ^ k) m) c k frames start len
  pub waits : (arrive : ℕ → ℕ) → Even k m (length frames * 2 ^ k) arrive → (t : ℕ) → t < length frames * 2 ^ k
      → waiting arrive (cells_at c frames) t + arrive t ≤ most_waiting (2 ^ k) m

-- On every chain that demand 3 covers.
abbrev pub DepthEnough : Type 0
DepthEnough =
    EveryChain (λ ports k frames. (c : Class) → OnSwitch ports c → (m : ℕ) → Every (λ f. load c f.call.list ≡ m) frames → Ordered c k m frames)
