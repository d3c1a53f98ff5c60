-- The bound of each load is reached, above and below, by two calls of Build.
use Rattle.std.specs.Prelude.{ℕ, ◌+◌, ◌*◌, ◌^◌, ◌≤◌, ◌≡◌, List, length}
use Rattle.rules.specs.Words.{Every}
use Rattle.rules.specs.Flows.{Class, flow, OnSwitch, load}
use Rattle.strays.specs.Stray.{stray}
use Rattle.strays.specs.Deviation.{deviation}
use Rattle.wire.specs.Wire.{Call, none, chain, cells_in, share, Shape}
use Rattle.bounds.specs.ByLoad.{NearShare}

-- Calls on a buffer that carry two frames of two ports and 2 ^ k slots, with m cells of flow f in each, and a run inside them.
pub record TwoFrames (k m : ℕ) (buffer : List ℕ) (calls : List Call) (f start len : ℕ) : Type 0 where
  pub two : length (chain none buffer calls) ≡ 2
  pub shape : Every (Shape 2 (2 ^ k)) (chain none buffer calls)
  pub same : Every (λ frame. load (flow f) frame.call.list ≡ m) (chain none buffer calls)
  pub fits : start + len ≤ length (chain none buffer calls) * 2 ^ k

-- The run has 2 × stray k m less than its share, both times 2 ^ k,
pub record ReachedBelow (k m : ℕ) (buffer : List ℕ) : Type 0 where
  pub calls : List Call
  pub f : ℕ
  pub start : ℕ
  pub len : ℕ
  pub frames : TwoFrames k m buffer calls f start len
  pub off : share (flow f) 0 (chain none buffer calls) start len ≡ 2 ^ k * cells_in (flow f) (chain none buffer calls) start len + 2 * stray k m

-- or as much more.
pub record ReachedAbove (k m : ℕ) (buffer : List ℕ) : Type 0 where
  pub calls : List Call
  pub f : ℕ
  pub start : ℕ
  pub len : ℕ
  pub frames : TwoFrames k m buffer calls f start len
  pub off : 2 ^ k * cells_in (flow f) (chain none buffer calls) start len ≡ share (flow f) 0 (chain none buffer calls) start len + 2 * stray k m

-- Both are reached at every k to 10, and by every load that fits the slots, whatever the buffer held.
abbrev pub StrayReached : Type 0
StrayReached =
    (k m : ℕ) → k ≤ 10 → m ≤ 2 ^ k → (buffer : List ℕ) → length buffer ≡ 2 ^ k * 2 → ReachedBelow k m buffer × ReachedAbove k m buffer

-- On every chain of two ports whose frames all have a load of the class that H lets through, every run is within gap of its share.
abbrev pub Keeps : (ℕ → Type 0) → ℕ → ℕ → Type 0
Keeps H k gap =
    (buffer : List ℕ) (calls : List Call) → let frames = chain none buffer calls in Every (Shape 2 (2 ^ k)) frames
    → (start len : ℕ) → start + len ≤ length frames * 2 ^ k → (c : Class) → OnSwitch 2 c → Every (λ f. H (load c f.call.list)) frames
    → NearShare gap c k frames start len

-- So no bound that holds for a load is less than its own, and none that holds for every load less than two deviations.
abbrev pub NoneSharper : Type 0
NoneSharper = (k m gap : ℕ) → k ≤ 10 → m ≤ 2 ^ k → Keeps (λ n. n ≡ m) k gap → 2 * stray k m ≤ gap

abbrev pub NoneSharperAtAll : Type 0
NoneSharperAtAll = (k gap : ℕ) → k ≤ 10 → Keeps (λ n. Unit {0}) k gap → 2 * deviation k ≤ gap
