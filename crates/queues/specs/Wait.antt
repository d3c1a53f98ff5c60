-- The longest wait: how many slots it takes until a flow has had w cells, and until a cell that waits has left.
use Rattle.std.specs.Prelude.{ℕ, ◌+◌, ◌*◌, ◌/◌, ◌-◌, ◌^◌, ◌≤◌, ◌<◌, ◌≡◌, ◌≢◌, List, length, get_or}
use Rattle.rules.specs.Words.{Every}
use Rattle.rules.specs.Flows.{Class, flow, OnSwitch}
use Rattle.rules.specs.Frames.{cells}
use Rattle.strays.specs.Stray.{stray}
use Rattle.wire.specs.Wire.{Call, Carried, none, chain, cells_at, cells_in, share, Shape, EveryChain}
use Rattle.bounds.specs.ByLoad.{StrayWithin}
use Rattle.queues.specs.Queue.{waiting, queue, Paced}

-- The class has at least m cells in every frame of the chain.
abbrev pub HasAtLeast : ℕ → Class → ℕ → List Carried → Type 0
HasAtLeast m c ports frames = Every (λ f. m ≤ cells c ports f.call.list f.entries) frames

-- How far a run of a chain may be from its share of m cells a frame, in parts of 1 / (3 × 2 ^ k) of a cell: by demand 3 (2k + 1)/3 cells,
abbrev pub by_demand3 : ℕ → ℕ → ℕ
by_demand3 k m = (2 * k + 1) * 2 ^ k

-- and by the bound of the load 2 × stray k m / 2 ^ k of them.
abbrev pub by_stray : ℕ → ℕ → ℕ
by_stray k m = 6 * stray k m

-- A run of len slots is long enough for w cells if 3 × len × m is more than gap + 3 × slots × (w − 1).
abbrev pub Enough : ℕ → ℕ → ℕ → ℕ → ℕ → Type 0
Enough gap k m w len = gap + 3 * 2 ^ k * (w - 1) < 3 * len * m

-- The cell that is w-th in the queue after the first t slots has left after the next len: it is nowhere in the queue then.
abbrev pub Leaves : (ℕ → ℕ) → (ℕ → ℕ) → ℕ → ℕ → ℕ → Type 0
Leaves arrive scheduled t w len = Every (λ cell. cell ≢ get_or (queue arrive scheduled t) (w - 1) 0) (queue arrive scheduled (t + len))

-- On a chain of frames of 2 ^ k slots any run of len slots has at least w cells of the class; and whatever arrives, a cell that
-- is w-th in the class's queue after some slot has left after the next len.
pub record Suffices (c : Class) (k : ℕ) (frames : List Carried) (w len : ℕ) : Type 0 where
  pub runs : (start : ℕ) → start + len ≤ length frames * 2 ^ k → w ≤ cells_in c frames start len
  pub leaves : (arrive : ℕ → ℕ) (t : ℕ) → t + len ≤ length frames * 2 ^ k → w ≤ waiting arrive (cells_at c frames) t
      → Leaves arrive (cells_at c frames) t w len

-- Of a class that has at least m cells in every frame of the chain, a length that is long enough for w cells suffices for them.
abbrev pub WaitsOn : (ℕ → ℕ → ℕ) → ℕ → ℕ → List Carried → Type 0
WaitsOn gap ports k frames =
    (c : Class) → OnSwitch ports c → (m w : ℕ) → 1 ≤ m → 1 ≤ w → HasAtLeast m c ports frames
    → (len : ℕ) → Enough (gap k m) k m w len → Suffices c k frames w len

-- The longest wait, on every chain that demand 3 covers.
abbrev pub LongestWait : (ℕ → ℕ → ℕ) → Type 0
LongestWait gap = EveryChain (WaitsOn gap)

-- The least length that is long enough, by which a house goes,
abbrev pub least_enough : ℕ → ℕ → ℕ → ℕ → ℕ
least_enough gap k m w = (gap + 3 * 2 ^ k * (w - 1)) / (3 * m) + 1

-- which is to say that it is long enough, and nothing that is long enough is less.
pub record Least (gap k m w len : ℕ) : Type 0 where
  pub enough : Enough gap k m w len
  pub none_less : (other : ℕ) → Enough gap k m w other → len ≤ other

-- So it suffices.
abbrev pub LeastWait : (ℕ → ℕ → ℕ) → Type 0
LeastWait gap =
    EveryChain
    (λ ports k frames.
    (c : Class) → OnSwitch ports c → (m w : ℕ) → 1 ≤ m → 1 ≤ w → HasAtLeast m c ports frames → Suffices c k frames w (least_enough (gap k m) k m w))

-- By blocks: where the class has at least 2 ^ j cells in every frame, each block of 2 ^ (k − j) slots has one, and a run of one slot
-- less than w + 1 such blocks has w of them whole. At the head of the queue, where w is 1, that is exact.
abbrev pub BlocksOn : ℕ → ℕ → List Carried → Type 0
BlocksOn ports k frames =
    (c : Class) → OnSwitch ports c → (j w : ℕ) → j ≤ k → 1 ≤ w → HasAtLeast (2 ^ j) c ports frames
    → (len : ℕ) → (w + 1) * 2 ^ (k - j) ≤ len + 1 → Suffices c k frames w len

abbrev pub BlockWait : Type 0
BlockWait = EveryChain BlocksOn

-- Of a flow that keeps to its share with an allowance a, in parts of 1 / 2 ^ k of a cell, every cell that waits after a slot, at
-- whatever place, has left after the next len, if len × m + 2 ^ k is more than a + 2 × s, where no frame's load strays further than s.
abbrev pub PacedOn : ℕ → ℕ → List Carried → Type 0
PacedOn ports k frames =
    (c : Class) → OnSwitch ports c → (s : ℕ) → StrayWithin k s c frames → (m : ℕ) → HasAtLeast m c ports frames
    → (a : ℕ) (arrive : ℕ → ℕ) → Paced k a (length frames * 2 ^ k) (share c 0 frames) arrive
    → (len : ℕ) → a + 2 * s < len * m + 2 ^ k
    → (t w : ℕ) → t + len ≤ length frames * 2 ^ k → 1 ≤ w → w ≤ waiting arrive (cells_at c frames) t
    → Leaves arrive (cells_at c frames) t w len

abbrev pub PacedWait : Type 0
PacedWait = EveryChain PacedOn

-- Calls of Build whose carried frames of two ports and 2 ^ k slots have at least m cells of flow f each, and a run of len slots of them that
-- has fewer than w.
pub record FewerThan (k m w len : ℕ) (buffer : List ℕ) : Type 0 where
  pub calls : List Call
  pub f : ℕ
  pub start : ℕ
  pub shape : Every (Shape 2 (2 ^ k)) (chain none buffer calls)
  pub has : HasAtLeast m (flow f) 2 (chain none buffer calls)
  pub fits : start + len ≤ length (chain none buffer calls) * 2 ^ k
  pub few : cells_in (flow f) (chain none buffer calls) start len < w

-- The longest wait is reached, at every k to 10 and by every load that fits the slots: for some w a run that is one slot shorter than the
-- least that is long enough has fewer than w cells.
abbrev pub WaitReached : Type 0
WaitReached =
    (k m : ℕ) → k ≤ 10 → 1 ≤ m → m ≤ 2 ^ k → (buffer : List ℕ) → length buffer ≡ 2 ^ k * 2
    → (w : ℕ) × (1 ≤ w) × FewerThan k m w (least_enough (by_stray k m) k m w - 1) buffer

-- By demand 3's bound it is reached by some load.
abbrev pub DemandWaitReached : Type 0
DemandWaitReached =
    (k : ℕ) → 1 ≤ k → k ≤ 10 → (buffer : List ℕ) → length buffer ≡ 2 ^ k * 2
    → (m w : ℕ) × (1 ≤ w) × FewerThan k m w (least_enough (by_demand3 k m) k m w - 1) buffer

-- At the head of the queue blocks are reached: with one cell less than 2 ^ (d + 1) in each frame of 2 ^ (d + i) slots there is a run of two
-- blocks of 2 ^ i slots, less two slots, that has none.
abbrev pub HeadReached : Type 0
HeadReached =
    (i d : ℕ) → 1 ≤ i → d + i ≤ 10 → (buffer : List ℕ) → length buffer ≡ 2 ^ (d + i) * 2
    → FewerThan (d + i) (2 ^ (d + 1) - 1) 1 (2 * 2 ^ i - 2) buffer
