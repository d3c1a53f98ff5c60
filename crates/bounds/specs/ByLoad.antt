-- Each load has its own bound: how far a run is from its share goes by the loads of the frames that it begins and ends in.
use Rattle.std.specs.Prelude.{ℕ, ◌+◌, ◌*◌, ◌^◌, ◌≤◌, ◌≡◌, List, length}
use Rattle.rules.specs.Words.{Near, Every}
use Rattle.rules.specs.Flows.{Class, OnSwitch, load}
use Rattle.strays.specs.Stray.{stray}
use Rattle.wire.specs.Wire.{Carried, cells_in, share, EveryChain}
use Rattle.wire.specs.Loads.{load_of, Touches}

-- The cells of a run differ by at most gap, either way, from its share, in parts of 1 / 2 ^ k of a cell.
abbrev pub NearShare : ℕ → Class → ℕ → List Carried → ℕ → ℕ → Type 0
NearShare gap c k frames start len = Near gap (2 ^ k * cells_in c frames start len) (share c 0 frames start len)

-- Each end of a run may be off by the stray of the load of the frame that it is in, and at a seam by that of either frame. An end that is
-- the beginning or the end of a frame is not off at all.
pub record StrayRun (c : Class) (k : ℕ) (frames : List Carried) (start len : ℕ) : Type 0 where
  pub any : (a b : ℕ) → Touches k a start → Touches k b (start + len) → NearShare (stray k (load_of c frames a) + stray k (load_of c frames b)) c k frames start len
  pub begins_frame : (a b : ℕ) → start ≡ a * 2 ^ k → Touches k b (start + len) → NearShare (stray k (load_of c frames b)) c k frames start len
  pub ends_frame : (a b : ℕ) → Touches k a start → start + len ≡ b * 2 ^ k → NearShare (stray k (load_of c frames a)) c k frames start len

abbrev pub StrayOn : ℕ → ℕ → List Carried → Type 0
StrayOn ports k frames = (start len : ℕ) → start + len ≤ length frames * 2 ^ k → (c : Class) → OnSwitch ports c → StrayRun c k frames start len

-- For the chains of demand 3.
abbrev pub Strays : Type 0
Strays = EveryChain StrayOn

-- No frame of a chain has a load of the class that strays further than s.
abbrev pub StrayWithin : ℕ → ℕ → Class → List Carried → Type 0
StrayWithin k s c frames = Every (λ f. stray k (load c f.call.list) ≤ s) frames

-- Where every frame has at least m cells of the class, a run has no fewer than its share of m cells a frame, less twice the stray of m,
-- however much more some frames have.
abbrev pub AtLeastOn : ℕ → ℕ → List Carried → Type 0
AtLeastOn ports k frames =
    (start len : ℕ) → start + len ≤ length frames * 2 ^ k → (c : Class) → OnSwitch ports c
    → (m : ℕ) → Every (λ f. m ≤ load c f.call.list) frames → len * m ≤ 2 ^ k * cells_in c frames start len + 2 * stray k m

abbrev pub AtLeast : Type 0
AtLeast = EveryChain AtLeastOn

-- Where every frame has at most m, it has no more than that share and twice the stray of m.
abbrev pub AtMostOn : ℕ → ℕ → List Carried → Type 0
AtMostOn ports k frames =
    (start len : ℕ) → start + len ≤ length frames * 2 ^ k → (c : Class) → OnSwitch ports c
    → (m : ℕ) → Every (λ f. load c f.call.list ≤ m) frames → 2 ^ k * cells_in c frames start len ≤ len * m + 2 * stray k m

abbrev pub AtMost : Type 0
AtMost = EveryChain AtMostOn
