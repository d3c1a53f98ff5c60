-- The wire: what a list of Build calls puts on it, and demand 3 as one statement about the list.
use Rattle.std.specs.Prelude.{ℕ, ◌+◌, ◌*◌, ◌-◌, ◌^◌, ◌≤◌, min, max, ◌≡◌, List, [], ◌∷◌, ◌++◌, Bool, true, false, ltb, length, replicate}
use Rattle.rules.specs.Words.{if, sum_to, Near, Every}
use Rattle.rules.specs.Flows.{Class, OnSwitch, load}
use Rattle.rules.specs.Frames.{cells, run_of}
use Rattle.calls.specs.Build.{build_accepts, frame_after}

-- A call of Build, and how many times the wire carries the whole buffer after it, none too.
pub record Call : Type 0 where
  pub ports : ℕ
  pub slots : ℕ
  pub list : List ℕ
  pub limits : List ℕ
  pub times : ℕ

-- One frame of the chain: the entries of the buffer, and the last accepted call before it, whose ports, slots and list are the
-- frame's ports, slots and load.
pub record Carried : Type 0 where
  pub call : Call
  pub entries : List ℕ

-- The last accepted call; until a call has been accepted there is none, and nothing is carried.
pub data Last : Type 0 where
  none : Last
  last : Call → Last

abbrev pub carry : Last → List ℕ → ℕ → List Carried
carry none buffer times = []
carry (last call) buffer times = replicate times (record { call = call; entries = buffer })

-- The last accepted call after one more, by whether that is accepted, which is to say that its answer's number is 0: `AcceptedWith0`
-- of `calls/specs/Build`.
abbrev pub next : Bool → Call → Last → Last
next true call before = last call
next false call before = before

-- The frames of the chain: each call gets the buffer as the last one left it.
unfoldable pub chain : Last → List ℕ → List Call → List Carried
chain before buffer [] = []
chain before buffer (c ∷ calls) =
    let now = next (build_accepts c.ports c.slots c.list c.limits buffer) c before in
    let after = frame_after c.ports c.slots c.list c.limits buffer in
    carry now after c.times ++ chain now after calls

-- The frames stand end to end, first slot first. The cells of a class in slot t of them: those of that slot of its frame, counted
-- with that frame's own list; beyond the last slot there are none.
unfoldable pub cells_at : Class → List Carried → ℕ → ℕ
cells_at c [] t = 0
cells_at c (f ∷ frames) t =
    if (ltb t f.call.slots)
    (cells c f.call.ports f.call.list (run_of f.call.ports t 1 f.entries))
    (cells_at c frames (t - f.call.slots))

-- The cells of a run of len slots from slot start on.
unfoldable pub cells_in : Class → List Carried → ℕ → ℕ → ℕ
cells_in c frames start len = sum_to len (λ t. cells_at c frames (start + t))

-- How many slots of the run, len slots from slot start on, are inside the frame of the slots low .. high - 1.
abbrev pub inside : ℕ → ℕ → ℕ → ℕ → ℕ
inside low high start len = min high (start + len) - max low start

-- The share of a run times the slots of a frame: the sum, over the frames, the first of which begins at slot low, of the
-- frame's load times the slots of the run inside it. A frame that the run does not touch adds 0.
unfoldable pub share : Class → ℕ → List Carried → ℕ → ℕ → ℕ
share c low [] start len = 0
share c low (f ∷ frames) start len =
    let high = low + f.call.slots in
    load c f.call.list * inside low high start len + share c high frames start len

-- The frame has these ports and slots.
pub record Shape (ports slots : ℕ) (f : Carried) : Type 0 where
  pub ports_are : f.call.ports ≡ ports
  pub slots_are : f.call.slots ≡ slots

-- Over a chain of frames of 2 ^ k slots: over any run of consecutive slots, none too, and for every flow, input, output and
-- link and for the total, 3 × 2 ^ k × cells differs by at most (2k + 1) × 2 ^ k, either way, from three times the share times 2 ^ k.
abbrev pub Accurate : ℕ → ℕ → List Carried → Type 0
Accurate ports k frames =
    (start len : ℕ) → start + len ≤ length frames * 2 ^ k → (c : Class) → OnSwitch ports c
    → Near ((2 * k + 1) * 2 ^ k) (3 * 2 ^ k * cells_in c frames start len) (3 * share c 0 frames start len)

-- P holds of the chain, its ports and its k for every first buffer and every list of Build calls, refused ones included, whose
-- carried frames all have the same ports and the same 2 ^ k slots.
abbrev pub EveryChain : (ℕ → ℕ → List Carried → Type 0) → Type 0
EveryChain P =
    (buffer : List ℕ) (calls : List Call) (ports k : ℕ)
    → Every (Shape ports (2 ^ k)) (chain none buffer calls) → P ports k (chain none buffer calls)

-- Demand 3: each of those chains is accurate.
abbrev pub Demand3 : Type 0
Demand3 = EveryChain Accurate
