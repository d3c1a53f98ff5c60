-- The queue of one flow at a line card, and how deep its buffer has to be.
use Rattle.std.specs.Prelude.{ℕ, suc, zero, ◌+◌, ◌*◌, ◌-◌, ◌/◌, ◌^◌, ◌≤◌, ◌<◌, min, ◌≡◌, List, [], ◌++◌, pos, neg_ℤ, length, drop, ◌≤ℤ◌}
use Rattle.rules.specs.Words.{up_from, sum_to, Every}
use Rattle.rules.specs.Flows.{Class, OnSwitch, load}
use Rattle.rules.specs.Frames.{cells, repeated}
use Rattle.calls.specs.Service.{lead}
use Rattle.strays.specs.Stray.{stray}
use Rattle.wire.specs.Wire.{Carried, cells_at, share, EveryChain}
use Rattle.wire.specs.Loads.{load_of}
use Rattle.bounds.specs.ByLoad.{StrayWithin}

-- How many cells wait after the first t slots. The cells that arrive in a slot join before that slot's cell leaves, and a
-- flow scheduled with none waiting sends nothing: what is taken away stops at 0.
unfoldable pub waiting : (ℕ → ℕ) → (ℕ → ℕ) → ℕ → ℕ
waiting arrive scheduled zero = 0
waiting arrive scheduled (suc t) = waiting arrive scheduled t + arrive t - scheduled t

-- What a switch sends of a flow in slot t: as many of the cells that wait, and of those that arrive in the slot, as are scheduled.
abbrev pub sent : (ℕ → ℕ) → (ℕ → ℕ) → ℕ → ℕ
sent arrive scheduled t = min (waiting arrive scheduled t + arrive t) (scheduled t)

-- The same queue cell by cell, first in, first out: the cells that wait, in front the one that is next to leave. They are
-- numbered as they arrive; those of a slot join at the back, and as many as are scheduled leave from the front.
unfoldable pub queue : (ℕ → ℕ) → (ℕ → ℕ) → ℕ → List ℕ
queue arrive scheduled zero = []
queue arrive scheduled (suc t) = drop (scheduled t) (queue arrive scheduled t ++ up_from (sum_to t arrive) (arrive t))

-- The cells that arrive in a run of len slots from slot start on.
unfoldable pub arrived : (ℕ → ℕ) → ℕ → ℕ → ℕ
arrived arrive start len = sum_to len (λ t. arrive (start + t))

-- In no run of the first slots do more cells arrive than the run's share and an allowance a, both in parts of 1 / 2 ^ k of a cell.
abbrev pub Paced : ℕ → ℕ → ℕ → (ℕ → ℕ → ℕ) → (ℕ → ℕ) → Type 0
Paced k a slots share_of arrive =
    (start len : ℕ) → start + len ≤ slots → 2 ^ k * arrived arrive start len ≤ share_of start len + a

-- After slot t at most a + gap parts of 1 / 2 ^ k of a cell wait, and just before its cell leaves at most the share of that slot more.
-- Nothing is rounded.
pub record Held (k a gap : ℕ) (share_of : ℕ → ℕ → ℕ) (arrive scheduled : ℕ → ℕ) (t : ℕ) : Type 0 where
  pub after : 2 ^ k * waiting arrive scheduled (suc t) ≤ a + gap
  pub before : 2 ^ k * (waiting arrive scheduled t + arrive t) ≤ a + gap + share_of t 1

-- A flow that is paced by its share is held, in every slot of the chain, with a gap for each; what a chain schedules for it in a slot is
-- its cells there.
abbrev pub HeldOn : Class → ℕ → (ℕ → ℕ) → List Carried → (ℕ → ℕ → ℕ) → Type 0
HeldOn c k gap frames share_of =
    (a : ℕ) (arrive : ℕ → ℕ) → Paced k a (length frames * 2 ^ k) share_of arrive → (t : ℕ) → t < length frames * 2 ^ k
    → Held k a (gap t) share_of arrive (cells_at c frames) t

-- How deep a buffer to order: for every chain that demand 3 covers in which the flow's load is m in every frame, the share
-- of L slots being L × m / 2 ^ k, with twice the stray of m.
abbrev pub Buffers : Type 0
Buffers =
    EveryChain
    (λ ports k frames.
    (c : Class) → OnSwitch ports c → (m : ℕ) → Every (λ f. load c f.call.list ≡ m) frames
    → HeldOn c k (λ t. 2 * stray k m) frames (λ start len. len * m))

-- The same where the flow's load changes at a seam: its share is then demand 3's, each slot counted with its own frame's load. With s no
-- less than the stray of any frame's load, the gap of a slot is s and the stray of the load of its own frame.
abbrev pub BuffersAtSeams : Type 0
BuffersAtSeams =
    EveryChain
    (λ ports k frames.
    (c : Class) → OnSwitch ports c → (s : ℕ) → StrayWithin k s c frames
    → HeldOn c k (λ t. s + stray k (load_of c frames (t / 2 ^ k))) frames (share c 0 frames))

-- What waits on one frame that repeats for ever, of any entries, by the frame's own leads: after a slot at most a + b parts of
-- 1 / slots of a cell, and just before its cell leaves at most the cells of a frame more.
pub record HeldBy (c : Class) (ports slots : ℕ) (list entries : List ℕ) (a b : ℕ) (arrive : ℕ → ℕ) (t : ℕ) : Type 0 where
  pub after : slots * waiting arrive (λ s. cells c ports list (repeated ports slots entries s 1)) (suc t) ≤ a + b
  pub before : slots * (waiting arrive (λ s. cells c ports list (repeated ports slots entries s 1)) t + arrive t) ≤ a + b + cells c ports list entries

-- How deep a buffer to order while one frame repeats: no run's lead is below −b, and in no run do more cells arrive than its
-- share of what the frame holds and an allowance a.
abbrev pub BuffersByLead : Type 0
BuffersByLead =
    (c : Class) (ports slots : ℕ) (list entries : List ℕ) → length entries ≡ slots * ports → 1 ≤ slots
    → (b : ℕ) → ((start len : ℕ) → neg_ℤ (pos b) ≤ℤ lead c ports slots list entries start len)
    → (a : ℕ) (arrive : ℕ → ℕ) → ((start len : ℕ) → slots * arrived arrive start len ≤ len * cells c ports list entries + a)
    → (t : ℕ) → HeldBy c ports slots list entries a b arrive t
