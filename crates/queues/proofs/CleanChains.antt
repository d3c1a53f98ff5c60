-- Frames that Inspect calls clean, whoever made them, have what frames that Build made have.
use Prim.Native.Nat.{ℕ, ◌+◌, ◌*◌, ◌/◌, ◌^◌, ◌≤◌}
use mathlib.Core.Path.{◌≡◌}
use mathlib.Core.List.{List, [], ◌∷◌}
use lib.ListN.{length}
use Rattle.rules.specs.Words.{Every}
use Rattle.rules.specs.Flows.{Class, OnSwitch, input}
use Rattle.calls.specs.Inspect.{inspected}
use Rattle.wire.specs.Wire.{Carried, share, Shape, Accurate}
use Rattle.strays.specs.Stray.{stray}
use Rattle.wire.specs.Loads.{load_of}
use Rattle.bounds.specs.ByLoad.{StrayOn, StrayWithin}
use Rattle.bounds.specs.Lead.{Led}
use Rattle.queues.specs.Queue.{HeldOn}
use Rattle.queues.specs.Wait.{by_stray, WaitsOn, BlocksOn, PacedOn}
use Rattle.calls.specs.Demand2.{WellFormed}
use Rattle.wire.proofs.Chains.{Sound}
use Rattle.wire.proofs.Demand3.{sound_accurate}
use Rattle.bounds.proofs.ByLoad.{sound_stray}
use Rattle.bounds.proofs.Leads.{sound_lead}
use Rattle.queues.proofs.Queues.{sound_held}
use Rattle.queues.proofs.Waits.{sound_waits, sound_paced}
use Rattle.queues.proofs.WholeBlocks.{sound_blocks}
use Rattle.calls.proofs.Clean.{clean_sound}

-- A frame that Inspect calls clean for its call.
pub record Inspected (f : Carried) : Type 0 where
  pub well : WellFormed f.call.ports f.call.slots f.call.list
  pub size : length f.entries ≡ f.call.slots * f.call.ports
  pub clean : inspected input f.call.ports f.call.slots f.call.list f.entries ≡ 0 ∷ []

all_sound : (fs : List Carried) → Every Inspected fs → Every Sound fs
all_sound [] h = tt
all_sound (f ∷ fs) h =
    (clean_sound input f.call.ports f.call.slots f.call.list f.entries h.0.well h.0.size h.0.clean, all_sound fs h.1)

-- Frames that Inspect calls clean, whoever made them, keep the bounds of their loads end to end, are accurate, as demand 3 says,
pub clean_stray : (ports k : ℕ) (frames : List Carried) → Every Inspected frames → Every (Shape ports (2 ^ k)) frames → StrayOn ports k frames
clean_stray ports k frames clean shape = sound_stray ports k frames (all_sound frames clean) shape

pub clean_accurate : (ports k : ℕ) (frames : List Carried) → Every Inspected frames → Every (Shape ports (2 ^ k)) frames → Accurate ports k frames
clean_accurate ports k frames clean shape = sound_accurate ports k frames (all_sound frames clean) shape

-- and hold a flow that keeps to its share;
pub clean_held : (ports k : ℕ) (frames : List Carried) → Every Inspected frames → Every (Shape ports (2 ^ k)) frames → (c : Class) → OnSwitch ports c
    → (s : ℕ) → StrayWithin k s c frames → HeldOn c k (λ t. s + stray k (load_of c frames (t / 2 ^ k))) frames (share c 0 frames)
clean_held ports k frames clean shape c of = sound_held ports k frames (all_sound frames clean) shape c of

-- they keep the longest wait, by the bound of the load, by demand 3's, and by any that is no less,
pub clean_waits : (gap : ℕ → ℕ → ℕ) → ((k m : ℕ) → by_stray k m ≤ gap k m)
    → (ports k : ℕ) (frames : List Carried) → Every Inspected frames → Every (Shape ports (2 ^ k)) frames → WaitsOn gap ports k frames
clean_waits gap wide ports k frames clean shape = sound_waits gap wide ports k frames (all_sound frames clean) shape

-- the one by blocks,
pub clean_blocks : (ports k : ℕ) (frames : List Carried) → Every Inspected frames → Every (Shape ports (2 ^ k)) frames → BlocksOn ports k frames
clean_blocks ports k frames clean shape = sound_blocks ports k frames (all_sound frames clean) shape

-- and that of a flow that keeps to its share;
pub clean_paced : (ports k : ℕ) (frames : List Carried) → Every Inspected frames → Every (Shape ports (2 ^ k)) frames → PacedOn ports k frames
clean_paced ports k frames clean shape = sound_paced ports k frames (all_sound frames clean) shape

-- one of them that repeats for ever has the leads of a built frame.
pub clean_lead : (f : Carried) → Inspected f → (k : ℕ) → f.call.slots ≡ 2 ^ k → (c : Class) → OnSwitch f.call.ports c → (start len : ℕ)
    → Led c f.call.ports f.call.slots k f.call.list f.entries start len
clean_lead f h k power c of =
    let s = clean_sound input f.call.ports f.call.slots f.call.list f.entries h.well h.size h.clean in
    sound_lead s.0 s.1 c of k power
