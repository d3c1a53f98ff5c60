-- The sharp bound on the wire, whatever the loads. It follows from the bound of each load, and demand 3 follows from it.
use Rattle.std.specs.Prelude.{ℕ, ◌+◌, ◌*◌, ◌^◌, ◌≤◌, ◌≡◌, List, length}
use Rattle.rules.specs.Flows.{Class, OnSwitch}
use Rattle.strays.specs.Deviation.{deviation}
use Rattle.wire.specs.Wire.{Carried, EveryChain}
use Rattle.bounds.specs.ByLoad.{NearShare}

-- Each end of a run may be off by one deviation; an end that is the beginning or the end of a frame is not off at all.
pub record SharpRun (c : Class) (k : ℕ) (frames : List Carried) (start len : ℕ) : Type 0 where
  pub any : NearShare (2 * deviation k) c k frames start len
  pub begins_frame : (b : ℕ) → start ≡ b * 2 ^ k → NearShare (deviation k) c k frames start len
  pub ends_frame : (b : ℕ) → start + len ≡ b * 2 ^ k → NearShare (deviation k) c k frames start len

abbrev pub SharpOn : ℕ → ℕ → List Carried → Type 0
SharpOn ports k frames = (start len : ℕ) → start + len ≤ length frames * 2 ^ k → (c : Class) → OnSwitch ports c → SharpRun c k frames start len

-- For the chains of demand 3, which follows from it: 6 × deviation k is at most (2k + 1) × 2 ^ k.
abbrev pub Sharp : Type 0
Sharp = EveryChain SharpOn
