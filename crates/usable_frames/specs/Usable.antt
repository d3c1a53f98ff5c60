-- Frames that neither 14 nor 16 turns away.
use Rattle.std.specs.Prelude.{ℕ, ◌*◌, ◌≡◌, List, length}
use Rattle.rules.specs.Flows.{Side}
use Rattle.calls.specs.Demand2.{WellFormed}
use Rattle.calls.specs.Answers.{Throughout, EntryRight, PortOnce}

-- A frame of a well-formed list in which no entry is wrong and no slot uses a port of the other side twice.
pub record Usable (side : Side) (ports slots : ℕ) (list entries : List ℕ) : Type 0 where
  pub well : WellFormed ports slots list
  pub size : length entries ≡ slots * ports
  pub each_right : Throughout slots ports (EntryRight side ports list entries)
  pub each_once : Throughout slots ports (PortOnce side ports list entries)
