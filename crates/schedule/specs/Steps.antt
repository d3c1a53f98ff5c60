-- The steps of a frame, as functions of the lists that they are lent.
use Rattle.std.specs.Prelude.{ℕ, ◌≤◌, ◌<◌, ◌≡◌, List, length}
use Rattle.rules.specs.Words.{Every}
use Rattle.rules.specs.Flows.{End, inputs, flows, port_of, counts_of, Fits}
use Rattle.rules.specs.Schedule.{put}
use Rattle.checks.specs.Fits.{ListFits, FrameFits}
use Rattle.planes.specs.Tables.{tabled}
use Rattle.split.specs.Steps.{Sides}

-- ---- what is built
-- A list whose loads fit the slots of a frame.
pub record Fillable (ports slots : ℕ) (list buffer : List ℕ) : Type 0 where
  pub listed : ListFits ports list
  pub framed : FrameFits ports slots buffer
  pub fits : Fits ports slots (port_of list) (counts_of list)

-- ---- ports
-- A table has inputs of a switch of so many ports for the first n positions; and what a split is told of the ends of these.
abbrev pub InputsBelow : ℕ → ℕ → List ℕ → Type 0
InputsBelow ports n ends = (p : ℕ) → p < n → tabled ends inputs p < ports

pub record Tables (ports n multi : ℕ) (ends : List ℕ) : Type 0 where
  pub few : ports ≤ 16
  pub at_inputs : InputsBelow ports n ends
  pub sides : Sides n multi ends

-- A table has the input and the link of every flow of a list.
pub record Tabled (list ends : List ℕ) : Type 0 where
  pub has : (s : End) (f : ℕ) → f < flows list → tabled ends s f ≡ port_of list s f

-- ---- slots
-- A list has positions at the inputs of a slot.
pub record AtSlot (ends : List ℕ) (ports : ℕ) (list : List ℕ) : Type 0 where
  pub each : Every (λ p. (p < 528) × (tabled ends inputs p < ports)) list

-- The slot was s, and with the numbers of a list written it is t.
pub record PutBy (ends list s t : List ℕ) : Type 0 where
  pub len : length t ≡ length s
  pub same : t ≡ put (tabled ends) list s
