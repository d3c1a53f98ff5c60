-- What holds of a frame that Turn accepts and of what Turn leaves; and what Turn answers, case by case.
use Rattle.std.specs.Prelude.{ℕ, ◌*◌, ◌≡◌, List, [], ◌∷◌, true, length}
use Rattle.rules.specs.Flows.{Side, input, output, other}
use Rattle.calls.specs.Demand2.{WellFormed}
use Rattle.calls.specs.Build.{build_accepts, frame_after}
use Rattle.calls.specs.Inspect.{inspected}
use Rattle.calls.specs.Service.{service}
use Rattle.calls.specs.Answers.{Exactly, FrameRefused, Throughout, EntryRight, PortOnce}
use Rattle.calls.specs.declared.Who.{Who}
use Rattle.sides.specs.Turn.{BySide, turn_accepts, turn_answer, turn_number, second_after}

-- Turned twice, a frame that is accepted gives its first entries again: what Turn leaves is accepted as a frame of the other side.
abbrev pub TurnedTwice : Type 0
TurnedTwice =
    (side : Side) (ports slots : ℕ) (list entries second third : List ℕ) → turn_accepts side ports slots list entries second ≡ true
    → length third ≡ length entries
    → (turn_accepts (other side) ports slots list (second_after side ports slots list entries second) third ≡ true)
    × (second_after (other side) ports slots list (second_after side ports slots list entries second) third ≡ entries)

-- Inspect answers the same of the frame and of what Turn leaves, told the other side.
abbrev pub InspectAgrees : Type 0
InspectAgrees =
    (side : Side) (ports slots : ℕ) (list entries second : List ℕ) → turn_accepts side ports slots list entries second ≡ true
    → inspected (other side) ports slots list (second_after side ports slots list entries second) ≡ inspected side ports slots list entries

-- So does Service count, with the lead, whatever is asked of it.
abbrev pub CountAgrees : Type 0
CountAgrees =
    (side : Side) (ports slots : ℕ) (list entries second : List ℕ) → turn_accepts side ports slots list entries second ≡ true
    → (who : Who) (start len : ℕ)
    → service (other side) ports slots list (second_after side ports slots list entries second) who start len
    ≡ service side ports slots list entries who start len

-- What an accepted Build leaves turns, and is clean on the output side.
abbrev pub BuiltTurns : Type 0
BuiltTurns =
    (ports slots : ℕ) (list limits buffer second : List ℕ) → build_accepts ports slots list limits buffer ≡ true → length second ≡ slots * ports
    → (turn_accepts input ports slots list (frame_after ports slots list limits buffer) second ≡ true)
    × (inspected output ports slots list (second_after input ports slots list (frame_after ports slots list limits buffer) second) ≡ 0 ∷ [])

-- Turn accepts exactly where the number of its answer is 0.
abbrev pub TurnedWith0 : Type 0
TurnedWith0 =
    (side : Side) (ports slots : ℕ) (list entries second : List ℕ)
    → (turn_accepts side ports slots list entries second ≡ true → turn_number side ports slots list entries second ≡ 0)
    × (turn_number side ports slots list entries second ≡ 0 → turn_accepts side ports slots list entries second ≡ true)

-- 1, 2, 3, 21, 22, 23, 4; 15; 14 where an entry is wrong or a port of the other side is used twice in a slot; each with the second buffer as
-- it was lent. Or accepted, which is 0, with the frame's entries by the other side.
pub data Turns (side : Side) (ports slots : ℕ) (list entries second : List ℕ) : List ℕ × List ℕ → Type 0 where
  refused : {n : ℕ} → FrameRefused ports slots list entries n → Turns side ports slots list entries second (n ∷ [], second)
  second_15 : WellFormed ports slots list → length entries ≡ slots * ports → (length second ≡ length entries → ⊥)
      → Turns side ports slots list entries second (15 ∷ [], second)
  entry_14 : WellFormed ports slots list → length entries ≡ slots * ports → length second ≡ length entries
      → (Throughout slots ports (EntryRight side ports list entries) → ⊥) → Turns side ports slots list entries second (14 ∷ [], second)
  twice_14 : WellFormed ports slots list → length entries ≡ slots * ports → length second ≡ length entries
      → (Throughout slots ports (PortOnce side ports list entries) → ⊥) → Turns side ports slots list entries second (14 ∷ [], second)
  accepted : WellFormed ports slots list → length entries ≡ slots * ports → length second ≡ length entries
      → Throughout slots ports (EntryRight side ports list entries) → Throughout slots ports (PortOnce side ports list entries)
      → (new : List ℕ) → BySide (other side) ports slots list entries new → Turns side ports slots list entries second (0 ∷ [], new)

-- Turn's answer and what it leaves are those of a case, and what any case says is that.
abbrev pub TurnByCases : Type 0
TurnByCases =
    (side : Side) (ports slots : ℕ) (list entries second : List ℕ)
    → Exactly (Turns side ports slots list entries second) (turn_answer side ports slots list entries second, second_after side ports slots list entries second)
