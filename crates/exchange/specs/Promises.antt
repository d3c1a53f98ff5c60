-- What holds of what Add leaves; and what Add answers, case by case.
use Rattle.std.specs.Prelude.{ℕ, suc, ◌+◌, ◌*◌, ◌-◌, ◌≤◌, ◌<◌, ◌≡◌, ◌⊎◌, List, [], ◌∷◌, true, length, get_or}
use Rattle.rules.specs.Words.{bit, Within}
use Rattle.rules.specs.Flows.{flows, port_of, counts_of, with_cells, Side, input, output, Class, flow, port_on, is_of, load, Fits}
use Rattle.rules.specs.Frames.{cells, run_of, Legal}
use Rattle.calls.specs.Demand2.{WellFormed}
use Rattle.calls.specs.Answers.{Exactly, FrameRefused, Throughout, EntryRight, PortOnce, FirstNot}
use Rattle.usable_frames.specs.Usable.{Usable}
use Rattle.exchange.specs.Exchange.{port_to, cell_put, Exchanges}
use Rattle.exchange.specs.Add.{added, add_accepts, add_answer, add_leaves}

-- Slot s is one that Add chose: the answer names it, from 1.
abbrev pub Chosen : ℕ → ℕ → List ℕ → List ℕ → ℕ → ℕ → Type 0
Chosen ports slots list frame e s = (get_or (add_answer ports slots list frame e) 1 0 ≡ suc s) ⊎ (get_or (add_answer ports slots list frame e) 2 0 ≡ suc s)

-- The one or two slots that the answer names are all that changes.
abbrev pub OnlyThose : Type 0
OnlyThose =
    (ports slots : ℕ) (list frame : List ℕ) (e : ℕ) → add_accepts ports slots list frame e ≡ true → (s : ℕ) → s < slots
    → (Chosen ports slots list frame e s → ⊥) → run_of ports s 1 (add_leaves ports slots list frame e) ≡ run_of ports s 1 frame

-- No wrong entry and no output used twice in a slot arises.
abbrev pub StaysUsable : Type 0
StaysUsable =
    (ports slots : ℕ) (list frame : List ℕ) (e : ℕ) → add_accepts ports slots list frame e ≡ true
    → Usable input ports slots list (add_leaves ports slots list frame e)

-- The cells of the added flow, and of its input, its output and its link, and the total, are one more, and all others as many as before.
abbrev pub OneCellMore : Type 0
OneCellMore =
    (ports slots : ℕ) (list frame : List ℕ) (e : ℕ) → add_accepts ports slots list frame e ≡ true
    → (c : Class) → cells c ports list (add_leaves ports slots list frame e) ≡ cells c ports list frame + bit (is_of c (port_of list) (e - 1))

-- The list with one cell more of flow number e.
abbrev pub with_one_more : List ℕ → ℕ → List ℕ
with_one_more list e = with_cells list (e - 1) (load (flow (e - 1)) list + 1)

-- A frame legal for a list is then legal for the list with that flow's cells one higher.
abbrev pub StaysLegal : Type 0
StaysLegal =
    (ports slots : ℕ) (list frame : List ℕ) (e : ℕ) → add_accepts ports slots list frame e ≡ true → Legal ports slots list frame
    → Legal ports slots (with_one_more list e) (add_leaves ports slots list frame e)

-- Of a frame legal for a well-formed list, Add accepts every flow of the list whose list with one cell more fits.
abbrev pub FitsAdds : Type 0
FitsAdds =
    (ports slots : ℕ) (list frame : List ℕ) (e : ℕ) → WellFormed ports slots list → Legal ports slots list frame → Within 1 (flows list) e
    → Fits ports slots (port_of (with_one_more list e)) (counts_of (with_one_more list e)) → add_accepts ports slots list frame e ≡ true

-- At most 2 × ports - 3 cells are moved, which is none where there is one port; and for every number of ports some call moves as many.
abbrev pub FewMoved : Type 0
FewMoved =
    (ports slots : ℕ) (list frame : List ℕ) (e : ℕ) → add_accepts ports slots list frame e ≡ true
    → (added ports slots list frame e).moved ≤ 2 * ports - 3

pub record MovesMost (ports : ℕ) : Type 0 where
  pub list : List ℕ
  pub frame : List ℕ
  pub flow : ℕ
  pub accepts : add_accepts ports 2 list frame flow ≡ true
  pub moves : (added ports 2 list frame flow).moved ≡ 2 * ports - 3

abbrev pub MostMoved : Type 0
MostMoved = (ports : ℕ) → Within 1 16 ports → MovesMost ports

-- Add accepts exactly where the number of its answer is 0.
abbrev pub AddedWith0 : Type 0
AddedWith0 =
    (ports slots : ℕ) (list frame : List ℕ) (e : ℕ)
    → (add_accepts ports slots list frame e ≡ true → get_or (add_answer ports slots list frame e) 0 0 ≡ 0)
    × (get_or (add_answer ports slots list frame e) 0 0 ≡ 0 → add_accepts ports slots list frame e ≡ true)

-- ---- case by case
-- The port on a side of flow number e is busy in slot s.
abbrev pub Busy : Side → ℕ → List ℕ → List ℕ → ℕ → ℕ → Type 0
Busy side ports list frame e s = 1 ≤ cells (port_on side (port_to side list e)) ports list (run_of ports s 1 frame)

-- One of its ports is.
abbrev pub OneBusy : ℕ → List ℕ → List ℕ → ℕ → ℕ → Type 0
OneBusy ports list frame e s = Busy input ports list frame e s ⊎ Busy output ports list frame e s

-- What is looked at after 12.
pub record Asked (ports slots : ℕ) (list frame : List ℕ) (e : ℕ) : Type 0 where
  pub usable : Usable input ports slots list frame
  pub listed : Within 1 (flows list) e

-- 1, 2, 3, 21, 22, 23, 4; 12 where e is not the number of a flow of the list; 16 where an entry is wrong or an output is used twice in a slot;
-- 17 where the flow's input is busy in every slot, 18 where its output is; each with the frame as it was lent. Or 0, with the first slot in
-- which neither port is busy, no other slot and no cell moved; or, where there is none, with the first slot in which the input is not busy, the
-- first in which the output is not, and how many cells the exchange of these slots moves, and the frame that it leaves.
pub data Adds (ports slots : ℕ) (list frame : List ℕ) (e : ℕ) : List ℕ × List ℕ → Type 0 where
  refused : {n : ℕ} → FrameRefused ports slots list frame n → Adds ports slots list frame e (n ∷ [], frame)
  flow_12 : WellFormed ports slots list → length frame ≡ slots * ports → (Within 1 (flows list) e → ⊥) → Adds ports slots list frame e (12 ∷ [], frame)
  entry_16 : WellFormed ports slots list → length frame ≡ slots * ports → Within 1 (flows list) e
      → (Throughout slots ports (EntryRight input ports list frame) → ⊥) → Adds ports slots list frame e (16 ∷ [], frame)
  twice_16 : WellFormed ports slots list → length frame ≡ slots * ports → Within 1 (flows list) e
      → (Throughout slots ports (PortOnce input ports list frame) → ⊥) → Adds ports slots list frame e (16 ∷ [], frame)
  input_17 : Asked ports slots list frame e → ((s : ℕ) → s < slots → Busy input ports list frame e s) → Adds ports slots list frame e (17 ∷ [], frame)
  output_18 : Asked ports slots list frame e → {s : ℕ} → FirstNot slots (Busy input ports list frame e) s
      → ((s : ℕ) → s < slots → Busy output ports list frame e s) → Adds ports slots list frame e (18 ∷ [], frame)
  one_slot : Asked ports slots list frame e → {s : ℕ} → FirstNot slots (OneBusy ports list frame e) s
      → Adds ports slots list frame e (0 ∷ suc s ∷ 0 ∷ 0 ∷ [], cell_put ports list frame e s)
  two_slots : Asked ports slots list frame e → ((s : ℕ) → s < slots → OneBusy ports list frame e s)
      → {s t : ℕ} → FirstNot slots (Busy input ports list frame e) s → FirstNot slots (Busy output ports list frame e) t
      → {new : List ℕ} {moved : ℕ} → Exchanges ports list frame e s t new moved
      → Adds ports slots list frame e (0 ∷ suc s ∷ suc t ∷ moved ∷ [], new)

-- Add's answer and what it leaves are those of a case, and what any case says is that.
abbrev pub AddByCases : Type 0
AddByCases =
    (ports slots : ℕ) (list frame : List ℕ) (e : ℕ)
    → Exactly (Adds ports slots list frame e) (add_answer ports slots list frame e, add_leaves ports slots list frame e)
