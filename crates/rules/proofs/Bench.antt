-- What the definitions come to in single cases, each of which a slip of the pen would change.
use Prim.Native.Nat.{ℕ}
use mathlib.Core.Path.{◌≡◌, refl}
use mathlib.Core.List.{List, [], ◌∷◌}
use mathlib.Core.Bool.{true, false}
use native.Mathlib.Omega.{arith}
use Rattle.rules.specs.Words.{sum_to}
use Rattle.rules.specs.Flows.{flow, port_on, input, output, link, total, port_of, counts_of, load_in, load}
use Rattle.rules.specs.Frames.{right, right_on, cells, cells_on, run_of, Legal, whole, Balanced}
use Rattle.rules.specs.Schedule.{walk, settle_at, favours}

-- ---- loads and entries
-- two flows of one cell, from input 1 to output 2 and from input 2 to output 1
abbrev crossed : List ℕ
crossed = 1 ∷ 2 ∷ 1 ∷ 1 ∷ 2 ∷ 1 ∷ 1 ∷ 1 ∷ []

-- the second is wrong at input 1, and right at its own; a number past the list is wrong
pub entries_right : (right crossed 0 2 ≡ false) × (right crossed 1 2 ≡ true) × (right crossed 1 9 ≡ false)
unfolding port_of
entries_right = (refl, refl, refl)

-- on the output side it is right at output 1, and wrong at output 2
pub outputs_right : (right_on output crossed 0 2 ≡ true) × (right_on output crossed 1 2 ≡ false) × (right_on output crossed 0 9 ≡ false)
unfolding port_of
outputs_right = (refl, refl, refl)

-- a number past the list has no load
pub none_past : load (flow 2) crossed ≡ 0
unfolding sum_to port_of counts_of load_in
none_past = refl

-- An entry that is no flow counts for its input only, not for the first link or the total, and one that is a flow counts for its own output.
-- Slot 1 has the second flow at input 1 and a number past the list at input 2, slot 2 has the first at its own input.
abbrev OnlyAtItsInput : List ℕ → Type 0
OnlyAtItsInput entries =
    (cells (port_on input 1) 2 crossed entries ≡ 1) × (cells (flow 8) 2 crossed entries ≡ 0) × (cells (port_on output 0) 2 crossed entries ≡ 1)
    × (cells (link 0) 2 crossed entries ≡ 1) × (cells total 2 crossed entries ≡ 2)

pub no_flow_counts : OnlyAtItsInput (2 ∷ 9 ∷ 1 ∷ 0 ∷ [])
unfolding cells_on sum_to port_of
no_flow_counts = (refl, refl, refl, refl, refl)

-- On the output side it counts for its output only, and one that is a flow counts for its own input: the same entries, of outputs.
pub only_at_its_output : (cells_on output 2 crossed (port_on output 1) (2 ∷ 9 ∷ 1 ∷ 0 ∷ []) ≡ 1) × (cells_on output 2 crossed (port_on input 1) (2 ∷ 9 ∷ 1 ∷ 0 ∷ []) ≡ 1)
    × (cells_on output 2 crossed (port_on input 0) (2 ∷ 9 ∷ 1 ∷ 0 ∷ []) ≡ 1) × (cells_on output 2 crossed (port_on output 0) (2 ∷ 9 ∷ 1 ∷ 0 ∷ []) ≡ 2)
unfolding cells_on sum_to port_of
only_at_its_output = (refl, refl, refl, refl)

-- ---- frames that are not legal, or not balanced
-- two flows to one output, of a cell and of two
abbrev joint : List ℕ
joint = 1 ∷ 1 ∷ 1 ∷ 1 ∷ 2 ∷ 1 ∷ 2 ∷ 1 ∷ []

-- the second has one cell of two
pub not_legal_short : Legal 2 2 joint (1 ∷ 0 ∷ 0 ∷ 2 ∷ []) → ⊥
unfolding cells_on sum_to port_of counts_of load_in
not_legal_short l = omega (arith, l.exact 1 (omega arith))

-- the first slot has both
pub not_legal_twice : Legal 2 2 joint (1 ∷ 2 ∷ 0 ∷ 2 ∷ []) → ⊥
unfolding cells_on run_of sum_to port_of
not_legal_twice l = omega (arith, l.once 0 0 (omega arith) (omega arith))

-- both cells of a flow in the first half
pub not_balanced : Balanced 1 4 (1 ∷ 1 ∷ 2 ∷ 1 ∷ []) (1 ∷ 1 ∷ 0 ∷ 0 ∷ []) → ⊥
unfolding cells_on run_of sum_to port_of
not_balanced b = omega (arith, (b total tt 0 2 whole).0)

-- ---- partners at an output
-- three flows of one cell to one output, on links 2, 3 and 1
abbrev linked : List ℕ
linked = 1 ∷ 1 ∷ 1 ∷ 2 ∷ 2 ∷ 1 ∷ 1 ∷ 3 ∷ 3 ∷ 1 ∷ 1 ∷ 1 ∷ []

-- by rising link the third and the first are partners
pub by_rising_link : favours (port_of linked) (counts_of linked) ≡ 1 ∷ 1 ∷ 2 ∷ []
unfolding port_of counts_of favours settle_at walk
by_rising_link = refl
