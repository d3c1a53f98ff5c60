-- The exchange: a cell is put into a slot, and each displaced cell is moved to the other of two slots until nothing collides.
use Rattle.std.specs.Prelude.{ℕ, suc, zero, ◌+◌, ◌*◌, ◌-◌, ◌<◌, ◌≡◌, List, Bool, true, false, not, eqb, ltb, get_or, set}
use Rattle.rules.specs.Words.{if, both, first}
use Rattle.rules.specs.Flows.{Side, input, output, on_side, port_of}

-- The entry of input i in slot s of a frame of the input side; slots and inputs are numbered from 0 on these pages.
abbrev pub entry_at : ℕ → List ℕ → ℕ → ℕ → ℕ
entry_at ports frame s i = get_or frame (s * ports + i) 0

-- The frame with e there.
abbrev pub put_at : ℕ → List ℕ → ℕ → ℕ → ℕ → List ℕ
put_at ports frame s i e = set frame (s * ports + i) e

-- The port on a side of the flow that an entry is the number of.
abbrev pub port_to : Side → List ℕ → ℕ → ℕ
port_to side list e = on_side side (port_of list) (e - 1)

-- A cell of flow number e that is put into slot s collides there with the cell of input i, if that input has one: it has the same input, or
-- the same output, whatever their links.
unfoldable pub collides : ℕ → List ℕ → List ℕ → ℕ → ℕ → ℕ → Bool
collides ports list frame e s i =
    both (not (eqb (entry_at ports frame s i) 0)) (if (eqb i (port_to input list e)) true (eqb (port_to output list (entry_at ports frame s i)) (port_to output list e)))

-- The frame with a cell of flow number e put into slot s, at its input.
abbrev pub cell_put : ℕ → List ℕ → List ℕ → ℕ → ℕ → List ℕ
cell_put ports list frame e s = put_at ports frame s (port_to input list e) e

-- The same where the cell of input i is displaced by it.
abbrev pub displacing : ℕ → List ℕ → List ℕ → ℕ → ℕ → ℕ → List ℕ
displacing ports list frame e s i = cell_put ports list (put_at ports frame s i 0) e s

-- The rule: a cell of flow number e is put into slot s. Where it collides with none, that is all. Where it collides with one, that cell is
-- displaced and put into the other slot, t, in the same way. `moved` is how many were displaced.
pub data Exchanges (ports : ℕ) (list : List ℕ) : List ℕ → ℕ → ℕ → ℕ → List ℕ → ℕ → Type 0 where
  rests : {frame : List ℕ} {e s t : ℕ} → ((i : ℕ) → i < ports → collides ports list frame e s i ≡ false)
      → Exchanges ports list frame e s t (cell_put ports list frame e s) 0
  displaces : {frame new : List ℕ} {e s t moved : ℕ} (i : ℕ) → i < ports → collides ports list frame e s i ≡ true
      → Exchanges ports list (displacing ports list frame e s i) (entry_at ports frame s i) t s new moved
      → Exchanges ports list frame e s t new (suc moved)

-- What the exchange leaves: a frame, and how many cells were moved.
pub record Exchanged : Type 0 where
  pub frame : List ℕ
  pub moved : ℕ

abbrev pub one_more_moved : Exchanged → Exchanged
one_more_moved x = record { frame = x.frame; moved = suc x.moved }

-- The function: at most so many cells are put, the first and those that are displaced one after the other. Of what Add accepts, with 2 × ports
-- + 1 of them, it is the only thing that meets the rule.
unfoldable pub exchange : ℕ → ℕ → List ℕ → List ℕ → ℕ → ℕ → ℕ → Exchanged
exchange zero ports list frame e s t = record { frame = frame; moved = 0 }
exchange (suc n) ports list frame e s t =
    let i = first (collides ports list frame e s) 0 ports in
    if (ltb i ports)
    (one_more_moved (exchange n ports list (displacing ports list frame e s i) (entry_at ports frame s i) t s))
    record { frame = cell_put ports list frame e s; moved = 0 }
