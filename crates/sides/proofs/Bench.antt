-- Turn in single cases, each of which a slip of the pen would change: one list, computed from the definitions.
use Prim.Native.Nat.{ℕ}
use mathlib.Core.Path.{◌≡◌, refl}
use mathlib.Core.List.{List, [], ◌∷◌, ◌++◌, map}
use Rattle.rules.specs.Words.{sum_to}
use Rattle.rules.specs.Flows.{Side, input, output, port_of}
use Rattle.rules.specs.Frames.{cells_on, run_of}
use Rattle.calls.specs.Inspect.{is_wrong, twice_in, used_twice}
use Rattle.calls.proofs.Bench.{Case, table7, table7_frame}
use Rattle.sides.specs.Turn.{entry_of, by_side, turn_checks, turn_answer, second_after}

-- The frame of the Table 7 sheet by output: in slot 2 output 1 takes flow 3, and output 2 takes flow 2.
abbrev by_output : List ℕ
by_output = 1 ∷ 0 ∷ 0 ∷ 5 ∷ 3 ∷ 2 ∷ 0 ∷ 0 ∷ 1 ∷ 4 ∷ 0 ∷ 0 ∷ 0 ∷ 2 ∷ 0 ∷ 5 ∷ []

-- What Turn answers, and the second buffer after.
turns : Side → ℕ → ℕ → List ℕ → List ℕ → List ℕ → List ℕ → List ℕ → Case
turns side ports slots list entries second answer after =
    record { gives = turn_answer side ports slots list entries second ++ second_after side ports slots list entries second; says = answer ++ after }

-- Two flows of one cell: from inputs 1 and 2 to output 1, and from input 1 to outputs 1 and 2.
abbrev joint : List ℕ
joint = 1 ∷ 1 ∷ 1 ∷ 1 ∷ 2 ∷ 1 ∷ 1 ∷ 1 ∷ []

abbrev forked : List ℕ
forked = 1 ∷ 1 ∷ 1 ∷ 1 ∷ 1 ∷ 2 ∷ 1 ∷ 1 ∷ []

pub cases : List Case
cases =
    turns input 4 4 table7 table7_frame (7 ∷ 7 ∷ 7 ∷ 7 ∷ 7 ∷ 7 ∷ 7 ∷ 7 ∷ 7 ∷ 7 ∷ 7 ∷ 7 ∷ 7 ∷ 7 ∷ 7 ∷ 7 ∷ []) (0 ∷ []) by_output
    ∷ turns output 4 4 table7 by_output (7 ∷ 7 ∷ 7 ∷ 7 ∷ 7 ∷ 7 ∷ 7 ∷ 7 ∷ 7 ∷ 7 ∷ 7 ∷ 7 ∷ 7 ∷ 7 ∷ 7 ∷ 7 ∷ []) (0 ∷ []) table7_frame
    -- a flow at another's place, which is right there on the other side; a number above the list; a port of the other side twice
    ∷ turns input 2 1 joint (2 ∷ 0 ∷ []) (8 ∷ 9 ∷ []) (14 ∷ []) (8 ∷ 9 ∷ [])
    ∷ turns output 2 1 joint (2 ∷ 0 ∷ []) (8 ∷ 9 ∷ []) (0 ∷ []) (0 ∷ 2 ∷ [])
    ∷ turns output 2 1 joint (3 ∷ 0 ∷ []) (8 ∷ 9 ∷ []) (14 ∷ []) (8 ∷ 9 ∷ [])
    ∷ turns input 2 1 joint (1 ∷ 2 ∷ []) (8 ∷ 9 ∷ []) (14 ∷ []) (8 ∷ 9 ∷ [])
    ∷ turns output 2 1 forked (1 ∷ 2 ∷ []) (8 ∷ 9 ∷ []) (14 ∷ []) (8 ∷ 9 ∷ [])
    -- a second buffer of another length, before that; a frame of another length, before that
    ∷ turns input 2 1 joint (3 ∷ 0 ∷ []) (8 ∷ []) (15 ∷ []) (8 ∷ [])
    ∷ turns input 2 1 joint (3 ∷ []) (8 ∷ 9 ∷ []) (4 ∷ []) (8 ∷ 9 ∷ [])
    ∷ []

pub turned_cases : map (λ c. c.gives) cases ≡ map (λ c. c.says) cases
unfolding cases turns turn_checks by_side entry_of is_wrong used_twice twice_in cells_on run_of sum_to port_of
turned_cases = refl
