-- The frame of two slots in which Add moves as many cells as it can, for each number of ports above 1: every displaced cell displaces the next.
use Prim.Native.Nat.{ℕ, suc, ◌*◌, ◌-◌}
use mathlib.Core.List.{List, [], ◌∷◌, ◌++◌}
use Rattle.rules.specs.Words.{up_from}

-- A flow of one cell from an input to an output, on link 1, for each of some numbers.
abbrev flows_from : (ℕ → ℕ) → List ℕ → List ℕ
flows_from to [] = []
flows_from to (x ∷ l) = suc x ∷ to x ∷ 1 ∷ 1 ∷ flows_from to l

-- The flows of the first slot, from input x + 1 to output x; those of the second, from input x + 1 to output x + 1, and from input 1 to the last
-- output; and the one that is added, from input 1 to output 1.
unfoldable pub chain_list : ℕ → List ℕ
chain_list ports =
    flows_from (λ x. x) (up_from 1 (ports - 1))
    ++ (flows_from suc (up_from 1 (ports - 2)) ++ (1 ∷ ports ∷ 1 ∷ 1 ∷ 1 ∷ 1 ∷ 1 ∷ 1 ∷ []))

-- The first slot is idle at input 1, and the second at the last input and at output 1.
unfoldable pub chain_frame : ℕ → List ℕ
chain_frame ports = (0 ∷ up_from 1 (ports - 1)) ++ (((2 * ports - 2) ∷ up_from ports (ports - 2)) ++ (0 ∷ []))
