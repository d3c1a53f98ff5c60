-- The exchange in another form, by which it is computed; it need not be believed, since the law `by_swaps` holds it to the rule. Where two cells
-- of the former slot have one output, the two slots' entries of an input change places.
use Rattle.std.specs.Prelude.{ℕ, suc, zero, ◌+◌, List, Bool, not, eqb, ltb}
use Rattle.rules.specs.Words.{if, both, bit, first}
use Rattle.rules.specs.Flows.{output}
use Rattle.exchange.specs.Exchange.{entry_at, put_at, port_to, Exchanged}

-- The output of the flow that an entry is the number of, from 1; 0 where it is idle.
unfoldable pub output_number : List ℕ → ℕ → ℕ
output_number list e = if (eqb e 0) 0 (suc (port_to output list e))

-- The cell of input i in slot s is one to output o, from 1, and i is not a given input.
unfoldable pub goes_to : ℕ → List ℕ → List ℕ → ℕ → ℕ → ℕ → ℕ → Bool
goes_to ports list frame s o but i = both (not (eqb i but)) (eqb (output_number list (entry_at ports frame s i)) o)

-- The lowest such input; ports where there is none.
abbrev pub lowest_to : ℕ → List ℕ → List ℕ → ℕ → ℕ → ℕ → ℕ
lowest_to ports list frame s o but = first (goes_to ports list frame s o but) 0 ports

-- The entries of input j in slots s and t change places.
abbrev pub swapped : ℕ → List ℕ → ℕ → ℕ → ℕ → List ℕ
swapped ports frame s t j = put_at ports (put_at ports frame s j (entry_at ports frame t j)) t j (entry_at ports frame s j)

-- How many cells that moves, where input j has one in slot s.
abbrev pub moved_by : ℕ → List ℕ → ℕ → ℕ → ℕ
moved_by ports frame t j = 1 + bit (not (eqb (entry_at ports frame t j) 0))

abbrev pub more_moved : ℕ → Exchanged → Exchanged
more_moved n x = record { frame = x.frame; moved = n + x.moved }

-- Input f has the cell that came into slot s last. While another input has one of the same output there, the entries of that input change
-- places, and so on, at most so many times.
unfoldable pub swaps : ℕ → ℕ → List ℕ → List ℕ → ℕ → ℕ → ℕ → Exchanged
swaps zero ports list frame s t f = record { frame = frame; moved = 0 }
swaps (suc n) ports list frame s t f =
    let o = output_number list (entry_at ports frame s f) in
    let j = lowest_to ports list frame s o f in
    if (both (not (eqb o 0)) (ltb j ports))
    (more_moved (moved_by ports frame t j) (swaps n ports list (swapped ports frame s t j) s t j))
    record { frame = frame; moved = 0 }
