-- What the code counts: a number for each flow, input, output and link, and for the total.
use Rattle.std.specs.Prelude.{ℕ, ◌<◌, List, map, length, get_or, replicate}
use Rattle.rules.specs.Words.{bit, up_from, sum_to}
use Rattle.rules.specs.Flows.{Class, flow, port_on, input, output, link, total}
use Rattle.rules.specs.Frames.{is_flow_of}
use Rattle.tally.specs.declared.Tally.{Tally}

-- The cells of a class by the flows that the entries are. Where no entry is wrong, they are its cells on either side.
unfoldable pub flow_cells : List ℕ → Class → List ℕ → ℕ
flow_cells list c entries = sum_to (length entries) (λ q. bit (is_flow_of c list (get_or entries q 0)))

-- A tally with no cell counted.
abbrev pub nothing : Tally
nothing = record { flows = replicate 512 0; inputs = replicate 16 0; outputs = replicate 16 0; links = replicate 64 0; total = 0 }

-- The tally of some entries: the cells of each class. A class that the switch or the list does not have has none.
unfoldable pub tally_of : List ℕ → List ℕ → Tally
tally_of list entries =
    record {
      flows = map (λ f. flow_cells list (flow f) entries) (up_from 0 512);
      inputs = map (λ i. flow_cells list (port_on input i) entries) (up_from 0 16);
      outputs = map (λ o. flow_cells list (port_on output o) entries) (up_from 0 16);
      links = map (λ x. flow_cells list (link x) entries) (up_from 0 64);
      total = flow_cells list total entries;
    }

-- A class that has a place in a tally, and the number there.
abbrev pub Placed : Class → Type 0
Placed (flow f) = f < 512
Placed (port_on input i) = i < 16
Placed (port_on output o) = o < 16
Placed (link x) = x < 64
Placed total = Unit {0}

abbrev pub number_in : Tally → Class → ℕ
number_in t (flow f) = get_or t.flows f 0
number_in t (port_on input i) = get_or t.inputs i 0
number_in t (port_on output o) = get_or t.outputs o 0
number_in t (link x) = get_or t.links x 0
number_in t total = t.total
