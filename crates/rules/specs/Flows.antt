-- Flows: what a list of reservations asks for.
use Rattle.std.specs.Prelude.{ℕ, ◌+◌, ◌*◌, ◌-◌, ◌/◌, ◌≤◌, ◌<◌, List, map, Bool, true, false, eqb, length, get_or, set}
use Rattle.rules.specs.Words.{up_from, sum_if}

-- The list is lent as numbers, so many to a flow: its input, its output, its cells, its link. A flow is named by its place in the list.
abbrev pub stride : ℕ
stride = 4

abbrev pub flows : List ℕ → ℕ
flows list = length list / stride

-- The number at a place among those of flow f, and 0 where the list has none.
abbrev pub number_of : ℕ → List ℕ → ℕ → ℕ
number_of place list f = get_or list (f * stride + place) 0

-- The two sides of a switch, and the ports of each.
pub data Side : Type 0 where
  input : Side
  output : Side

abbrev pub other : Side → Side
other input = output
other output = input

abbrev pub same : Side → Side → Bool
same input input = true
same input output = false
same output input = false
same output output = true

-- The two ends of a flow: an input, and a link, up to four of which an output drives. On these pages both are numbered from 0, the links
-- through all outputs, output by output: four to each.
pub data End : Type 0 where
  inputs : End
  links : End

-- The output that drives a link.
abbrev pub output_of : ℕ → ℕ
output_of x = x / 4

-- Where each end of a flow stands among its numbers: its input, and the output of its link.
abbrev pub place_of : End → ℕ
place_of inputs = 0
place_of links = 1

-- A flow's input, and its link; the list numbers ports from 1, and links from 1 at each output. A 0 is taken for a 1, and a link above 4
-- for one of the next output, but only in lists that every call refuses: with 22 or 23.
unfoldable pub port_of : List ℕ → End → ℕ → ℕ
port_of list inputs f = number_of (place_of inputs) list f - 1
port_of list links f = (number_of (place_of links) list f - 1) * 4 + (number_of 3 list f - 1)

-- The cells of each flow, in the order of the list.
unfoldable pub counts_of : List ℕ → List ℕ
counts_of list = map (number_of 2 list) (up_from 0 (flows list))

-- The list with so many cells for flow f, and every other number as it was.
unfoldable pub with_cells : List ℕ → ℕ → ℕ → List ℕ
with_cells list f cells = set list (f * stride + 2) cells

-- What is counted: a flow; a port of a side, so an input or an output; a link; the total, which is all of them.
pub data Class : Type 0 where
  flow : ℕ → Class
  port_on : Side → ℕ → Class
  link : ℕ → Class
  total : Class

-- The ports of the class are ports of the switch, which has as many inputs as outputs, and its links those of the outputs. A flow
-- may be any number: of one that is not in the list there are no cells.
abbrev pub OnSwitch : ℕ → Class → Type 0
OnSwitch ports (flow f) = Unit {0}
OnSwitch ports (port_on s x) = x < ports
OnSwitch ports (link x) = x < ports * 4
OnSwitch ports total = Unit {0}

-- The port of a flow on a side, where its ends are given.
abbrev pub on_side : Side → (End → ℕ → ℕ) → ℕ → ℕ
on_side input port f = port inputs f
on_side output port f = output_of (port links f)

-- Flow f is of the class, where the ends of flows are given.
abbrev pub is_of : Class → (End → ℕ → ℕ) → ℕ → Bool
is_of (flow g) port f = eqb f g
is_of (port_on s x) port f = eqb (on_side s port f) x
is_of (link x) port f = eqb (port links f) x
is_of total port f = true

-- The load of a flow is its cells, the load of a port or a link the cells of all its flows, and the total those of all: a sum over
-- the counts m, one for each flow, in natural numbers, of no width.
unfoldable pub load_in : Class → (End → ℕ → ℕ) → List ℕ → ℕ
load_in c port m = sum_if (length m) (is_of c port) (λ f. get_or m f 0)

abbrev pub load : Class → List ℕ → ℕ
load c list = load_in c (port_of list) (counts_of list)

-- A load fits some slots if no input and no output is asked for more cells than there are slots.
abbrev pub Fits : ℕ → ℕ → (End → ℕ → ℕ) → List ℕ → Type 0
Fits ports slots port m = (x : ℕ) → x < ports → (load_in (port_on input x) port m ≤ slots) × (load_in (port_on output x) port m ≤ slots)
