-- A class that the list or the switch does not have: it has no cells, and its number in a tally is 0.
use Prim.Native.Nat.{ℕ, suc, zero, ◌*◌, ◌≤◌, ◌<◌}
use mathlib.Core.Path.{◌≡◌, refl, ap, ◌∙◌}
use mathlib.Core.List.{List}
use mathlib.Core.Bool.{false}
use native.Mathlib.Omega.{arith}
use lib.ListN.{length, get_or}
use borrow.Author.Tests.{ne_eqb}
use Rattle.rules.specs.Words.{bit}
use Rattle.rules.specs.Flows.{flows, inputs, links, output_of, port_of, Side, Class, flow, port_on, input, output, link, is_of}
use Rattle.rules.specs.Frames.{is_flow_of}
use Rattle.rules.proofs.Cases.{by_lt}
use Rattle.rules.proofs.Flows.{is_flow_of_class, no_flow}
use Rattle.rules.proofs.Sums.{sum_zero}
use Rattle.checks.specs.Fits.{ListFits}
use Rattle.checks.proofs.Fits.{input_below, output_below, link_below}
use Rattle.tally.specs.Tally.{flow_cells, tally_of, number_in, Placed}
use Rattle.tally.proofs.Tallies.{tally_number}

-- no flow of the list is of the class
module _ (list : List ℕ) (c : Class) (none : (f : ℕ) → f < flows list → is_of c (port_of list) f ≡ false) where
  never : (e : ℕ) → is_flow_of c list e ≡ false
  never zero = refl
  never (suc f) = by_lt f (flows list) (λ l. is_flow_of_class list c f l ∙ none f l) (λ g. no_flow list c (suc f) (omega arith))

  pub no_cells : (entries : List ℕ) → flow_cells list c entries ≡ 0
  unfolding flow_cells
  no_cells entries = sum_zero (length entries) (λ q. bit (is_flow_of c list (get_or entries q 0))) (λ q k. ap bit (never (get_or entries q 0)))

-- in the tally of any entries, of a list that fits a switch of so many ports
module _ {ports : ℕ} {list : List ℕ} (l : ListFits ports list) (entries : List ℕ) where
  none_at : (c : Class) → Placed c → ((f : ℕ) → f < flows list → is_of c (port_of list) f ≡ false) → number_in (tally_of list entries) c ≡ 0
  none_at c p none = tally_number list entries c p ∙ no_cells list c none entries

  pub none_past_flows : (f : ℕ) → f < 512 → flows list ≤ f → number_in (tally_of list entries) (flow f) ≡ 0
  none_past_flows f p h = none_at (flow f) p (λ g k. ne_eqb g f (omega arith))

  pub none_past_ports : (side : Side) (x : ℕ) → x < 16 → ports ≤ x → number_in (tally_of list entries) (port_on side x) ≡ 0
  none_past_ports input x p h = none_at (port_on input x) p (λ g k. ne_eqb (port_of list inputs g) x (omega (arith, input_below l g k)))
  none_past_ports output x p h = none_at (port_on output x) p (λ g k. ne_eqb (output_of (port_of list links g)) x (omega (arith, output_below l g k)))

  pub none_past_links : (x : ℕ) → x < 64 → ports * 4 ≤ x → number_in (tally_of list entries) (link x) ≡ 0
  none_past_links x p h = none_at (link x) p (λ g k. ne_eqb (port_of list links g) x (omega (arith, link_below l g k)))
