-- Work: how many odd counts are settled for a frame, told by its entries and the list.
use Rattle.std.specs.Prelude.{ℕ, ◌*◌, ◌/◌, ◌%◌, ◌^◌, ◌≤◌, ◌<◌, ◌≡◌, List}
use Rattle.rules.specs.Words.{sum_to}
use Rattle.rules.specs.Flows.{flows, flow}
use Rattle.rules.specs.Frames.{cells, run_of, levels, Block}

-- The flows that have an odd number of cells in the entries of whole slots: n % 2 is 1 where n is odd, and 0 where it is even.
abbrev pub odd_flows : ℕ → List ℕ → List ℕ → ℕ
odd_flows ports list entries = sum_to (flows list) (λ f. cells (flow f) ports list entries % 2)

-- Block b of those of size slots, end to end.
abbrev pub block_of : ℕ → ℕ → ℕ → List ℕ → List ℕ
block_of ports size b entries = run_of ports (b * size) size entries

-- Summed over all blocks of two or more slots, the flows with an odd number of cells in that block of the frame. At depth t
-- below the whole frame there are 2 ^ t blocks of slots / 2 ^ t slots; at depth levels slots they have one slot.
unfoldable pub work : ℕ → ℕ → List ℕ → List ℕ → ℕ
work ports slots list entries =
    sum_to (levels slots) (λ t. sum_to (2 ^ t) (λ b. odd_flows ports list (block_of ports (slots / 2 ^ t) b entries)))

-- Blocks by depth and number are those of rule 1 with two or more slots, each once.
pub record EachOnce (slots k : ℕ) : Type 0 where
  pub block : (t b : ℕ) → t < k → b < 2 ^ t → Block slots (b * (slots / 2 ^ t)) (slots / 2 ^ t) × (2 ≤ slots / 2 ^ t)
  pub found : (start size : ℕ) → Block slots start size → 2 ≤ size
      → (t : ℕ) × (b : ℕ) × (t < k) × (b < 2 ^ t) × (size ≡ slots / 2 ^ t) × (start ≡ b * (slots / 2 ^ t))
  pub once : (t b u c : ℕ) → t < k → u < k → slots / 2 ^ t ≡ slots / 2 ^ u → b * (slots / 2 ^ t) ≡ c * (slots / 2 ^ u) → (t ≡ u) × (b ≡ c)
