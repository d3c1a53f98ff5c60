-- The odd counts that Build settles: how many they can be.
use Rattle.std.specs.Prelude.{ℕ, ◌*◌, ◌^◌, ◌≤◌, min, ◌≡◌, List, true, length, replicate}
use Rattle.rules.specs.Words.{sum_to}
use Rattle.rules.specs.Flows.{flows}
use Rattle.calls.specs.Refusals.{slots_each}
use Rattle.calls.specs.Work.{work}
use Rattle.calls.specs.Build.{build_accepts, frame_after}
use Rattle.rules.specs.Pairs.{in_matrix_order}

-- At most ports × slots × k, whatever list is accepted.
abbrev pub WorkMost : Type 0
WorkMost =
    (ports slots : ℕ) (list limits buffer : List ℕ) → build_accepts ports slots list limits buffer ≡ true → (k : ℕ) → slots ≡ 2 ^ k
    → work ports slots list (frame_after ports slots list limits buffer) ≤ ports * slots * k

-- No block has more odd flows than the list has flows, and the blocks of one depth together no more than all slots can have
-- cells: so at depth t, where there are 2 ^ t blocks, at most the less of the two.
abbrev pub WorkByDepth : Type 0
WorkByDepth =
    (ports slots : ℕ) (list limits buffer : List ℕ) → build_accepts ports slots list limits buffer ≡ true → (k : ℕ) → slots ≡ 2 ^ k
    → work ports slots list (frame_after ports slots list limits buffer) ≤ sum_to k (λ t. min (ports * slots) (2 ^ t * flows list))

-- ports × slots × k is reached: by a flow of one cell for each pair of a switch of 2 ^ k ports, in as many slots.
abbrev pub ones : ℕ → List ℕ
ones k = in_matrix_order (2 ^ k) (replicate (2 ^ k * 2 ^ k) 1)

abbrev pub WorkReached : Type 0
WorkReached =
    (k : ℕ) → k ≤ 4 → (buffer : List ℕ) → length buffer ≡ 2 ^ k * 2 ^ k
    → (build_accepts (2 ^ k) (2 ^ k) (ones k) (slots_each (2 ^ k)) buffer ≡ true)
    × (work (2 ^ k) (2 ^ k) (ones k) (frame_after (2 ^ k) (2 ^ k) (ones k) (slots_each (2 ^ k)) buffer) ≡ 2 ^ k * 2 ^ k * k)
