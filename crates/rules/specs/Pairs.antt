-- The rules by pairs, as document 01 states them with card 2's tie rule, for one law alone: a list of a matrix puts the same pairs in the
-- same slots.
use Rattle.std.specs.Prelude.{ℕ, suc, zero, ◌*◌, ◌-◌, ◌/◌, ◌%◌, ◌^◌, ◌≤◌, ◌<◌, ◌≡◌, List, [], ◌∷◌, map, eqb, length, get_or}
use Rattle.rules.specs.Words.{if, bit, sum_if}
use Rattle.rules.specs.Flows.{Side, input, output, links, output_of, port_of, counts_of}
use Rattle.rules.specs.Rules.{odds_at, Partners, Halved}
use Rattle.rules.specs.Schedule.{frame_of}

-- A matrix has one count for each pair, row by row: all outputs of the first input, then of the next. These are the input and the output of
-- position p.
abbrev pub pair_port : ℕ → Side → ℕ → ℕ
pair_port ports input p = p / ports
pair_port ports output p = p % ports

-- Rule 3: partners at each input by rising output, and at each output by rising input.
abbrev pub PartneredByPairs : ℕ → List ℕ → ℕ → ℕ → Type 0
PartneredByPairs ports m p q = (s : Side) × (x : ℕ) × Partners (odds_at (pair_port ports s) m x) p q

-- No row and no column has more cells than there are slots.
abbrev pub FitsByPairs : ℕ → ℕ → List ℕ → Type 0
FitsByPairs ports slots m = (s : Side) (x : ℕ) → x < ports → sum_if (length m) (λ p. eqb (pair_port ports s p) x) (λ p. get_or m p 0) ≤ slots

-- Rule 6: a block of one slot has counts 0 and 1 only, at most one 1 in each row and column. The slot has one byte for each input: the
-- output that it sends to, numbered from 1, or 0.
pub record SlotByPairs (ports : ℕ) (m bytes : List ℕ) : Type 0 where
  pub size : length bytes ≡ ports
  pub few : FitsByPairs ports 1 m
  pub own : (i : ℕ) → i < ports → get_or bytes i 0 ≤ ports
  pub same : (p : ℕ) → p < ports * ports → bit (eqb (get_or bytes (pair_port ports input p) 0) (suc (pair_port ports output p))) ≡ get_or m p 0

-- The bytes of a block of 2 ^ k slots meet the rules by pairs. Rules 2, 4 and 5 are as they are for lists.
unfoldable pub ScheduledByPairs : ℕ → ℕ → List ℕ → List ℕ → Type 0
ScheduledByPairs ports zero m bytes = SlotByPairs ports m bytes
ScheduledByPairs ports (suc k) m bytes = Halved (PartneredByPairs ports m) (ScheduledByPairs ports k) m bytes

-- The pair at position p as a flow of m cells on link 1, and the rest of the list behind it.
abbrev pub pair_then : ℕ → ℕ → ℕ → List ℕ → List ℕ
pair_then ports p m list = suc (pair_port ports input p) ∷ suc (pair_port ports output p) ∷ m ∷ 1 ∷ list

-- A list of the matrix, which begins at position p: its pairs in matrix order, each a flow on link 1 with its cells. A pair of 0 cells may
-- be left out.
pub data ListOf (ports : ℕ) : ℕ → List ℕ → List ℕ → Type 0 where
  at_end : {p : ℕ} → ListOf ports p [] []
  named : {p m : ℕ} {matrix list : List ℕ} → ListOf ports (suc p) matrix list → ListOf ports p (m ∷ matrix) (pair_then ports p m list)
  left_out : {p : ℕ} {matrix list : List ℕ} → ListOf ports (suc p) matrix list → ListOf ports p (0 ∷ matrix) list

-- The one that leaves out none.
unfoldable pub flows_from : ℕ → ℕ → List ℕ → List ℕ
flows_from ports p [] = []
flows_from ports p (m ∷ matrix) = pair_then ports p m (flows_from ports (suc p) matrix)

abbrev pub in_matrix_order : ℕ → List ℕ → List ℕ
in_matrix_order ports matrix = flows_from ports 0 matrix

-- The output that an entry sends to, numbered from 1, and 0 for idle.
abbrev pub sends_to : List ℕ → ℕ → ℕ
sends_to list e = if (eqb e 0) 0 (suc (output_of (port_of list links (e - 1))))

-- Whatever the ports and the slots, of a matrix that fits them and of every list of it: the list's frame, read by pairs, meets the rules
-- by pairs, and nothing else does.
abbrev pub SamePairs : Type 0
SamePairs =
    (ports k : ℕ) (matrix list : List ℕ) → length matrix ≡ ports * ports → FitsByPairs ports (2 ^ k) matrix → ListOf ports 0 matrix list
    → (let bytes = map (sends_to list) (frame_of ports (port_of list) k (counts_of list)) in
    ScheduledByPairs ports k matrix bytes × ((other : List ℕ) → ScheduledByPairs ports k matrix other → other ≡ bytes))
