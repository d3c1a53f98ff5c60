-- The bench loads of document 01 that are marked P, as far as the calls answer them: one list of cases, computed from the definitions. A
-- second list has a case for each answer that they do not reach, and a third has those of Depth.
use Prim.Native.Nat.{ℕ, suc, ◌*◌}
use mathlib.Core.Path.{◌≡◌, refl}
use mathlib.Core.List.{List, [], ◌∷◌, ◌++◌, map}
use mathlib.Core.Bool.{true, false}
use lib.IntN.{ℤ, pos, negsuc}
use lib.ListN.{replicate}
use Rattle.rules.specs.Words.{sum_to}
use Rattle.rules.specs.Flows.{Side, input, output, port_of, counts_of, load_in}
use Rattle.rules.specs.Frames.{cells_on, run_of, repeated}
use Rattle.calls.specs.Refusals.{report, accepted, slots_each, admitted}
use Rattle.rules.specs.Schedule.{walk, settle_at, favours, slot_of, frame_of}
use Rattle.calls.specs.Work.{work}
use Rattle.calls.specs.Build.{build_checks, built, frame_after}
use Rattle.calls.specs.Inspect.{is_wrong, twice_in, used_twice, wrong_count, unbalanced, unbalanced_number, unbalanced_at, bad_entries, inspected}
use Rattle.calls.specs.Service.{view_checks, view_number, view_start, view_size, viewed, lead_on, Reply, bad_length, count_checks, service}
use Rattle.strays.specs.Stray.{earliest, largest, stray}
use Rattle.calls.specs.Depth.{depth_checks, depth}
use Rattle.calls.specs.declared.Who.{Who}
use Rattle.calls.specs.declared.Who.TheVariants.{Flow, Input, Output}

-- What the definitions give, and what document 01 says.
pub record Case : Type 0 where
  pub gives : List ℕ
  pub says : List ℕ

-- A list that is accepted where the limits are slots each, the odd counts settled, and the frame that stands in the buffer after.
frame : ℕ → ℕ → List ℕ → ℕ → List ℕ → Case
frame ports slots list settled entries =
    let buffer : List ℕ = replicate (slots * ports) 77 in
    let limits = slots_each slots in
    record { gives = built ports slots list limits buffer ++ frame_after ports slots list limits buffer; says = 0 ∷ settled ∷ entries }

-- A list that is refused, by Admit and by Build, and the buffer as it was: by limits that are given, and by those of slots each.
turned_away_by : List ℕ → ℕ → ℕ → List ℕ → List ℕ → Case
turned_away_by limits ports slots list refusal =
    let buffer : List ℕ = replicate (slots * ports) 77 in
    record {
      gives = admitted ports slots list limits ++ (built ports slots list limits buffer ++ frame_after ports slots list limits buffer);
      says = refusal ++ (refusal ++ buffer);
    }

turned_away : ℕ → ℕ → List ℕ → List ℕ → Case
turned_away ports slots list refusal = turned_away_by (slots_each slots) ports slots list refusal

-- A count's answer: its numbers, how far the run is ahead, and how far behind.
abbrev ahead_by : ℤ → ℕ
ahead_by (pos n) = n
ahead_by (negsuc n) = 0

abbrev behind_by : ℤ → ℕ
behind_by (pos n) = 0
behind_by (negsuc n) = suc n

counting : Reply → List ℕ → ℕ → ℕ → Case
counting reply numbers ahead behind =
    record { gives = reply.numbers ++ (ahead_by reply.ahead ∷ behind_by reply.ahead ∷ []); says = numbers ++ (ahead ∷ behind ∷ []) }

-- one cell from each port to its own number
abbrev own : List ℕ
own = 1 ∷ 1 ∷ 1 ∷ 1 ∷ 2 ∷ 2 ∷ 1 ∷ 1 ∷ 3 ∷ 3 ∷ 1 ∷ 1 ∷ 4 ∷ 4 ∷ 1 ∷ 1 ∷ []

-- one of them in each slot: flow 1, 3, 2, 4
abbrev own_frame : List ℕ
own_frame = 1 ∷ 0 ∷ 0 ∷ 0 ∷ 0 ∷ 0 ∷ 3 ∷ 0 ∷ 0 ∷ 2 ∷ 0 ∷ 0 ∷ 0 ∷ 0 ∷ 0 ∷ 4 ∷ []

-- the flows of the sheet, in the order of its lines
abbrev pub table7 : List ℕ
table7 = 1 ∷ 1 ∷ 2 ∷ 1 ∷ 1 ∷ 2 ∷ 2 ∷ 1 ∷ 4 ∷ 1 ∷ 1 ∷ 1 ∷ 4 ∷ 2 ∷ 1 ∷ 1 ∷ 4 ∷ 4 ∷ 2 ∷ 1 ∷ []

abbrev pub table7_frame : List ℕ
table7_frame = 1 ∷ 0 ∷ 0 ∷ 5 ∷ 2 ∷ 0 ∷ 0 ∷ 3 ∷ 1 ∷ 0 ∷ 0 ∷ 4 ∷ 2 ∷ 0 ∷ 0 ∷ 5 ∷ []

-- four loads of 1, and their frame
abbrev four : List ℕ
four = 1 ∷ 1 ∷ 1 ∷ 1 ∷ 1 ∷ 2 ∷ 1 ∷ 1 ∷ 2 ∷ 1 ∷ 1 ∷ 1 ∷ 2 ∷ 2 ∷ 1 ∷ 1 ∷ []

abbrev crossed : List ℕ
crossed = 1 ∷ 4 ∷ 2 ∷ 3 ∷ []

pub cases : List Case
cases =
    frame 1 1 (1 ∷ 1 ∷ 1 ∷ 1 ∷ []) 0 (1 ∷ [])
    ∷ frame 1 4 (1 ∷ 1 ∷ 3 ∷ 1 ∷ []) 2 (1 ∷ 1 ∷ 1 ∷ 0 ∷ [])
    ∷ frame 2 2 four 4 crossed
    ∷ frame 4 4 own 8 own_frame
    ∷ frame 4 4 table7 10 table7_frame
    ∷ turned_away 2 4 (1 ∷ 1 ∷ 3 ∷ 1 ∷ 1 ∷ 2 ∷ 2 ∷ 1 ∷ []) (5 ∷ 1 ∷ 5 ∷ [])
    ∷ record { gives = admitted 2 4 (1 ∷ 1 ∷ 2 ∷ 1 ∷ 1 ∷ 2 ∷ 2 ∷ 1 ∷ []) (slots_each 4); says = 0 ∷ [] }
    ∷ turned_away 2 4 (1 ∷ 1 ∷ 3 ∷ 1 ∷ 2 ∷ 1 ∷ 2 ∷ 1 ∷ []) (6 ∷ 1 ∷ 5 ∷ [])
    ∷ turned_away 2 4 (1 ∷ 1 ∷ 5 ∷ 1 ∷ []) (5 ∷ 1 ∷ 5 ∷ [])
    -- one cell more than its share: four parts of a quarter
    ∷ counting (service input 4 4 table7 table7_frame (Flow 5) 4 2) (0 ∷ 2 ∷ []) 4 0
    ∷ []

-- ---- the frames of the lists, and what the sheet comes to
abbrev pub frame_at : ℕ → ℕ → List ℕ → List ℕ
frame_at ports k list = frame_of ports (port_of list) k (counts_of list)

pub table7_framed : frame_at 4 2 table7 ≡ table7_frame
unfolding port_of counts_of walk settle_at favours slot_of frame_of
table7_framed = refl

own_framed : frame_at 4 2 own ≡ own_frame
unfolding port_of counts_of walk settle_at favours slot_of frame_of
own_framed = refl

small_framed : (frame_at 1 0 (1 ∷ 1 ∷ 1 ∷ 1 ∷ []) ≡ 1 ∷ []) × (frame_at 1 2 (1 ∷ 1 ∷ 3 ∷ 1 ∷ []) ≡ 1 ∷ 1 ∷ 1 ∷ 0 ∷ [])
    × (frame_at 2 1 four ≡ crossed)
unfolding port_of counts_of walk settle_at favours slot_of frame_of
small_framed = (refl, refl, refl)

pub bench : map (λ c. c.gives) cases ≡ map (λ c. c.says) cases
unfolding cases frame turned_away_by turned_away counting sum_to port_of counts_of load_in cells_on run_of work admitted build_checks count_checks service repeated lead_on walk settle_at favours slot_of frame_of
bench = refl

-- ---- an answer of each kind that the nine loads do not reach
-- A flow of two cells from input 1 to output 2, and one of one cell from input 2 to output 1, and a frame of four slots with those cells:
-- the first flow in slots 1 and 3, the second in slot 2.
abbrev there : List ℕ
there = 1 ∷ 2 ∷ 2 ∷ 1 ∷ 2 ∷ 1 ∷ 1 ∷ 1 ∷ []

abbrev in_four : List ℕ
in_four = 1 ∷ 0 ∷ 0 ∷ 2 ∷ 1 ∷ 0 ∷ 0 ∷ 0 ∷ []

-- A view of that frame: the number, where the part begins, its size and its bytes.
views : ℕ → List ℕ → Case
views slot says =
    record {
      gives = view_number 2 4 in_four slot ∷ view_start 2 4 in_four slot ∷ view_size 2 4 in_four slot ∷ viewed 2 4 in_four slot;
      says = says;
    }

-- A count in it, and in one of two slots, of either side, the first of which has the second flow at port 1 and no flow at port 2.
counts : Who → ℕ → ℕ → ℕ → ℕ → ℕ → Case
counts who start len had ahead behind = counting (service input 2 4 there in_four who start len) (0 ∷ had ∷ []) ahead behind

counts_any : Side → Who → ℕ → Case
counts_any side who had = counting (service side 2 2 there (2 ∷ 9 ∷ 1 ∷ 2 ∷ []) who 1 2) (0 ∷ had ∷ []) 0 0

-- A cell from each of four inputs to output 1, the first and the third on link 2, the others on link 1: flow 1 is partnered with 3, and
-- 2 with 4. By their numbers alone it were 1 with 2, and slots 2 and 3 were changed round.
abbrev two_links : List ℕ
two_links = 1 ∷ 1 ∷ 1 ∷ 2 ∷ 2 ∷ 1 ∷ 1 ∷ 1 ∷ 3 ∷ 1 ∷ 1 ∷ 2 ∷ 4 ∷ 1 ∷ 1 ∷ 1 ∷ []

-- A cell from each of three inputs to output 1, on links 2, 3 and 1: by rising link flow 3 is partnered with 1, and 2 stays single. By
-- their numbers, or by falling link, it were 1 with 2, and slots 2 and 3 were changed round.
abbrev three_links : List ℕ
three_links = 1 ∷ 1 ∷ 1 ∷ 2 ∷ 2 ∷ 1 ∷ 1 ∷ 3 ∷ 3 ∷ 1 ∷ 1 ∷ 1 ∷ []

-- Inspect of a frame of two slots for one cell from each of two ports to its own number, and, of the output side, to the other's.
inspects : List ℕ → List ℕ → Case
inspects entries says = record { gives = inspected input 2 2 (1 ∷ 1 ∷ 1 ∷ 1 ∷ 2 ∷ 2 ∷ 1 ∷ 1 ∷ []) entries; says = says }

inspects_outputs : List ℕ → List ℕ → Case
inspects_outputs entries says = record { gives = inspected output 2 2 (1 ∷ 2 ∷ 1 ∷ 1 ∷ 2 ∷ 1 ∷ 1 ∷ 1 ∷ []) entries; says = says }

-- What stands in a frame of two slots, as refusal 14, for one cell from each of two inputs to output 1.
refuses : List ℕ → List ℕ → Case
refuses entries says = record { gives = report (bad_entries 14 input 2 2 (1 ∷ 1 ∷ 1 ∷ 1 ∷ 2 ∷ 1 ∷ 1 ∷ 1 ∷ []) entries) accepted; says = says }

pub others : List Case
others =
    -- slot 3 of a frame, and slots outside it
    views 3 (0 ∷ 4 ∷ 2 ∷ 1 ∷ 0 ∷ [])
    ∷ views 0 (11 ∷ 0 ∷ 0 ∷ [])
    ∷ views 5 (11 ∷ 0 ∷ 0 ∷ [])
    -- a frame of another length, and a slot outside
    ∷ record { gives = view_number 2 4 (0 ∷ []) 0 ∷ []; says = 4 ∷ [] }
    -- each flow, an input, an output, over the whole frame
    ∷ counts (Flow 1) 1 4 2 0 0
    ∷ counts (Flow 2) 1 4 1 0 0
    ∷ counts (Input 1) 1 4 2 0 0
    ∷ counts (Output 1) 1 4 1 0 0
    -- one part of four behind after slot 1, three ahead after slot 2, after the next turn's too, and a run of no slots
    ∷ counts (Flow 2) 1 1 0 0 1
    ∷ counts (Input 2) 2 1 1 3 0
    ∷ counts (Output 1) 2 5 2 3 0
    ∷ counts (Output 2) 2 0 0 0 0
    -- a flow counts for itself and its output wherever it stands, and what is no flow for its input only
    ∷ counts_any input (Flow 2) 2
    ∷ counts_any input (Output 1) 2
    ∷ counts_any input (Output 2) 1
    ∷ counts_any input (Input 2) 2
    -- of the output side a flow counts for its input wherever it stands, and what is no flow for its output only
    ∷ counts_any output (Flow 2) 2
    ∷ counts_any output (Input 1) 1
    ∷ counts_any output (Input 2) 2
    ∷ counts_any output (Output 1) 2
    ∷ counts_any output (Output 2) 2
    -- a flow that is not in the list, and a run that is too long
    ∷ counting (service input 2 4 there in_four (Flow 3) 1 1000001) (12 ∷ []) 0 0
    -- lists: not of whole flows, 513 flows, whose ports are outside too, a port outside, whose link is outside too, a link outside, none
    ∷ turned_away 2 2 (1 ∷ 1 ∷ 1 ∷ []) (3 ∷ [])
    ∷ turned_away 2 2 (replicate 2052 9) (21 ∷ [])
    ∷ turned_away 2 2 (1 ∷ 3 ∷ 0 ∷ 5 ∷ []) (22 ∷ [])
    ∷ turned_away 2 2 (1 ∷ 2 ∷ 9 ∷ 5 ∷ []) (23 ∷ [])
    ∷ turned_away 2 2 (1 ∷ 2 ∷ 9 ∷ 0 ∷ []) (23 ∷ [])
    ∷ frame 1 2 [] 0 (0 ∷ 0 ∷ [])
    -- the second port is the lowest that is asked for too much
    ∷ turned_away 2 4 (1 ∷ 1 ∷ 1 ∷ 1 ∷ 2 ∷ 2 ∷ 5 ∷ 1 ∷ []) (5 ∷ 2 ∷ 5 ∷ [])
    -- two cells on link 2 of output 2, where each link may have one, where each may have two, and where an input has too many
    ∷ turned_away_by (slots_each 1) 2 2 (1 ∷ 2 ∷ 2 ∷ 2 ∷ []) (24 ∷ 2 ∷ 2 ∷ 2 ∷ [])
    ∷ record { gives = admitted 2 4 (1 ∷ 2 ∷ 2 ∷ 2 ∷ []) (slots_each 2); says = 0 ∷ [] }
    ∷ turned_away_by (slots_each 1) 2 2 (1 ∷ 2 ∷ 3 ∷ 2 ∷ []) (5 ∷ 1 ∷ 3 ∷ [])
    -- the limits stand output by output: those of output 1 and of the first two links of output 2 are six
    ∷ turned_away_by (replicate 6 2) 2 2 (1 ∷ 2 ∷ 2 ∷ 3 ∷ []) (24 ∷ 2 ∷ 3 ∷ 2 ∷ [])
    ∷ turned_away_by (replicate 4 1 ++ replicate 60 9) 2 2 (1 ∷ 1 ∷ 2 ∷ 1 ∷ []) (24 ∷ 1 ∷ 1 ∷ 2 ∷ [])
    -- partners on one link first, then the single ones by rising link
    ∷ frame 4 4 two_links 8 (1 ∷ 0 ∷ 0 ∷ 0 ∷ 0 ∷ 2 ∷ 0 ∷ 0 ∷ 0 ∷ 0 ∷ 3 ∷ 0 ∷ 0 ∷ 0 ∷ 0 ∷ 4 ∷ [])
    ∷ frame 3 4 three_links 6 (1 ∷ 0 ∷ 0 ∷ 0 ∷ 2 ∷ 0 ∷ 0 ∷ 0 ∷ 3 ∷ 0 ∷ 0 ∷ 0 ∷ [])
    -- one cell in each slot, and both in the first: its halves differ by two cells in total, and by one for every flow and port
    ∷ inspects (1 ∷ 0 ∷ 0 ∷ 2 ∷ []) (0 ∷ [])
    ∷ inspects (1 ∷ 2 ∷ 0 ∷ 0 ∷ []) (104 ∷ 1 ∷ 2 ∷ [])
    -- a number above the list, another input's flow, a flow that is missing
    ∷ inspects (1 ∷ 0 ∷ 0 ∷ 3 ∷ []) (101 ∷ 2 ∷ 2 ∷ [])
    ∷ inspects (2 ∷ 0 ∷ 0 ∷ 1 ∷ []) (101 ∷ 1 ∷ 1 ∷ [])
    ∷ inspects (1 ∷ 0 ∷ 0 ∷ 0 ∷ []) (103 ∷ 2 ∷ [])
    -- of the output side each flow stands at its output, and one that stands at its input is wrong
    ∷ inspects_outputs (0 ∷ 1 ∷ 2 ∷ 0 ∷ []) (0 ∷ [])
    ∷ inspects_outputs (0 ∷ 1 ∷ 0 ∷ 2 ∷ []) (101 ∷ 2 ∷ 2 ∷ [])
    ∷ inspects_outputs (2 ∷ 1 ∷ 0 ∷ 0 ∷ []) (104 ∷ 1 ∷ 2 ∷ [])
    -- an input twice in a slot, of the output side
    ∷ record { gives = inspected output 2 2 (1 ∷ 1 ∷ 1 ∷ 1 ∷ 1 ∷ 2 ∷ 1 ∷ 1 ∷ []) (1 ∷ 0 ∷ 1 ∷ 2 ∷ []); says = 102 ∷ 2 ∷ 1 ∷ [] }
    -- as a refusal: a wrong entry, an output twice in a slot, and neither
    ∷ refuses (1 ∷ 0 ∷ 0 ∷ 3 ∷ []) (14 ∷ [])
    ∷ refuses (1 ∷ 2 ∷ 0 ∷ 0 ∷ []) (14 ∷ [])
    ∷ refuses (1 ∷ 0 ∷ 0 ∷ 2 ∷ []) (0 ∷ [])
    -- an output twice in a slot; and a list that is not of whole flows, with a frame of another length
    ∷ record { gives = inspected input 2 2 (1 ∷ 1 ∷ 1 ∷ 1 ∷ 2 ∷ 1 ∷ 1 ∷ 1 ∷ []) (1 ∷ 2 ∷ 0 ∷ 0 ∷ []); says = 102 ∷ 1 ∷ 1 ∷ [] }
    ∷ record { gives = inspected input 2 2 (1 ∷ 1 ∷ 1 ∷ []) (0 ∷ []); says = 3 ∷ [] }
    -- one cell in each of four slots to output 1, the first two on link 1: a link is unbalanced, and nothing else is
    ∷ record {
      gives = inspected input 2 4 (1 ∷ 1 ∷ 1 ∷ 1 ∷ 2 ∷ 1 ∷ 1 ∷ 1 ∷ 1 ∷ 1 ∷ 1 ∷ 2 ∷ 2 ∷ 1 ∷ 1 ∷ 2 ∷ []) (1 ∷ 0 ∷ 0 ∷ 2 ∷ 3 ∷ 0 ∷ 0 ∷ 4 ∷ []);
      says = 104 ∷ 1 ∷ 4 ∷ [];
    }
    ∷ []

pub others_answered : map (λ c. c.gives) others ≡ map (λ c. c.says) others
unfolding others views frame turned_away_by turned_away counting counts counts_any inspects inspects_outputs refuses inspected is_wrong twice_in used_twice wrong_count unbalanced unbalanced_number unbalanced_at sum_to port_of counts_of load_in cells_on run_of work admitted build_checks count_checks service repeated lead_on view_checks walk settle_at favours slot_of frame_of
others_answered = refl

-- the longest run has 1,000,000 slots
longest_run : map (λ len. (bad_length len).0) (1000000 ∷ 1000001 ∷ []) ≡ false ∷ true ∷ []
longest_run = refl

-- ---- Depth
-- Flows of 3 cells, 1 and 1: input 1 to output 1, input 2 to output 2 and to output 1, in four slots.
deep : Who → List ℕ → Case
deep who says = record { gives = depth 2 4 (1 ∷ 1 ∷ 3 ∷ 1 ∷ 2 ∷ 2 ∷ 1 ∷ 1 ∷ 2 ∷ 1 ∷ 1 ∷ 1 ∷ []) who; says = says }

pub depths : List Case
depths =
    -- 3 cells and 1 are as far from their share, 2 less far, and 4 not at all
    deep (Flow 1) (0 ∷ 6 ∷ 3 ∷ [])
    ∷ deep (Flow 2) (0 ∷ 6 ∷ 2 ∷ [])
    ∷ deep (Input 2) (0 ∷ 4 ∷ 2 ∷ [])
    ∷ deep (Output 1) (0 ∷ 0 ∷ 1 ∷ [])
    -- a flow that is not in the list, and ports outside
    ∷ deep (Flow 4) (12 ∷ [])
    ∷ deep (Input 3) (12 ∷ [])
    ∷ deep (Output 0) (12 ∷ [])
    -- before them a list that is not of whole flows, and ports that are asked for too much
    ∷ record { gives = depth 2 4 (1 ∷ 1 ∷ 3 ∷ []) (Flow 9); says = 3 ∷ [] }
    ∷ record { gives = depth 2 2 (1 ∷ 1 ∷ 3 ∷ 1 ∷ []) (Flow 9); says = 5 ∷ 1 ∷ 3 ∷ [] }
    ∷ record { gives = depth 2 2 (1 ∷ 2 ∷ 2 ∷ 1 ∷ 2 ∷ 2 ∷ 1 ∷ 1 ∷ []) (Flow 9); says = 6 ∷ 2 ∷ 3 ∷ [] }
    ∷ []

pub depths_answered : map (λ c. c.gives) depths ≡ map (λ c. c.says) depths
unfolding depths deep depth depth_checks stray largest earliest sum_to port_of counts_of load_in
depths_answered = refl
