-- The nine bench loads of document 01 that are marked P: those that the calls answer, and the printed sheet, one list of cases. A second
-- list has a case for each line that a sheet can be refused with.
use Prim.Native.Nat.{ℕ}
use Prim.Native.String.{String}
use mathlib.Core.Path.{◌≡◌, refl}
use mathlib.Core.List.{List, [], ◌∷◌, ◌++◌, map}
use lib.ListN.{replicate}
use Rattle.rules.specs.Words.{sum_to}
use Rattle.rules.specs.Flows.{port_of, counts_of, load_in}
use Rattle.sheets.specs.Text.{text, digits, lines, numbers_from}
use Rattle.sheets.specs.Sheet.{ports_line, slots_line, pair_line, Asked, refused, read_pairs, loads, read_sheet, print_slots, print_refusal, response}
use Rattle.rules.specs.Schedule.{walk, settle_at, favours, slot_of, frame_of}
use Rattle.calls.proofs.Bench.{Case, table7, table7_framed}
use Rattle.calls.proofs.Bench as called

sheet : List ℕ
sheet =
    text "(ports 4)\n(slots 4)\n(pair (in 1) (out 1) (cells 2))\n(pair (in 1) (out 2) (cells 2))\n(pair (in 4) (out 1) (cells 1))\n(pair (in 4) (out 2) (cells 1))\n(pair (in 4) (out 4) (cells 2))\n"

printed : List ℕ
printed = text "(frame (ports 4) (slots 4))\n(slot 1 1 5)\n(slot 2 2 3)\n(slot 3 1 4)\n(slot 4 2 5)\n"

sheet_asks : read_sheet sheet ≡ loads 4 4 table7
unfolding sheet sum_to port_of counts_of load_in digits ports_line slots_line pair_line lines numbers_from read_pairs read_sheet
sheet_asks = refl

sheet_printed : response sheet ≡ printed
unfolding printed digits print_slots response
sheet_printed = rw (sheet_asks, table7_framed)

pub cases : List Case
cases = record { gives = response sheet; says = printed } ∷ called.cases

pub bench : map (λ c. c.gives) cases ≡ map (λ c. c.says) cases
unfolding cases
bench = rw (sheet_printed, called.bench)

-- ---- a line of each kind
-- A sheet, and the line that is printed for it.
answers : List ℕ → String → Case
answers asked line = record { gives = response asked; says = text line }

pub others : List Case
others =
    -- each refusal of a sheet, by its printed line
    answers (text "(ports 17)\n") "(refused 1)\n"
    ∷ answers (text "(ports 2)\n(slots 3)\n") "(refused 2)\n"
    ∷ answers (text "(ports 2)\n(slots 1)\n(pair (in 1) (out 1) (cells 2))\n(pair (in 2) (out 1) (cells 1))\n") "(refused 5 (port 1) (cells 2))\n"
    ∷ answers (text "(ports 2)\n(slots 1)\n(pair (in 1) (out 2) (cells 1))\n(pair (in 2) (out 2) (cells 1))\n") "(refused 6 (port 2) (cells 2))\n"
    ∷ answers (text "(ports 2)\n(slots 1)\n(pair (in 1) (out 1) (cells 01))\n") "(refused 7 (line 3))\n"
    ∷ answers (text "(ports 2)\n(slots 1)\n(pair (in 1) (out 3) (cells 0))\n") "(refused 8 (line 3))\n"
    -- a pair named twice is two flows
    ∷ answers (text "(ports 1)\n(slots 2)\n(pair (in 1) (out 1) (cells 1))\n(pair (in 1) (out 1) (cells 1))\n") "(frame (ports 1) (slots 2))\n(slot 1 1)\n(slot 2 2)\n"
    -- lines that break the form: a number above 65535, byte 13 before byte 10, no byte 10 at the end, an empty line, none
    ∷ answers (text "(ports 65536)\n") "(refused 7 (line 1))\n"
    ∷ answers (text "(ports 2)" ++ (13 ∷ 10 ∷ text "(slots 1)\n")) "(refused 7 (line 1))\n"
    ∷ answers (text "(ports 2)\n(slots 1)") "(refused 7 (line 2))\n"
    ∷ answers (text "(ports 2)\n(slots 1)\n\n") "(refused 7 (line 3))\n"
    ∷ answers [] "(refused 7 (line 1))\n"
    ∷ answers (text "(ports 2)\n") "(refused 7 (line 2))\n"
    -- an idle slot
    ∷ answers (text "(ports 2)\n(slots 1)\n") "(frame (ports 2) (slots 1))\n(slot 1)\n"
    -- three values, which are refusal 24's: no sheet is refused with it
    ∷ record { gives = print_refusal (24 ∷ 2 ∷ 3 ∷ 15 ∷ []); says = text "(refused 24 (output 2) (link 3) (cells 15))\n" }
    ∷ []

-- A pair line behind 512 others, each of which was a flow.
line515 : List ℕ → Asked
line515 line = read_pairs 2 1 515 (replicate 2048 1) (line ∷ [])

-- it is refused with 7 where its form is broken, and else with 21
line515_refused : (line515 [] ≡ refused (7 ∷ 515 ∷ [])) × (line515 (text "(pair (in 1) (out 1) (cells 0))\n") ≡ refused (21 ∷ []))
unfolding line515 read_pairs pair_line digits numbers_from
line515_refused = (refl, refl)

pub others_answered : map (λ c. c.gives) others ≡ map (λ c. c.says) others
unfolding others answers digits ports_line slots_line pair_line lines numbers_from read_pairs read_sheet print_slots response sum_to port_of counts_of load_in walk settle_at favours slot_of frame_of
others_answered = refl
