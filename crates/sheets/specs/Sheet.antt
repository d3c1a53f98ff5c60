-- The sheet: what the program prints for each list of bytes.
use Rattle.std.specs.Prelude.{ℕ, suc, zero, List, [], ◌∷◌, ◌++◌, not, eqb, ltb, leb}
use lib.ListN.{length}
use Rattle.rules.specs.Words.{if, both, within}
use Rattle.rules.specs.Flows.{flows}
use Rattle.calls.specs.Refusals.{Check, report, none_holds, bad_ports, bad_slots, port_overloads}
use Rattle.calls.specs.Build.{frame_for}
use Rattle.sheets.specs.Text.{text, same, number_in, lines, decimal}

-- The form of each line. Each line ends in byte 10, the last one too.
unfoldable pub ports_line : ℕ → List ℕ
ports_line ports = text "(ports " ++ (decimal ports ++ text ")\n")

unfoldable pub slots_line : ℕ → List ℕ
slots_line slots = text "(slots " ++ (decimal slots ++ text ")\n")

unfoldable pub pair_line : ℕ → ℕ → ℕ → List ℕ
pair_line i o m =
    text "(pair (in " ++ (decimal i ++ (text ") (out " ++ (decimal o ++ (text ") (cells " ++ (decimal m ++ text "))\n")))))

-- 7: the line is not what is printed for its numbers, or one is above 65535. Carries the line number.
abbrev pub bad_line : ℕ → List ℕ → List ℕ → ℕ → Check
bad_line number line form largest = (not (both (same line form) (leb largest 65535)), 7 ∷ number ∷ [])

-- 8: a pair line names a port outside 1 to ports. Carries the line number.
abbrev pub bad_port : ℕ → ℕ → ℕ → ℕ → Check
bad_port number ports i o = (not (both (within 1 ports i) (within 1 ports o)), 8 ∷ number ∷ [])

-- 21: a pair line after 512 of them. Printed without its line.
abbrev pub line_past_512 : List ℕ → Check
line_past_512 list = (leb 512 (flows list), 21 ∷ [])

-- What a sheet asks for: ports, slots and a list; or its refusal.
pub data Asked : Type 0 where
  loads : ℕ → ℕ → List ℕ → Asked
  refused : List ℕ → Asked

abbrev pub unless : List Check → Asked → Asked
unless checks asked = if (none_holds checks) asked (refused (report checks []))

abbrev pub most : ℕ → ℕ → ℕ
most a b = if (leb a b) b a

-- The pair lines, the first of which has the number given, each one flow more of the list, on link 1: on each 7, 21, 8.
unfoldable pub read_pairs : ℕ → ℕ → ℕ → List ℕ → List (List ℕ) → Asked
read_pairs ports slots number list [] = loads ports slots list
read_pairs ports slots number list (line ∷ ls) =
    let i = number_in 0 line in
    let o = number_in 1 line in
    let m = number_in 2 line in
    unless (
    bad_line number line (pair_line i o m) (most i (most o m))
    ∷ line_past_512 list
    ∷ bad_port number ports i o
    ∷ []
    ) (read_pairs ports slots (suc number) (list ++ (i ∷ o ∷ m ∷ 1 ∷ [])) ls)

-- Line 2; a missing one is 7 at that line.
abbrev pub read_slots : ℕ → List (List ℕ) → Asked
read_slots ports [] = refused (7 ∷ 2 ∷ [])
read_slots ports (line ∷ ls) =
    let slots = number_in 0 line in
    unless (bad_line 2 line (slots_line slots) slots ∷ bad_slots slots ∷ []) (read_pairs ports slots 3 [] ls)

-- Line 1; a missing one is 7 at that line.
abbrev pub read_ports : List (List ℕ) → Asked
read_ports [] = refused (7 ∷ 1 ∷ [])
read_ports (line ∷ ls) =
    let ports = number_in 0 line in
    unless (bad_line 1 line (ports_line ports) ports ∷ bad_ports ports ∷ []) (read_slots ports ls)

-- 10: the sheet is longer than 32,768 bytes.
abbrev pub bad_sheet : List ℕ → Check
bad_sheet bytes = (ltb 32768 (length bytes), 10 ∷ [])

-- Refusal 10 comes before all else; overload, 5 then 6, comes last. The limit of each link is the slots: no link is asked for more
-- where no output is.
abbrev pub overloaded : Asked → Asked
overloaded (refused r) = refused r
overloaded (loads ports slots list) = unless (port_overloads ports slots list) (loads ports slots list)

unfoldable pub read_sheet : List ℕ → Asked
read_sheet bytes = unless (bad_sheet bytes ∷ []) (overloaded (read_ports (lines bytes)))

-- A slot's flow numbers by rising input; an idle input has none.
abbrev pub print_cells : List ℕ → List ℕ
print_cells [] = []
print_cells (e ∷ entries) = if (eqb e 0) [] (text " " ++ decimal e) ++ print_cells entries

-- The slots from number s on, a line each: its number and its flows.
unfoldable pub print_slots : ℕ → ℕ → ℕ → List ℕ → List ℕ
print_slots ports s zero entries = []
print_slots ports s (suc n) entries =
    text "(slot " ++ (decimal s ++ (print_cells (lib.ListN.take ports entries) ++ (text ")\n" ++ print_slots ports (suc s) n (lib.ListN.drop ports entries))))

-- A frame is printed as its ports and slots, and then each slot.
abbrev pub print_frame : ℕ → ℕ → List ℕ → List ℕ
print_frame ports slots entries =
    text "(frame (ports " ++ (decimal ports ++ (text ") (slots " ++ (decimal slots ++ (text "))\n" ++ print_slots ports 1 slots entries))))

-- A refusal is printed as its number, with the line for 7 and 8, and with port and cells for 5 and 6. No sheet has one of three values,
-- which is printed as 24's: output, link and cells.
abbrev pub print_values : List ℕ → List ℕ
print_values [] = []
print_values (line ∷ []) = text " (line " ++ (decimal line ++ text ")")
print_values (port ∷ cells ∷ []) = text " (port " ++ (decimal port ++ (text ") (cells " ++ (decimal cells ++ text ")")))
print_values (o ∷ x ∷ cells ∷ l) =
    text " (output " ++ (decimal o ++ (text ") (link " ++ (decimal x ++ (text ") (cells " ++ (decimal cells ++ text ")")))))

abbrev pub print_refusal : List ℕ → List ℕ
print_refusal [] = []
print_refusal (number ∷ values) = text "(refused " ++ (decimal number ++ (print_values values ++ text ")\n"))

-- The program's whole response.
abbrev pub printed : Asked → List ℕ
printed (refused r) = print_refusal r
printed (loads ports slots list) = print_frame ports slots (frame_for ports slots list)

unfoldable pub response : List ℕ → List ℕ
response bytes = printed (read_sheet bytes)
