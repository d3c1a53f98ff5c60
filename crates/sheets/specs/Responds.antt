-- What the sheet program prints, case by case: a second reading of the sheet.
use Rattle.std.specs.Prelude.{ℕ, suc, ◌≤◌, ◌<◌, ◌≡◌, List, [], ◌∷◌, ◌++◌, length}
use Rattle.rules.specs.Words.{Within}
use Rattle.rules.specs.Flows.{flows, port_of, counts_of, port_on, input, output, load, Fits}
use Rattle.rules.specs.Frames.{Power}
use Rattle.rules.specs.Rules.{Scheduled}
use Rattle.calls.specs.Demand2.{Light, Over}
use Rattle.calls.specs.Answers.{Exactly}
use Rattle.sheets.specs.Text.{text}
use Rattle.sheets.specs.Sheet.{ports_line, slots_line, pair_line, Asked, loads, print_frame, print_refusal, response}
use Rattle.sheets.specs.Sheet as asked

-- Bytes begin with no line of a form.
abbrev pub NoPorts : List ℕ → Type 0
NoPorts bytes = (n : ℕ) (rest : List ℕ) → n ≤ 65535 → bytes ≡ ports_line n ++ rest → ⊥

abbrev pub NoSlots : List ℕ → Type 0
NoSlots bytes = (n : ℕ) (rest : List ℕ) → n ≤ 65535 → bytes ≡ slots_line n ++ rest → ⊥

abbrev pub NoPair : List ℕ → Type 0
NoPair bytes = (i o c : ℕ) (rest : List ℕ) → i ≤ 65535 → o ≤ 65535 → c ≤ 65535 → bytes ≡ pair_line i o c ++ rest → ⊥

-- The pair lines, taken in turn, each a flow on link 1: the number of the next line, the list so far, the bytes that are left; 7 with the
-- line number, then 21 where there are 512 flows already, then 8 with the line number; or the loads.
pub data ReadsPairs (ports slots : ℕ) : ℕ → List ℕ → List ℕ → Asked → Type 0 where
  ended : {n : ℕ} {list : List ℕ} → ReadsPairs ports slots n list [] (loads ports slots list)
  form_7 : {n : ℕ} {list bytes : List ℕ} → (bytes ≡ [] → ⊥) → NoPair bytes → ReadsPairs ports slots n list bytes (asked.refused (7 ∷ n ∷ []))
  flows_21 : {n : ℕ} {list : List ℕ} (i o c : ℕ) (rest : List ℕ) → i ≤ 65535 → o ≤ 65535 → c ≤ 65535 → 512 ≤ flows list
      → ReadsPairs ports slots n list (pair_line i o c ++ rest) (asked.refused (21 ∷ []))
  port_8 : {n : ℕ} {list : List ℕ} (i o c : ℕ) (rest : List ℕ) → i ≤ 65535 → o ≤ 65535 → c ≤ 65535 → flows list < 512
      → (Within 1 ports i × Within 1 ports o → ⊥) → ReadsPairs ports slots n list (pair_line i o c ++ rest) (asked.refused (8 ∷ n ∷ []))
  taken : {n : ℕ} {list : List ℕ} {given : Asked} (i o c : ℕ) (rest : List ℕ) → Within 1 ports i → Within 1 ports o → c ≤ 65535 → flows list < 512
      → ReadsPairs ports slots (suc n) (list ++ (i ∷ o ∷ c ∷ 1 ∷ [])) rest given
      → ReadsPairs ports slots n list (pair_line i o c ++ rest) given

-- Line 1: 7, then 1; line 2: 7, then 2; then the pair lines, from line 3 on and from an empty list.
pub data Reads : List ℕ → Asked → Type 0 where
  line_1_7 : {bytes : List ℕ} → NoPorts bytes → Reads bytes (asked.refused (7 ∷ 1 ∷ []))
  line_1_1 : (ports : ℕ) (rest : List ℕ) → ports ≤ 65535 → (Within 1 16 ports → ⊥) → Reads (ports_line ports ++ rest) (asked.refused (1 ∷ []))
  line_2_7 : (ports : ℕ) (rest : List ℕ) → Within 1 16 ports → NoSlots rest → Reads (ports_line ports ++ rest) (asked.refused (7 ∷ 2 ∷ []))
  line_2_2 : (ports slots : ℕ) (rest : List ℕ) → Within 1 16 ports → slots ≤ 65535 → (Power slots → ⊥)
      → Reads (ports_line ports ++ (slots_line slots ++ rest)) (asked.refused (2 ∷ []))
  from_3 : {given : Asked} (ports slots : ℕ) (rest : List ℕ) → Within 1 16 ports → Power slots
      → ReadsPairs ports slots 3 [] rest given → Reads (ports_line ports ++ (slots_line slots ++ rest)) given

-- 10 before all else; then what the lines are refused for; 5 and 6 last; or the frame that meets the rules.
pub data Responds (bytes : List ℕ) : List ℕ → Type 0 where
  sheet_10 : 32768 < length bytes → Responds bytes (text "(refused 10)\n")
  lines_refused : {r : List ℕ} → length bytes ≤ 32768 → Reads bytes (asked.refused r) → Responds bytes (print_refusal r)
  input_5 : {ports slots : ℕ} {list : List ℕ} → length bytes ≤ 32768 → Reads bytes (loads ports slots list) → (x : ℕ) → Over (port_on input) ports slots list x
      → Responds bytes (print_refusal (5 ∷ suc x ∷ load (port_on input x) list ∷ []))
  output_6 : {ports slots : ℕ} {list : List ℕ} → length bytes ≤ 32768 → Reads bytes (loads ports slots list) → Light (port_on input) ports slots list
      → (x : ℕ) → Over (port_on output) ports slots list x → Responds bytes (print_refusal (6 ∷ suc x ∷ load (port_on output x) list ∷ []))
  frame : {ports slots : ℕ} {list : List ℕ} → length bytes ≤ 32768 → Reads bytes (loads ports slots list) → Fits ports slots (port_of list) (counts_of list)
      → (p : Power slots) (laid : List ℕ) → Scheduled ports (port_of list) p.k (counts_of list) laid → Responds bytes (print_frame ports slots laid)

-- What is shown: the response is that of a case, and what any case says is the response.
abbrev pub RespondsByCases : Type 0
RespondsByCases = (bytes : List ℕ) → Exactly (Responds bytes) (response bytes)
