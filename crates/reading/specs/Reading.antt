-- What is read at the front of some bytes of a sheet.
use Rattle.std.specs.Prelude.{ℕ, ◌+◌, ◌-◌, ◌*◌, ◌≤◌, ◌<◌, ◌≡◌, List, [], ◌∷◌, ◌++◌, true, false, eqb, length, take, drop, replicate, Some, None, Ok, Err}
use Rattle.std.specs.declared.option.Option.{Option}
use Rattle.std.specs.declared.result.Result.{Result}
use Rattle.rules.specs.Flows.{stride, flows}
use Rattle.calls.specs.Refusals.{none_holds, list_checks, refusal}
use Rattle.calls.specs.declared.Refusal.{Refusal}
use Rattle.rules.specs.Frames.{levels}
use Rattle.sheets.specs.Text.{lines}
use Rattle.sheets.specs.Sheet.{pair_line, Asked, loads, refused, read_pairs, read_slots, read_ports}
use Rattle.text.specs.declared.NumberRead.{NumberRead}
use Rattle.reading.specs.declared.Pair.{Pair}
use Rattle.reading.specs.declared.Loads.{Loads}

-- The bytes begin with a pair line.
pub record PairAt (s : List ℕ) (i o m : ℕ) (rest : List ℕ) : Type 0 where
  pub stands : s ≡ pair_line i o m ++ rest
  pub low : (i ≤ 65535) × (o ≤ 65535) × (m ≤ 65535)

pub record NoPairAt (s : List ℕ) : Type 0 where
  pub never : (i o m : ℕ) (t : List ℕ) → i ≤ 65535 → o ≤ 65535 → m ≤ 65535 → s ≡ pair_line i o m ++ t → ⊥

abbrev pub FormOf : List ℕ → Option Pair → Type 0
FormOf s None = NoPairAt s
FormOf s (Some p) = PairAt s p.input p.output p.cells p.rest.now

-- Line 1 is read: what the sheet asks for is what the lines behind it ask for, or its refusal.
pub record PortsRead (s : List ℕ) (ports : ℕ) (rest : List ℕ) : Type 0 where
  pub reads : read_ports (lines s) ≡ read_slots ports (lines rest)
  pub least : 1 ≤ ports
  pub most : ports ≤ 16

abbrev pub PortsOf : List ℕ → Result NumberRead Refusal → Type 0
PortsOf s (Ok r) = PortsRead s r.value r.rest.now
PortsOf s (Err e) = read_ports (lines s) ≡ refused (refusal e)

-- Line 2 is read.
pub record SlotsRead (ports : ℕ) (s : List ℕ) (slots : ℕ) (rest : List ℕ) : Type 0 where
  pub reads : read_slots ports (lines s) ≡ read_pairs ports slots 3 [] (lines rest)
  pub power : eqb (levels slots) 11 ≡ false

abbrev pub SlotsOf : ℕ → List ℕ → Result NumberRead Refusal → Type 0
SlotsOf ports s (Ok r) = SlotsRead ports s r.value r.rest.now
SlotsOf ports s (Err e) = read_slots ports (lines s) ≡ refused (refusal e)

-- A pair line is read, behind those of n flows: its flow is one more of the list, on link 1.
pub record PairRead (ports : ℕ) (s : List ℕ) (n i o m : ℕ) (rest : List ℕ) : Type 0 where
  pub reads : (slots : ℕ) (list : List ℕ) → flows list ≡ n
      → read_pairs ports slots (n + 3) list (lines s)
      ≡ read_pairs ports slots (n + 1 + 3) (list ++ (i ∷ o ∷ m ∷ 1 ∷ [])) (lines rest)
  pub few : n < 512
  pub of_input : (1 ≤ i) × (i ≤ ports)
  pub of_output : (1 ≤ o) × (o ≤ ports)
  pub low : (i ≤ 65535) × (o ≤ 65535) × (m ≤ 65535)
  pub shorter : length rest < length s

pub record PairRefused (ports : ℕ) (s : List ℕ) (n : ℕ) (r : List ℕ) : Type 0 where
  pub reads : (slots : ℕ) (list : List ℕ) → flows list ≡ n → read_pairs ports slots (n + 3) list (lines s) ≡ refused r

abbrev pub PairOf : ℕ → List ℕ → ℕ → Result Pair Refusal → Type 0
PairOf ports s n (Ok p) = PairRead ports s n p.input p.output p.cells p.rest.now
PairOf ports s n (Err e) = PairRefused ports s n (refusal e)

-- The sheet is read: what it asks for, with n flows at the front of the list where a list is asked for, and zeros behind them; none of
-- 1, 2, 3, 21, 22 and 23 holds of those.
pub record LoadsRead (asked : Asked) (list : List ℕ) (ports slots n : ℕ) : Type 0 where
  pub asks : asked ≡ loads ports slots (take (n * stride) list)
  pub fine : none_holds (list_checks ports slots (take (n * stride) list)) ≡ true
  pub few : n ≤ 512
  pub size : length list ≡ 2048
  pub rest : drop (n * stride) list ≡ replicate (2048 - n * stride) 0

abbrev pub SheetOf : Asked → List ℕ → Result Loads Refusal → Type 0
SheetOf asked list (Ok l) = LoadsRead asked list l.ports l.slots l.flows
SheetOf asked list (Err e) = asked ≡ refused (refusal e)

-- What the reading of a sheet leaves in a list that was lent: the flows read and zeros behind them; on a refusal what stood there.
abbrev pub list_left : Asked → List ℕ → List ℕ
list_left (loads ports slots l) lent = l ++ replicate (2048 - length l) 0
list_left (refused r) lent = lent

-- Lines 1 and 2 are well-formed, and the list has nothing but zeros.
pub record Fresh (ports slots : ℕ) (list : List ℕ) : Type 0 where
  pub least : 1 ≤ ports
  pub most : ports ≤ 16
  pub power : eqb (levels slots) 11 ≡ false
  pub empty : list ≡ replicate 2048 0

-- Pair lines are read up to some bytes: their n flows stand at the front of the list, zeros behind them.
pub record Reached (asked : Asked) (ports slots : ℕ) (s list : List ℕ) (n : ℕ) : Type 0 where
  pub reads : asked ≡ read_pairs ports slots (n + 3) (take (n * stride) list) (lines s)
  pub fine : none_holds (list_checks ports slots (take (n * stride) list)) ≡ true
  pub few : n ≤ 512
  pub size : length list ≡ 2048
  pub rest : drop (n * stride) list ≡ replicate (2048 - n * stride) 0
