-- What a list, a frame and whom is asked about are, where no refusal turns them away.
use Rattle.std.specs.Prelude.{ℕ, ◌*◌, ◌≤◌, ◌<◌, ◌≡◌, List, true, length, get_or}
use Rattle.rules.specs.Flows.{flows}
use Rattle.rules.specs.Frames.{Power}
use Rattle.calls.specs.Refusals.{none_holds, list_checks}
use Rattle.calls.specs.Demand2.{Ported, Linked}
use Rattle.calls.specs.Service.{who_within}
use Rattle.calls.specs.declared.Who.{Who}

-- Ports, slots and a list that none of refusals 1, 2, 3, 21, 22 and 23 turns away.
pub record Clear (ports slots : ℕ) (list : List ℕ) : Type 0 where
  pub none : none_holds (list_checks ports slots list) ≡ true

-- A list that none of refusals 1, 21, 22 and 23 turns away.
pub record ListFits (ports : ℕ) (list : List ℕ) : Type 0 where
  pub least : 1 ≤ ports
  pub most : ports ≤ 16
  pub few : flows list ≤ 512
  pub ported : Ported ports list
  pub linked : Linked list

-- A frame of at most sixteen ports that neither 2 nor 4 turns away.
pub record FrameFits (ports slots : ℕ) (entries : List ℕ) : Type 0 where
  pub most : ports ≤ 16
  pub power : Power slots
  pub size : length entries ≡ slots * ports

-- Entries that are 0 or numbers of flows.
abbrev pub EachFlow : List ℕ → List ℕ → Type 0
EachFlow list entries = (q : ℕ) → q < length entries → get_or entries q 0 ≤ flows list

-- Such a list and such a frame, whose entries are 0 or numbers of flows.
pub record FlowFrame (ports slots : ℕ) (list entries : List ℕ) : Type 0 where
  pub listed : ListFits ports list
  pub framed : FrameFits ports slots entries
  pub each_flow : EachFlow list entries

-- A flow of such a list or a port of its switch: refusal 12 does not turn it away.
pub record WhoFits (ports : ℕ) (list : List ℕ) (who : Who) : Type 0 where
  pub listed : ListFits ports list
  pub is_within : who_within ports list who ≡ true
