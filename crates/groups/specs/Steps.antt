-- The steps by which a group is settled, as functions of the lists that they are lent.
use Rattle.std.specs.Prelude.{ℕ, suc, zero, ◌+◌, ◌-◌, ◌/◌, ◌%◌, ◌≤◌, ◌<◌, ◌≡◌, List, [], ◌∷◌, eqb, length, get_or, set}
use Rattle.rules.specs.Words.{if, Every}
use Rattle.rules.specs.Flows.{inputs, links}
use Rattle.rules.specs.Schedule.{walk, favouring, level}
use Rattle.rules.proofs.Shares.{Alike}
use Rattle.planes.specs.Tables.{Wide, tabled}

-- Where so many steps lead from p, by two functions in turn; and they lead to positions, however many they are.
abbrev pub reached : (ℕ → ℕ) → (ℕ → ℕ) → ℕ → ℕ → ℕ
reached near far p zero = p
reached near far p (suc n) = if (eqb (n % 2) 0) near far (reached near far p n)

pub record Reaches (near far : ℕ → ℕ) (p : ℕ) : Type 0 where
  pub low : (n : ℕ) → reached near far p n < 528

-- From p both ways lead to positions, by the mates at inputs and at outputs; and from each of a list they do.
pub record ReachesBoth (mates : List ℕ) (p : ℕ) : Type 0 where
  pub by_inputs : Reaches (tabled mates inputs) (tabled mates links) p
  pub by_links : Reaches (tabled mates links) (tabled mates inputs) p

abbrev pub ReachesAll : List ℕ → List ℕ → Type 0
ReachesAll mates odds = Every (ReachesBoth mates) odds

-- So many steps from p, which favours half h, each settle the count that they lead to, with the other half and h in turn.
abbrev pub stepped : (ℕ → ℕ) → (ℕ → ℕ) → ℕ → ℕ → ℕ → List ℕ → List ℕ
stepped near far p h zero c = c
stepped near far p h (suc n) c = set (stepped near far p h n c) (reached near far p (suc n)) (if (eqb (n % 2) 0) (3 - h) h)

-- The walk from p, which favours half h, by two functions in turn.
abbrev pub walked : (ℕ → ℕ) → (ℕ → ℕ) → ℕ → ℕ → List ℕ → List ℕ
walked near far p h c = walk (length c) near far p h c

-- A walk settles so many counts that the half which its start does not favour has every second one, beginning with the first.
pub record WalkedBy (near far : ℕ → ℕ) (start half : ℕ) (c : List ℕ) (steps : ℕ) (d : List ℕ) : Type 0 where
  pub same : d ≡ walked near far start half c
  pub own : favouring half d ≡ favouring half c + steps / 2
  pub other : favouring (3 - half) d ≡ favouring (3 - half) c + (steps + 1) / 2

-- A walk from a count that favours the first half makes so many steps; and whichever half its start favours, and whichever those favour
-- that were settled before, the walk makes the same steps.
pub record Walks (near far : ℕ → ℕ) (start : ℕ) (c : List ℕ) (steps : ℕ) (d : List ℕ) : Type 0 where
  pub len : Wide d
  pub few : steps ≤ 528
  pub same : d ≡ stepped near far start 1 steps c
  pub whole : (h : ℕ) → 1 ≤ h → h ≤ 2 → (e : List ℕ) → Alike c e → WalkedBy near far start h e steps (stepped near far start h steps e)

-- The group of p settled by walks both ways, p favouring half h.
abbrev pub both_ways : (ℕ → ℕ) → (ℕ → ℕ) → ℕ → ℕ → List ℕ → List ℕ
both_ways i o h p c = walked o i p h (walked i o p h (set c p h))

-- The group of p is settled, unless it is already, the way round that leaves the halves level.
unfoldable pub group_settled : (ℕ → ℕ) → (ℕ → ℕ) → ℕ → List ℕ → List ℕ
group_settled i o p c = if (eqb (get_or c p 0) 0) (if (level (both_ways i o 1 p c)) (both_ways i o 1 p c) (both_ways i o 2 p c)) c

-- The half with the larger share of a group of an odd number of counts whose first favours the first half, by the steps of the walk by
-- inputs.
abbrev pub larger_half : ℕ → ℕ
larger_half steps = if (eqb (steps % 2) 0) 1 2

-- It is the turn of the first half where as many counts favour the two, and of the second where the first has one more.
pub record Next (half : ℕ) (c : List ℕ) : Type 0 where
  pub low : 1 ≤ half
  pub high : half ≤ 2
  pub ahead : favouring 1 c + 1 ≡ favouring 2 c + half

-- With the group of p settled c becomes d, and then it is the turn of a half.
pub record Settles (i o : ℕ → ℕ) (p : ℕ) (c : List ℕ) (half : ℕ) (d : List ℕ) : Type 0 where
  pub len : Wide d
  pub next : Next half d
  pub same : d ≡ group_settled i o p c

-- The groups of those of a list, in their order.
abbrev pub all_settled : (ℕ → ℕ) → (ℕ → ℕ) → List ℕ → List ℕ → List ℕ
all_settled i o [] c = c
all_settled i o (p ∷ l) c = all_settled i o l (group_settled i o p c)

-- What was favoured is c, and with the groups of those of a list settled it is d.
pub record SettledBy (i o : ℕ → ℕ) (odds c d : List ℕ) : Type 0 where
  pub len : Wide d
  pub same : d ≡ all_settled i o odds c
