-- The frame as a function. The laws of proofs/ show that this is the only thing that meets the rules.
use Rattle.std.specs.Prelude.{ℕ, suc, zero, ◌+◌, ◌*◌, ◌-◌, ◌/◌, List, [], ◌∷◌, ◌++◌, Bool, true, false, eqb, length, get_or, set, replicate}
use Rattle.rules.specs.Words.{if, both, bit, within, up_from, keep}
use Rattle.rules.specs.Flows.{End, inputs, links, output_of}
use Rattle.rules.specs.Rules.{odd, odds_at, singles_of}

-- The partner of p in a list, first with second, third with fourth, ..; a single one is its own.
abbrev pub partner_in : List ℕ → ℕ → ℕ
partner_in [] p = p
partner_in (a ∷ []) p = p
partner_in (a ∷ b ∷ l) p = if (eqb p a) b (if (eqb p b) a (partner_in l p))

-- The partner of p at its input, or at its link.
abbrev pub partner : (ℕ → ℕ) → List ℕ → ℕ → ℕ
partner port m p = partner_in (odds_at port m (port p)) p

-- The partner of p at its output: that at its link, and of one that its link leaves single the one among the single ones.
abbrev pub output_partner : (ℕ → ℕ) → List ℕ → ℕ → ℕ
output_partner port m p =
    let q = partner port m p in
    if (eqb q p) (partner_in (singles_of port m (output_of (port p) * 4) 4) p) q

-- Each count has 0 until it is settled, then the half that it favours, 1 or 2. From p, which favours h, its partner on
-- one side is settled with the other half, that one's partner on the other side with h, and so on, until a settled one.
unfoldable pub walk : ℕ → (ℕ → ℕ) → (ℕ → ℕ) → ℕ → ℕ → List ℕ → List ℕ
walk zero go back p h c = c
walk (suc n) go back p h c =
    let q = go p in
    elim (eqb (get_or c q 0) 0) [ true ↦ walk n back go q (3 - h) (set c q (3 - h)) | false ↦ c ]

-- The group of p settled, p favouring half h: walks both ways.
abbrev pub group_of : (ℕ → ℕ) → (ℕ → ℕ) → List ℕ → ℕ → ℕ → List ℕ → List ℕ
group_of i o m h p c = walk (length m) o i p h (walk (length m) i o p h (set c p h))

-- How many counts favour half h; with 0, how many are not settled.
abbrev pub favouring : ℕ → List ℕ → ℕ
favouring h [] = 0
favouring h (x ∷ c) = bit (eqb x h) + favouring h c

-- As many counts favour the first half as the second, or one more.
abbrev pub level : List ℕ → Bool
level c = within (favouring 2 c) (favouring 2 c + 1) (favouring 1 c)

-- The group of p is settled if p is odd and not settled yet: p is its first. It favours the first half where the two halves
-- are then level, else the second; so the larger shares of groups with an odd number of counts go to the halves in turn.
unfoldable pub settle_at : (ℕ → ℕ) → (ℕ → ℕ) → List ℕ → ℕ → List ℕ → List ℕ
settle_at i o m p c =
    elim (both (odd m p) (eqb (get_or c p 0) 0)) [
      | true ↦ if (level (group_of i o m 1 p c)) (group_of i o m 1 p c) (group_of i o m 2 p c)
      | false ↦ c
    ]

abbrev pub settle : (ℕ → ℕ) → (ℕ → ℕ) → List ℕ → List ℕ → List ℕ → List ℕ
settle i o m [] c = c
settle i o m (p ∷ l) c = settle i o m l (settle_at i o m p c)

-- The half that each count favours, 0 for an even one, by the partners of each on the two sides: groups are settled by their first
-- counts, in the order of the flows.
abbrev pub favours_by : (ℕ → ℕ) → (ℕ → ℕ) → List ℕ → List ℕ
favours_by i o m = settle i o m (up_from 0 (length m)) (replicate (length m) 0)

unfoldable pub favours : (End → ℕ → ℕ) → List ℕ → List ℕ
favours port m = favours_by (partner (port inputs) m) (output_partner (port links) m) m

-- What half h gets of each count.
abbrev pub half_by : ℕ → List ℕ → List ℕ → List ℕ
half_by h [] c = []
half_by h (x ∷ m) [] = []
half_by h (x ∷ m) (y ∷ c) = (x / 2 + bit (eqb y h)) ∷ half_by h m c

abbrev pub half_of : (End → ℕ → ℕ) → ℕ → List ℕ → List ℕ
half_of port h m = half_by h m (favours port m)

-- The flows of a list, written into a slot: at each one's input its number, from 1.
abbrev pub put : (End → ℕ → ℕ) → List ℕ → List ℕ → List ℕ
put port [] slot = slot
put port (f ∷ l) slot = put port l (set slot (port inputs f) (suc f))

unfoldable pub slot_of : ℕ → (End → ℕ → ℕ) → List ℕ → List ℕ
slot_of ports port m = put port (keep (odd m) (up_from 0 (length m))) (replicate ports 0)

-- The entries of a block of 2 ^ k slots.
unfoldable pub frame_of : ℕ → (End → ℕ → ℕ) → ℕ → List ℕ → List ℕ
frame_of ports port zero m = slot_of ports port m
frame_of ports port (suc k) m =
    let c = favours port m in
    frame_of ports port k (half_by 1 m c) ++ frame_of ports port k (half_by 2 m c)
