-- Answers: the numbers of each, and how cases settle one.
use Prim.Native.Nat.{ℕ}
use mathlib.Core.Path.{◌≡◌, subst, refl}
use mathlib.Core.List.{[], ◌∷◌, map}
use lib.IntN.{pos}
use Rattle.std.specs.Prelude.{Ok, Err}
use Rattle.calls.specs.Refusals.{refusal, answered}
use Rattle.calls.specs.Build.{outcome}
use Rattle.calls.specs.Inspect.{finding, inspection_numbers}
use Rattle.calls.specs.Service.{served}
use Rattle.calls.specs.Answers.{Exactly}
use Rattle.calls.specs.Sides.{side_of}
use Rattle.rules.specs.Flows.{input, output}
use Rattle.calls.specs.declared.Side.TheVariants.{Input, Output}
use Rattle.calls.specs.declared.Refusal.{Refusal}
use Rattle.calls.specs.declared.Refusal.TheVariants.{Ports, Slots, ListLength, FrameLength, InputLoad, OutputLoad, LineForm, LinePort, SheetLength, SlotNumber, FlowOrPort, RunLength, Entries, SecondLength, TooManyFlows, FlowPort, FlowLink, LinkLoad}
use Rattle.calls.specs.declared.Inspection.{Inspection}
use Rattle.calls.specs.declared.Inspection.TheVariants.{Clean, WrongEntry, PortTwice, FlowCount, UnbalancedBlock}
use Rattle.calls.specs.declared.Count.{Count}

-- some case, and that what any case says is the answer, are enough
pub exactly : {A : Type 0} {cases : A → Type 0} {answer : A} → ((given : A) → cases given → given ≡ answer) → {given : A} → cases given → Exactly cases answer
exactly {A} {cases} only {given} c = (subst cases (only given c) c, only)

-- ---- the numbers of the answers
-- Document 01's number of each refusal, and then what it carries.
pub refusal_numbers : (port l cells line : ℕ)
    → map refusal (Ports ∷ Slots ∷ ListLength ∷ FrameLength ∷ InputLoad port cells ∷ OutputLoad port cells ∷ LineForm line ∷ LinePort line ∷ SheetLength ∷ SlotNumber ∷ FlowOrPort ∷ RunLength ∷ Entries ∷ SecondLength ∷ TooManyFlows ∷ FlowPort ∷ FlowLink ∷ LinkLoad port l cells ∷ [])
    ≡ (1 ∷ []) ∷ (2 ∷ []) ∷ (3 ∷ []) ∷ (4 ∷ []) ∷ (5 ∷ port ∷ cells ∷ []) ∷ (6 ∷ port ∷ cells ∷ []) ∷ (7 ∷ line ∷ []) ∷ (8 ∷ line ∷ []) ∷ (10 ∷ []) ∷ (11 ∷ []) ∷ (12 ∷ []) ∷ (13 ∷ []) ∷ (14 ∷ []) ∷ (15 ∷ []) ∷ (21 ∷ []) ∷ (22 ∷ []) ∷ (23 ∷ []) ∷ (24 ∷ port ∷ l ∷ cells ∷ []) ∷ []
refusal_numbers port l cells line = refl

-- Each fault's number, ours, in document 01's order, and then its place.
pub fault_numbers : (slot port f size : ℕ)
    → map finding (Clean ∷ WrongEntry slot port ∷ PortTwice slot port ∷ FlowCount f ∷ UnbalancedBlock slot size ∷ [])
    ≡ (0 ∷ []) ∷ (101 ∷ slot ∷ port ∷ []) ∷ (102 ∷ slot ∷ port ∷ []) ∷ (103 ∷ f ∷ []) ∷ (104 ∷ slot ∷ size ∷ []) ∷ []
fault_numbers slot port f size = refl

-- Acceptance is 0, Build's 0 and the odd counts settled, a count 0 and its cells with its lead, and a refusal has its number in each
-- answer, and no lead.
pub answer_numbers : (r : Refusal) (settled : ℕ) (c : Count) (found : Inspection)
    → (answered (Ok tt) ≡ 0 ∷ []) × (answered (Err r) ≡ refusal r) × (inspection_numbers (Err r) ≡ refusal r)
    × (outcome (Ok settled) ≡ 0 ∷ settled ∷ []) × (outcome (Err r) ≡ refusal r)
    × (served (Ok c) ≡ record { numbers = 0 ∷ c.cells ∷ []; ahead = c.lead }) × (served (Err r) ≡ record { numbers = refusal r; ahead = pos 0 })
    × (inspection_numbers (Ok found) ≡ finding found)
answer_numbers r settled c found = (refl, refl, refl, refl, refl, refl, refl, refl)

-- The side that a call is told.
pub sides_told : (side_of Input ≡ input) × (side_of Output ≡ output)
sides_told = (refl, refl)
