-- The ninth bench load that is marked P, on the wire: its cells, its share and its bound. The seam load is in Tight.
use mathlib.Core.Path.{◌≡◌, refl}
use mathlib.Core.List.{List, [], ◌∷◌, map}
use native.Mathlib.Omega.{arith}
use lib.ListN.{replicate}
use Rattle.rules.specs.Words.{Near, sum_to, up_from}
use Rattle.rules.specs.Flows.{port_of, counts_of, flow, load_in}
use Rattle.rules.specs.Frames.{cells_on, run_of}
use Rattle.rules.specs.Schedule.{walk, settle_at, favours, slot_of, frame_of}
use Rattle.calls.specs.Refusals.{slots_each}
use Rattle.calls.specs.Build.{build_checks}
use Rattle.wire.specs.Wire.{Call, Carried, none, chain, cells_at, cells_in, share, Accurate}
use Rattle.calls.proofs.Bench.{table7}

-- the sheet's frame, carried twice
abbrev twice : List Carried
twice = chain none (replicate 16 77) (record { ports = 4; slots = 4; list = table7; limits = slots_each 4; times = 2 } ∷ [])

-- the run of flow 5 from slot 4 on over two slots: 2 cells, and a share of 1, which is 4 over 2 ^ k
pub ninth : (cells_in (flow 4) twice 3 2 ≡ 2) × (share (flow 4) 0 twice 3 2 ≡ 4)
unfolding chain cells_at cells_in share cells_on run_of build_checks sum_to port_of counts_of load_in walk settle_at favours slot_of frame_of
ninth = (refl, refl)

-- the bound of that run for k = 2 is 5/3, which is 20 over 3 × 2 ^ k: 24 for the cells is within 20 of 12 for the share
pub ninth_bound : Accurate 4 2 twice → Near 20 24 12
unfolding chain cells_at cells_in share cells_on run_of build_checks sum_to port_of counts_of load_in walk settle_at favours slot_of frame_of
ninth_bound a = a 3 2 (omega arith) (flow 4) tt

-- a switch of two ports, so that ports are not slots: a flow of 2 cells from input 1 to output 1 and one of 3 from 2 to 2, in a frame of
-- four slots that is carried twice
abbrev two_ports : List Carried
two_ports =
    chain none (replicate 8 77)
    (record { ports = 2; slots = 4; list = 1 ∷ 1 ∷ 2 ∷ 1 ∷ 2 ∷ 2 ∷ 3 ∷ 1 ∷ []; limits = slots_each 4; times = 2 } ∷ [])

-- the cells of the second slot by slot, and in the run of three slots over the seam, of which 3 × 3 / 4 are its share
pub two_ports_carried : (map (cells_at (flow 1) two_ports) (up_from 0 9) ≡ 1 ∷ 1 ∷ 0 ∷ 1 ∷ 1 ∷ 1 ∷ 0 ∷ 1 ∷ 0 ∷ [])
    × (cells_in (flow 1) two_ports 3 3 ≡ 3) × (share (flow 1) 0 two_ports 3 3 ≡ 9)
unfolding chain cells_at cells_in share cells_on run_of build_checks sum_to port_of counts_of load_in walk settle_at favours slot_of frame_of
two_ports_carried = (refl, refl, refl)

-- a call for no ports, which is refused
abbrev refused : Call
refused = record { ports = 0; slots = 3; list = []; limits = []; times = 1 }

-- Before the first accepted call nothing is carried, and after a refused one the frames are still those of the last accepted call. These are
-- the slots of each carried frame.
pub last_accepted : map (λ f. f.call.slots) (chain none (replicate 1 77) (refused ∷ record { ports = 1; slots = 1; list = []; limits = slots_each 1; times = 1 } ∷ refused ∷ [])) ≡ 1 ∷ 1 ∷ []
unfolding chain build_checks port_of counts_of load_in sum_to
last_accepted = refl
