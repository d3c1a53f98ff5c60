-- Add in single cases, each of which a slip of the pen would change, and the frames in which it moves most: computed from the definitions.
use Prim.Native.Nat.{ℕ, ◌+◌, ◌*◌, ◌-◌, ◌≤◌, ◌<◌}
use mathlib.Core.Path.{◌≡◌, refl, sym, ap, ◌∙◌}
use mathlib.Core.List.{List, [], ◌∷◌, ◌++◌, map}
use mathlib.Core.Bool.{Bool, true}
use native.Mathlib.Omega.{arith}
use lib.ListN.{get_or}
use Rattle.rules.specs.Words.{bit, up_from, sum_to}
use Rattle.rules.specs.Flows.{port_of}
use Rattle.rules.specs.Frames.{cells_on, run_of}
use Rattle.rules.proofs.Cases.{by_eq, by_bool}
use Rattle.rules.proofs.Flows.{map_at}
use Rattle.calls.specs.Inspect.{is_wrong, twice_in, used_twice}
use Rattle.calls.proofs.Bench.{Case}
use Rattle.exchange.specs.Exchange.{collides, exchange}
use Rattle.exchange.specs.Add.{idle, add_checks, add_accepts, added, add_answer, add_leaves}
use Rattle.exchange.specs.Promises.{MovesMost, MostMoved}
use Rattle.exchange.proofs.Chain.{chain_list, chain_frame}

-- What Add answers, and the frame after.
adds : List ℕ → List ℕ → ℕ → List ℕ → List ℕ → Case
adds list frame e answer after = record { gives = add_answer 2 2 list frame e ++ add_leaves 2 2 list frame e; says = answer ++ after }

-- Four flows on two ports: 1 and 2 go to output 1, from inputs 1 and 2, and 3 and 4 to output 2; once all on link 1, once flow 2 on link 2.
abbrev crossing : List ℕ
crossing = 1 ∷ 1 ∷ 1 ∷ 1 ∷ 2 ∷ 1 ∷ 1 ∷ 1 ∷ 1 ∷ 2 ∷ 1 ∷ 1 ∷ 2 ∷ 2 ∷ 1 ∷ 1 ∷ []

abbrev on_two_links : List ℕ
on_two_links = 1 ∷ 1 ∷ 1 ∷ 1 ∷ 2 ∷ 1 ∷ 1 ∷ 2 ∷ 1 ∷ 2 ∷ 1 ∷ 1 ∷ 2 ∷ 2 ∷ 1 ∷ 1 ∷ []

pub cases : List Case
cases =
    -- the lowest slot with both ports idle, which is not the lowest idle at the input
    adds crossing (0 ∷ 4 ∷ 0 ∷ 0 ∷ []) 1 (0 ∷ 1 ∷ 0 ∷ 0 ∷ []) (1 ∷ 4 ∷ 0 ∷ 0 ∷ [])
    ∷ adds crossing (0 ∷ 2 ∷ 0 ∷ 4 ∷ []) 1 (0 ∷ 2 ∷ 0 ∷ 0 ∷ []) (0 ∷ 2 ∷ 1 ∷ 4 ∷ [])
    -- into the slot idle at the input, and the displaced cell to the other, whichever comes first, and whatever its link
    ∷ adds crossing (0 ∷ 2 ∷ 3 ∷ 0 ∷ []) 1 (0 ∷ 1 ∷ 2 ∷ 1 ∷ []) (1 ∷ 0 ∷ 3 ∷ 2 ∷ [])
    ∷ adds crossing (3 ∷ 0 ∷ 0 ∷ 2 ∷ []) 1 (0 ∷ 2 ∷ 1 ∷ 1 ∷ []) (3 ∷ 2 ∷ 1 ∷ 0 ∷ [])
    ∷ adds on_two_links (0 ∷ 2 ∷ 3 ∷ 0 ∷ []) 1 (0 ∷ 1 ∷ 2 ∷ 1 ∷ []) (1 ∷ 0 ∷ 3 ∷ 2 ∷ [])
    -- 17 before 18; 18
    ∷ adds crossing (1 ∷ 0 ∷ 3 ∷ 2 ∷ []) 1 (17 ∷ []) (1 ∷ 0 ∷ 3 ∷ 2 ∷ [])
    ∷ adds crossing (1 ∷ 0 ∷ 0 ∷ 2 ∷ []) 1 (18 ∷ []) (1 ∷ 0 ∷ 0 ∷ 2 ∷ [])
    -- 16 before these: a flow at another's place, a number above the list, an output twice
    ∷ adds crossing (2 ∷ 0 ∷ 1 ∷ 0 ∷ []) 1 (16 ∷ []) (2 ∷ 0 ∷ 1 ∷ 0 ∷ [])
    ∷ adds crossing (0 ∷ 0 ∷ 0 ∷ 5 ∷ []) 1 (16 ∷ []) (0 ∷ 0 ∷ 0 ∷ 5 ∷ [])
    ∷ adds on_two_links (1 ∷ 2 ∷ 3 ∷ 0 ∷ []) 1 (16 ∷ []) (1 ∷ 2 ∷ 3 ∷ 0 ∷ [])
    -- 12 before 16; 4 before 12
    ∷ adds crossing (2 ∷ 0 ∷ 0 ∷ 0 ∷ []) 5 (12 ∷ []) (2 ∷ 0 ∷ 0 ∷ 0 ∷ [])
    ∷ adds crossing (2 ∷ 0 ∷ 0 ∷ 0 ∷ []) 0 (12 ∷ []) (2 ∷ 0 ∷ 0 ∷ 0 ∷ [])
    ∷ adds crossing (2 ∷ 0 ∷ 0 ∷ []) 5 (4 ∷ []) (2 ∷ 0 ∷ 0 ∷ [])
    ∷ []

pub added_cases : map (λ c. c.gives) cases ≡ map (λ c. c.says) cases
unfolding cases adds add_checks added exchange collides idle is_wrong used_twice twice_in cells_on run_of sum_to port_of
added_cases = refl

-- ---- the most that is moved
-- How many cells are moved in the frame of so many ports, and 1 where Add accepts.
moves : ℕ → ℕ
moves n = (added n 2 (chain_list n) (chain_frame n) (2 * n - 1)).moved

takes : ℕ → ℕ
takes n = bit (add_accepts n 2 (chain_list n) (chain_frame n) (2 * n - 1))

chain_moves : map moves (up_from 2 15) ≡ map (λ n. 2 * n - 3) (up_from 2 15)
unfolding moves chain_list chain_frame added exchange collides idle cells_on run_of sum_to port_of
chain_moves = refl

chain_takes : map takes (up_from 2 15) ≡ map (λ _. 1) (up_from 2 15)
unfolding takes chain_list chain_frame add_checks idle is_wrong used_twice twice_in cells_on run_of sum_to port_of
chain_takes = refl

at_each : (f g : ℕ → ℕ) → map f (up_from 2 15) ≡ map g (up_from 2 15) → (i : ℕ) → i < 15 → f (2 + i) ≡ g (2 + i)
at_each f g same i h = sym (map_at f 2 15 i h) ∙ ap (λ (l : List ℕ). get_or l i 0) same ∙ map_at g 2 15 i h

-- one port moves none
one_port : MovesMost 1
unfolding add_checks added exchange collides idle is_wrong used_twice twice_in cells_on run_of sum_to port_of
one_port = record { list = 1 ∷ 1 ∷ 1 ∷ 1 ∷ []; frame = 0 ∷ 0 ∷ []; flow = 1; accepts = refl; moves = refl }

more_ports : (ports : ℕ) → 2 ≤ ports → ports ≤ 16 → MovesMost ports
unfolding moves takes
more_ports ports low high =
    let i = ports - 2 in
    let is : 2 + i ≡ ports = omega arith in
    record {
      list = chain_list ports;
      frame = chain_frame ports;
      flow = 2 * ports - 1;
      accepts = taken (add_accepts ports 2 (chain_list ports) (chain_frame ports) (2 * ports - 1)) (rw is at (at_each takes (λ _. 1) chain_takes i (omega arith)));
      moves = rw is at (at_each moves (λ n. 2 * n - 3) chain_moves i (omega arith));
    }
  where
    taken : (b : Bool) → bit b ≡ 1 → b ≡ true
    taken b h = by_bool b (λ e. e) (λ e. absurd (let z : 0 ≡ 1 = rw e at h in omega arith))

pub most_moved : MostMoved
most_moved ports w = by_eq ports 1 (λ e. rw e one_port) (λ n. more_ports ports (omega (arith, w.0)) w.1)
