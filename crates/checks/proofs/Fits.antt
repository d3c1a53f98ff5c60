-- What follows of a list and of a frame that no refusal turns away.
use Prim.Native.Nat.{ℕ, ◌*◌, ◌≤◌, ◌<◌}
use mathlib.Core.Path.{◌≡◌, refl}
use mathlib.Core.List.{List}
use native.Mathlib.Omega.{arith}
use native.Mathlib.Nat.{mul-le-mul}
use lib.ListN.{length}
use lib.Pow.{pow_pos}
use Rattle.rules.specs.Words.{Within}
use Rattle.rules.specs.Flows.{flows, Side, input, output, inputs, links, port_of, output_of, on_side}
use Rattle.rules.specs.Frames.{levels}
use Rattle.rules.proofs.Levels.{power_level, power_most}
use Rattle.calls.specs.Demand2.{WellFormed}
use Rattle.calls.proofs.Demand2.{ported_placed}
use Rattle.checks.specs.Ports.{port_at}
use Rattle.checks.specs.Fits.{ListFits, FrameFits}

-- a well-formed list
pub well_fits : {ports slots : ℕ} {list : List ℕ} → WellFormed ports slots list → ListFits ports list
well_fits w = record { least = w.rack.0; most = w.rack.1; few = w.few; ported = w.ported; linked = w.linked }

module _ {ports : ℕ} {list : List ℕ} (l : ListFits ports list) where
  -- its ports are of the largest switch too
  pub fits_sixteen : ListFits 16 list
  fits_sixteen =
      record {
        least = omega arith;
        most = omega arith;
        few = l.few;
        ported = λ s f h. let p = l.ported s f h in (p.0, omega (arith, p.1, l.most));
        linked = l.linked;
      }

  -- the input and the link of a flow, from 0
  module _ (f : ℕ) (h : f < flows list) where
    pub input_below : port_of list inputs f < ports
    input_below = ported_placed list l.ported f h

    pub link_below : port_of list links f < ports * 4
    unfolding port_of
    link_below = let p = l.ported links f h in let k = l.linked f h in omega arith

    pub output_below : output_of (port_of list links f) < ports
    output_below = let h = link_below in omega arith

-- its port on a side
pub port_is : (list : List ℕ) (f : ℕ) (side : Side) → port_at side (port_of list inputs f) (output_of (port_of list links f)) ≡ on_side side (port_of list) f
port_is list f input = refl
port_is list f output = refl

module _ {ports slots : ℕ} {entries : List ℕ} (f : FrameFits ports slots entries) where
  pub slots_within : Within 1 1024 slots
  slots_within = let p = f.power in omega (arith, p.is, pow_pos p.k, power_most p)

  pub level_low : levels slots < 11
  level_low = let p = f.power in omega (arith, power_level p, p.most)

  pub frame_most : slots * ports ≤ 16384
  frame_most = omega (arith, mul-le-mul slots_within.1 f.most)

  pub entries_most : length entries ≤ 16384
  entries_most = omega (arith, f.size, frame_most)
