-- A run as whole turns of the frame and what is left: its parts lie inside the frame, its numbers fit, and its lead.
use Prim.Native.Nat.{ℕ, ◌+◌, ◌-◌, ◌*◌, ◌/◌, ◌%◌, ◌≤◌, ◌<◌, min}
use mathlib.Core.Path.{◌≡◌, refl, ap, ◌∙◌}
use mathlib.Core.List.{List}
use native.Mathlib.Omega.{arith}
use native.Mathlib.Nat.{mul-le-mul, mul-le-mul_right}
use lib.IntN.{pos, ◌-ℤ◌}
use lib.ListN.{length, take, drop, length-take, length-drop}
use Rattle.std.proofs.Common.{take_all}
use Rattle.rules.specs.Flows.{Side, Class}
use Rattle.rules.specs.Frames.{cells_on, run_of, repeated}
use Rattle.calls.specs.Service.{lead_on}
use Rattle.rules.proofs.Runs.{cells_most, repeated_most, cells_turns}
use Rattle.checks.specs.Fits.{FrameFits}
use Rattle.checks.proofs.Fits.{entries_most}

-- the entries of a run inside a frame
pub part_run : (ports start len : ℕ) (entries : List ℕ) → take (start * ports + len * ports - start * ports) (drop (start * ports) entries) ≡ run_of ports start len entries
unfolding run_of
part_run ports start len entries =
    let e : start * ports + len * ports - start * ports ≡ len * ports = omega arith in
    ap (λ z. take z (drop (start * ports) entries)) e

-- those of the run of all slots are the frame's
whole_run : (ports slots : ℕ) (entries : List ℕ) → length entries ≡ slots * ports → run_of ports 0 slots entries ≡ entries
unfolding run_of
whole_run ports slots entries size = let z : 0 * ports ≡ 0 = omega arith in rw z (take_all (slots * ports) entries (omega arith))

pub whole_counted : (side : Side) (c : Class) (ports slots : ℕ) (list entries : List ℕ) → length entries ≡ slots * ports → {n : ℕ}
    → n ≡ cells_on side ports list c (run_of ports 0 slots entries) → n ≡ cells_on side ports list c entries
whole_counted side c ports slots list entries size e = e ∙ ap (cells_on side ports list c) (whole_run ports slots entries size)

module _ {ports slots : ℕ} {entries : List ℕ} (f : FrameFits ports slots entries) where
  pub run_inside : (start len : ℕ) → start + len ≤ slots → start * ports + len * ports ≤ length entries
  run_inside start len h = omega (arith, f.size, mul-le-mul_right ports h)

  pub part_short : (n m : ℕ) → length (take n (drop m entries)) ≤ 16384
  part_short n m = omega (arith, entries_most f, length-take n (drop m entries), length-drop m entries)

  module _ (side : Side) (c : Class) (list : List ℕ) where
    -- what the whole frame holds, and a run of at most 1,000,000 slots
    pub whole_fits : {n : ℕ} → n ≡ cells_on side ports list c entries → n ≤ 16384
    whole_fits e = omega (arith, e, cells_most side c ports list entries, entries_most f)

    module _ (start : ℕ) {len : ℕ} (few : len ≤ 1000000) where
      pub run_fits : {n : ℕ} → n ≡ cells_on side ports list c (repeated ports slots entries start len) → n ≤ 16000000
      run_fits e = omega (arith, e, repeated_most side c ports slots list entries start len, mul-le-mul few f.most)

    -- whole turns, the part before the frame's end, and the part after it
    pub parts_run : (start len head tail : ℕ) {whole before after : ℕ} → start < slots → head ≡ min (len % slots) (slots - start) → head + tail ≡ len % slots
        → whole ≡ cells_on side ports list c entries → before ≡ cells_on side ports list c (run_of ports start head entries)
        → after ≡ cells_on side ports list c (run_of ports 0 tail entries)
        → len / slots * whole + (before + after) ≡ cells_on side ports list c (repeated ports slots entries start len)
    parts_run start len head tail low h e w b t =
        omega (
          arith,
          b,
          t,
          ap (λ z. len / slots * z) w,
          cells_turns side ports slots list entries f.size c start len (len / slots) head tail low refl h e,
        )

-- the lead, by what was counted
pub lead_counted : (side : Side) (c : Class) (ports slots : ℕ) (list entries : List ℕ) (start len : ℕ) {had whole : ℕ} → had ≡ cells_on side ports list c (repeated ports slots entries start len)
    → whole ≡ cells_on side ports list c entries → pos (slots * had) -ℤ pos (len * whole) ≡ lead_on side c ports slots list entries start len
unfolding lead_on
lead_counted side c ports slots list entries start len h w = rw (h, w)
