-- The counts of a load that fits are those of a block, and what is made of them is made of the list.
use Prim.Native.Nat.{ℕ, suc, ◌*◌, ◌^◌, ◌≤◌, ◌<◌}
use mathlib.Core.Path.{◌≡◌, refl, sym, ap, ap₂, ◌∙◌}
use lib.Dec.{eqb}
use borrow.Author.Tests.{ne_eqb}
use Rattle.std.specs.declared.option.Option.{Option}
use Rattle.std.specs.declared.option.Option.TheVariants.{None, Some}
use Rattle.rules.specs.Words.{if}
use mathlib.Core.List.{List}
use native.Mathlib.Omega.{arith}
use lib.ListN.{length, get_or, replicate}
use Rattle.rules.specs.Flows.{flows, number_of, port_of, counts_of}
use Rattle.rules.specs.Frames.{levels}
use Rattle.rules.specs.OddShares.{settled}
use Rattle.rules.specs.Schedule.{frame_of}
use Rattle.calls.specs.Build.{frame_for}
use Rattle.rules.proofs.Levels.{pow_less, power_level}
use Rattle.rules.proofs.Flows.{counts_length, counts_at}
use Rattle.calls.proofs.Demand2.{flow_most}
use Rattle.checks.proofs.Fits.{level_low}
use Rattle.rules.proofs.SamePorts.{frame_same}
use Rattle.planes.specs.Planes.{counts_in, BlockPlanes}
use Rattle.planes.specs.Steps.{Loaded}
use Rattle.planes.proofs.Counts as in-planes
use Rattle.planes.specs.Tables.{tabled}
use Rattle.schedule.specs.Steps.{Fillable, Tabled}

module _ {ports slots : ℕ} {list buffer : List ℕ} (f : Fillable ports slots list buffer) where
  power : slots ≡ 2 ^ levels slots
  power = f.framed.power.is ∙ ap (λ (k : ℕ). 2 ^ k) (sym (power_level f.framed.power))

  pub levels_low : levels slots ≤ 10
  levels_low = omega (arith, level_low f.framed)

  -- so it is a power of two whose exponent is told
  pub levels_told : {o : Option ℕ} → o ≡ if (eqb (levels slots) 11) None (Some (levels slots)) → o ≡ Some (levels slots)
  levels_told e = e ∙ rw (ne_eqb (levels slots) 11 (omega (arith, levels_low))) refl

  pub levels_is : {o : Option ℕ} {k : ℕ} → o ≡ if (eqb (levels slots) 11) None (Some (levels slots)) → o ≡ Some k → k ≡ levels slots
  levels_is e f = let told = levels_told e in cc

  pub cells_room : (q : ℕ) → q < flows list → number_of 2 list q < 2 ^ 11
  cells_room q h = omega (arith, flow_most list f.listed.ported f.fits q h, power, pow_less (levels slots) 11 (omega (arith, levels_low)))

  loaded_counts : {m : ℕ} {planes : List ℕ} → m ≡ levels slots → Loaded list planes → counts_in (suc m) planes (flows list) ≡ counts_of list
  loaded_counts {m} e g =
      g.same (suc m) (omega (arith, levels_low)) (λ q h. omega (arith, flow_most list f.listed.ported f.fits q h, power, ap (λ (k : ℕ). 2 ^ k) e, pow_less m (suc m) (omega arith)))

  pub loaded_block : {m n : ℕ} {planes : List ℕ} → m ≡ levels slots → n ≡ flows list → Loaded list planes → BlockPlanes m n planes
  loaded_block {m} {n} {planes} e d g =
      let few = f.listed.few in
      record {
        few = omega arith;
        most = λ p h.
            omega (
              arith,
              sym (in-planes.counts_at (suc m) planes (flows list) p (omega arith)),
              ap (λ (c : List ℕ). get_or c p 0) (loaded_counts e g),
              counts_at list p (omega arith),
              flow_most list f.listed.ported f.fits p (omega arith),
              power,
              ap (λ (k : ℕ). 2 ^ k) e,
            );
        past = λ p a h. g.past (suc m) p (omega (arith, levels_low)) (omega arith) (omega arith);
      }

  pub frame_blank : {m : ℕ} {entries : List ℕ} → m ≡ levels slots → entries ≡ replicate (length buffer) 0 → entries ≡ replicate (2 ^ m * ports) 0
  frame_blank e d = d ∙ ap (λ (n : ℕ). replicate n 0) (f.framed.size ∙ ap (λ (x : ℕ). x * ports) (power ∙ ap (λ (k : ℕ). 2 ^ k) (sym e)))

  -- what the planes and the tables give is what the list gives
  module _ {m n : ℕ} {planes : List ℕ} (e : m ≡ levels slots) (d : n ≡ flows list) (g : Loaded list planes) where
    same_counts : counts_in (suc m) planes n ≡ counts_of list
    same_counts = ap (counts_in (suc m) planes) d ∙ loaded_counts e g

    pub all_are_settled : {r : ℕ} → r ≡ settled m (counts_in (suc m) planes n) → r ≡ settled (levels slots) (counts_of list)
    all_are_settled f = f ∙ ap₂ settled e same_counts

    pub all_filled : {ends entries : List ℕ} → Tabled list ends → entries ≡ frame_of ports (tabled ends) m (counts_in (suc m) planes n) → entries ≡ frame_for ports slots list
    all_filled {ends} t f =
        f
        ∙ ap₂ (frame_of ports (tabled ends)) e same_counts
        ∙ frame_same ports (tabled ends) (port_of list) (levels slots) (counts_of list) (λ s p h. t.has s p (omega (arith, counts_length list)))
