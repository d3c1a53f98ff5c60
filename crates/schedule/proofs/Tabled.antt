-- The input and the link of one more flow in the table, and what the table of a list has.
use Prim.Native.Nat.{ℕ, ◌+◌, ◌%◌, ◌<◌}
use mathlib.Core.Path.{◌≡◌, refl, sym, ap, ◌∙◌}
use mathlib.Core.List.{List}
use native.Mathlib.Omega.{arith}
use lib.Dec.{eqb}
use lib.ListN.{set, length-set}
use lib.Seq.{get_or-set_same, get_or-set_other}
use borrow.Author.Tests.{ne_eqb}
use Rattle.rules.specs.Words.{if}
use Rattle.rules.specs.Flows.{End, inputs, links, flows, output_of, port_of}
use Rattle.rules.proofs.Cases.{by_eq}
use Rattle.checks.specs.Fits.{ListFits}
use Rattle.bits.specs.Digits.{digit, PutAt}
use Rattle.bits.proofs.Digits.{digit_none, if_same, if_other}
use Rattle.planes.specs.Tables.{WideEnds, tabled}
use Rattle.split.specs.Steps.{Outputs, Sides}
use Rattle.schedule.specs.Steps.{Tables, Tabled}

-- ---- one more flow
pub record Tabling (list : List ℕ) (f multi : ℕ) (ends : List ℕ) : Type 0 where
  pub len : WideEnds ends
  pub has : (s : End) (q : ℕ) → q < f → tabled ends s q ≡ port_of list s q
  pub outputs : Outputs multi
  pub firsts : (q : ℕ) → q < f → digit multi (output_of (port_of list links q)) ≡ 0 → port_of list links q % 4 ≡ 0

pub tabling_start : {list ends : List ℕ} → WideEnds ends → Tabling list 0 0 ends
tabling_start l =
    record {
      len = l;
      has = λ s q h. absurd (omega arith);
      outputs = λ o a. absurd (omega (arith, digit_none o));
      firsts = λ q h. absurd (omega arith);
    }

module _ {list ends : List ℕ} {f multi : ℕ} (t : Tabling list f multi ends) (low : f < 512) where
  pub tabling_on : {x y o d : ℕ} → x ≡ port_of list inputs f → y ≡ port_of list links f → o ≡ output_of (port_of list links f) → o < 16 → d ≡ if (eqb (y % 4) 0) 0 1 → {r : ℕ} → PutAt multi o d r
      → Tabling list (f + 1) r (set (set ends (0 + f) x) (528 + f) y)
  tabling_on {x} {y} {o} {d} ex ey eo few ed {r} put =
      record {
        len = length-set half (528 + f) y ∙ length-set ends (0 + f) x ∙ t.len;
        has = has;
        outputs = λ i a. by_eq i o (λ e. omega arith) (λ e. t.outputs i (omega (arith, put.put i, if_other i o d e)));
        firsts = λ q k. by_eq q f (λ e. rw (e, sym ey) (λ l. own (ap (digit r) (eo ∙ ap output_of (sym ey)) ∙ l))) (λ e l. t.firsts q (omega arith) (omega (arith, put.put (output_of (port_of list links q)))));
      }
    where
      half : List ℕ
      half = set ends (0 + f) x

      has : (s : End) (q : ℕ) → q < f + 1 → tabled (set (set ends (0 + f) x) (528 + f) y) s q ≡ port_of list s q
      has inputs q k =
          get_or-set_other (set ends (0 + f) x) (528 + f) (0 + q) y 0 (omega (arith, low))
          ∙ by_eq q f
          (λ e. rw e (get_or-set_same ends (0 + f) x 0 (omega (arith, t.len, low)) ∙ ex))
          (λ e. get_or-set_other ends (0 + f) (0 + q) x 0 (omega arith) ∙ t.has inputs q (omega arith))
      has links q k =
          by_eq q f
          (λ e. rw e (get_or-set_same (set ends (0 + f) x) (528 + f) y 0 (omega (arith, length-set ends (0 + f) x, t.len, low)) ∙ ey))
          (λ e.
          get_or-set_other (set ends (0 + f) x) (528 + f) (528 + q) y 0 (omega arith)
          ∙ get_or-set_other ends (0 + f) (528 + q) x 0 (omega (arith, low))
          ∙ t.has links q (omega arith))

      -- the digit of the output of its link, unless that is the first
      own : digit r o ≡ 0 → y % 4 ≡ 0
      own l =
          by_eq (y % 4) 0 (λ e. e)
          (λ e. let one : d ≡ 1 = rw (ne_eqb (y % 4) 0 e) at ed in absurd (omega (arith, put.put o, if_same o o d refl)))

module _ {list ends : List ℕ} {f multi : ℕ} (t : Tabling list f multi ends) (all : f ≡ flows list) where
  pub tabling_end : Tabled list ends
  tabling_end = record { has = λ s q k. t.has s q (omega (arith, all)) }

  pub sides_end : {ports : ℕ} → ListFits ports list → Sides (flows list) multi ends
  unfolding port_of
  sides_end listed = record { low = low; few = t.outputs; others = λ p k. rw (tabling_end.has links p k) (t.firsts p (omega (arith, all))) }
    where
      low : (s : End) (p : ℕ) → p < flows list → tabled ends s p < 64
      low inputs p k = let a = listed.ported inputs p k in omega (arith, tabling_end.has inputs p k, listed.most)
      low links p k = let a = listed.ported links p k in let b = listed.linked p k in omega (arith, tabling_end.has links p k, listed.most)

-- ---- the table of a list
pub tables_of : {ports n multi : ℕ} {list ends : List ℕ} → ListFits ports list → Tabled list ends → Sides (flows list) multi ends → n ≡ flows list → Tables ports n multi ends
unfolding port_of
tables_of t h s e =
    record {
      few = t.most;
      at_inputs = λ p l. let a = t.ported inputs p (omega arith) in omega (arith, h.has inputs p (omega arith));
      sides = rw e s;
    }
