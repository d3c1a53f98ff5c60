-- Words read from a list and by the entries of a frame, step by step.
use Prim.Native.Nat.{ℕ, suc, ◌+◌, ◌*◌, ◌/◌, ◌%◌, ◌^◌, ◌≤◌, ◌<◌, max}
use mathlib.Core.Path.{◌≡◌, refl, sym, ap, ◌∙◌}
use mathlib.Core.List.{List}
use mathlib.Core.Bool.{Bool, false, not}
use native.Mathlib.Omega.{arith}
use native.Mathlib.Numerals.{add-one}
use lib.Bits.{bit_or}
use lib.Dec.{eqb}
use lib.ListN.{length, get_or, set, replicate, length-set, length-replicate}
use lib.Pow.{shl_exact, shr-shr}
use lib.Seq.{get_or-set_same, get_or-set_other}
use borrow.Author.Tests.{eq-eqb, eqb-true, not-false}
use Rattle.rules.specs.Words.{sum_to}
use Rattle.rules.specs.Flows.{flows, Side, other, on_side, port_of}
use Rattle.rules.proofs.Cases.{by_eq}
use Rattle.rules.proofs.Lists.{zero_at}
use Rattle.rules.proofs.Sums.{sum_none, sum_more}
use Rattle.bits.specs.Digits.{digit}
use Rattle.bits.proofs.Digits.{digit_most, digit_or, digits_same, if_same, if_other}
use Rattle.checks.specs.Fits.{ListFits}
use Rattle.entries.specs.Usable.{Denies, word_of, WordsTo, word_at, together, Apart, ColumnsRead, SlotRead, OwnDigits, ColumnsOwn, FrameApart}
use Rattle.entries.proofs.Words.{one_digit, together_more, together_zero, zero_together}

-- ---- one word
shifted : (p : ℕ) → p < 32 → (1 * 2 ^ p) % 2 ^ 32 ≡ 2 ^ p
shifted p h = shl_exact 1 p 32 (omega arith) (omega arith) ∙ omega arith

pub astray_told : (w : ℕ) {i : ℕ} → i < 16 → Denies (OwnDigits w i) (not (eqb (bit_or (w / 2 ^ 16) ((1 * 2 ^ i) % 2 ^ 32)) ((1 * 2 ^ i) % 2 ^ 32)))
unfolding digit
astray_told w {i} h =
    rw (shifted i (omega arith))
    (record {
      known = λ e y n.
          omega (arith, ap (λ z. digit z y) (eqb-true (bit_or (w / 2 ^ 16) (2 ^ i)) (2 ^ i) (not-false _ e)), own y, both y, one_digit i y, if_other y i 1 n);
      met = λ d. ap not (eq-eqb (bit_or (w / 2 ^ 16) (2 ^ i)) (2 ^ i) (digits_same (bit_or (w / 2 ^ 16) (2 ^ i)) (2 ^ i) (λ j.
          by_eq j i
          (λ z. omega (arith, both j, one_digit i j, if_same j i 1 z, digit_most (w / 2 ^ 16) j))
          (λ z. omega (arith, both j, own j, d j z, one_digit i j, if_other j i 1 z)))));
    })
  where
    own : (y : ℕ) → digit (w / 2 ^ 16) y ≡ digit w (16 + y)
    own y = ap (λ (z : ℕ). z % 2) (shr-shr w 16 y)

    both : (y : ℕ) → digit (bit_or (w / 2 ^ 16) (2 ^ i)) y ≡ max (digit (w / 2 ^ 16) y) (digit (2 ^ i) y)
    both y = digit_or (w / 2 ^ 16) (2 ^ i) y

-- ---- the words of a list
pub words_start : (side : Side) (list : List ℕ) {words : List ℕ} → words ≡ replicate 513 0 → WordsTo side list 0 words
unfolding word_of
words_start side list e =
    rw e (record { size = length-replicate {A = ℕ} 513 0; each = λ q l. let z : q ≡ 0 = omega arith in rw z (zero_at 513 0) })

pub words_on : (side : Side) {list words : List ℕ} {f x o r : ℕ} → ListFits 16 list → f < flows list → WordsTo side list f words
    → x ≡ on_side (other side) (port_of list) f → o ≡ on_side side (port_of list) f → r ≡ bit_or (2 ^ x) (2 ^ (16 + o)) → WordsTo side list (f + 1) (set words (f + 1) r)
unfolding word_of
words_on side {list} {words} {f} {x} {o} {r} l h w across own e =
    let is : word_of side list (suc f) ≡ r = rw (sym across, sym own) (sym e) in
    record {
      size = length-set words (f + 1) r ∙ w.size;
      each = λ y k. by_eq y (f + 1)
          (λ d. rw d (get_or-set_same words (f + 1) r 0 (omega (arith, w.size, l.few)) ∙ sym (rw (add-one f) is)))
          (λ d. get_or-set_other words (f + 1) y r 0 d ∙ w.each y (omega arith));
    }

-- ---- the words of a slot
pub record SlotReading (ports : ℕ) (words frame : List ℕ) (slot : ℕ) (old : List ℕ) (i : ℕ) (new : List ℕ) (sum seen : ℕ) : Type 0 where
  pub most : i ≤ ports
  pub columns : ColumnsRead i (word_at ports words frame slot) old new
  pub sums : sum ≡ sum_to i (word_at ports words frame slot)
  pub sees : seen ≡ together i (word_at ports words frame slot)
  pub room : sum ≤ i * 4294967295

pub slot_start : (ports : ℕ) (words frame : List ℕ) (slot : ℕ) {old : List ℕ} → length old ≡ 16 → SlotReading ports words frame slot old 0 old 0 0
unfolding together
slot_start ports words frame slot size =
    record {
      most = omega arith;
      columns = record { size = size; each = λ i l. absurd (omega arith); others = λ i _. refl };
      sums = sym (sum_none (word_at ports words frame slot));
      sees = refl;
      room = omega arith;
    }

module _ {ports : ℕ} {words frame : List ℕ} {slot : ℕ} {old : List ℕ} {i : ℕ} {new : List ℕ} {sum seen : ℕ} (g : SlotReading ports words frame slot old i new sum seen) where
  pub slot_on : {e w v s : ℕ} → i < ports → ports ≤ 16 → e ≡ get_or frame (slot * ports + i) 0 → w ≡ get_or words e 0 → v ≡ w → w < 2 ^ 32 → s ≡ bit_or seen w
      → SlotReading ports words frame slot old (i + 1) (set new i (bit_or (get_or new i 0) w)) (sum + v) s
  unfolding word_at
  slot_on {e} {w} {v} l h is word same k more =
      let at : ℕ → ℕ = word_at ports words frame slot in
      let d : w ≡ at i = word ∙ ap (λ z. get_or words z 0) is in
      let c = g.columns in
      record {
        most = omega arith;
        columns = record {
          size = length-set new i (bit_or (get_or new i 0) w) ∙ c.size;
          each = λ x b. by_eq x i
              (λ z. rw (z, d) (get_or-set_same new i (bit_or (get_or new i 0) (at i)) 0 (omega (arith, c.size)) ∙ ap (λ y. bit_or y (at i)) (c.others i (omega arith))))
              (λ z. get_or-set_other new i x (bit_or (get_or new i 0) w) 0 z ∙ c.each x (omega arith));
          others = λ x b. get_or-set_other new i x (bit_or (get_or new i 0) w) 0 (omega arith) ∙ c.others x (omega arith);
        };
        sums = omega (arith, same, d, g.sums, sum_more i at, ap (λ z. sum_to z at) (add-one i));
        sees = more ∙ rw (add-one i, together_more at i, d) (ap (λ z. bit_or z (at i)) g.sees);
        room = omega (arith, g.room);
      }

-- ---- columns
-- ---- slots, one after the other
pub record FrameReading (ports slots : ℕ) (words frame : List ℕ) (s : ℕ) (columns : List ℕ) : Type 0 where
  pub most : s ≤ slots
  pub size : length columns ≡ 16
  pub apart : (t : ℕ) → t < s → Apart ports (word_at ports words frame t)
  pub each : (i : ℕ) → i < ports → get_or columns i 0 ≡ together s (λ t. word_at ports words frame t i)

pub frame_start : (ports slots : ℕ) (words frame : List ℕ) → FrameReading ports slots words frame 0 (replicate 16 0)
unfolding together
frame_start ports slots words frame =
    record { most = omega arith; size = length-replicate {A = ℕ} 16 0; apart = λ t l. absurd (omega arith); each = λ i _. zero_at 16 i }

module _ {ports slots : ℕ} {words frame : List ℕ} {s : ℕ} {columns : List ℕ} (g : FrameReading ports slots words frame s columns) where
  module _ {new : List ℕ} {r : Bool} (h : s < slots) (t : SlotRead ports words frame s columns new r) where
    pub frame_on : r ≡ false → FrameReading ports slots words frame (s + 1) new
    frame_on e =
        record {
          most = omega arith;
          size = t.columns.size;
          apart = λ x l. by_eq x s (λ d. rw d (eqb-true _ _ (not-false _ (sym t.told ∙ e)))) (λ d. g.apart x (omega arith));
          each = λ i k. rw (add-one s, together_more (λ t. word_at ports words frame t i) s) (t.columns.each i k ∙ ap (λ z. bit_or z (word_at ports words frame s i)) (g.each i k));
        }

  pub frame_end : {r : Bool} → slots ≤ s → Denies (ColumnsOwn ports columns) r → Denies (FrameApart ports slots words frame) r
  frame_end l t =
      record {
        known = λ e. record {
          apart = λ x h. g.apart x (omega arith);
          own = λ x i h k y n. zero_together (λ t. word_at ports words frame t i) s (16 + y) (ap (λ z. digit z (16 + y)) (sym (g.each i k)) ∙ t.known e i k y n) x (omega arith);
        };
        met = λ a. t.met (λ i k y n.
            ap (λ z. digit z (16 + y)) (g.each i k) ∙ together_zero (λ t. word_at ports words frame t i) s (16 + y) (λ x h. a.own x i (omega (arith, g.most)) k y n));
      }
