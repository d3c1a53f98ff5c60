-- One more cell written, one more word of them, and the slot that comes of it.
use Prim.Native.Nat.{ℕ, suc, ◌+◌, ◌*◌, ◌<◌}
use mathlib.Core.Path.{◌≡◌, refl, sym, ap, ◌∙◌}
use mathlib.Core.List.{List, [], ◌∷◌, ◌++◌}
use native.Mathlib.Omega.{arith}
use native.Mathlib.Numerals.{add-one}
use lib.ListN.{length, get_or, set, replicate, length-set, length-replicate}
use Rattle.rules.specs.Words.{up_from, keep, Every}
use Rattle.rules.specs.Flows.{inputs}
use Rattle.rules.specs.Rules.{odd}
use Rattle.rules.specs.Schedule.{put, slot_of}
use Rattle.rules.proofs.Lists.{every_map}
use Rattle.bits.specs.Digits.{places}
use Rattle.planes.specs.Planes.{counts_in, odds_in, words_of, Ends}
use Rattle.bits.proofs.Lowest.{turn_below, turn_place, end_place}
use Rattle.planes.proofs.Placed.{word_below, words_odds, odds_past}
use Rattle.planes.proofs.Counts.{counts_length, odds_are}
use Rattle.planes.specs.Tables.{tabled}
use Rattle.schedule.specs.Steps.{InputsBelow, AtSlot, PutBy}

-- ---- cells
put_append : (ends l k s : List ℕ) → put (tabled ends) (l ++ k) s ≡ put (tabled ends) k (put (tabled ends) l s)
put_append ends [] k s = refl
put_append ends (x ∷ l) k s = put_append ends l k (set s (tabled ends inputs x) (suc x))

-- the digits of a word that are left, and the slot that comes of writing them
pub record Putting (ends : List ℕ) (base x : ℕ) (s : List ℕ) (left : ℕ) (t : List ℕ) : Type 0 where
  pub len : length t ≡ length s
  pub placed : AtSlot ends (length s) (places base 64 left)
  pub same : put (tabled ends) (places base 64 left) t ≡ put (tabled ends) (places base 64 x) s

pub putting_start : {ends s : List ℕ} {base x : ℕ} → AtSlot ends (length s) (places base 64 x) → Putting ends base x s x s
putting_start p = record { len = refl; placed = p; same = refl }

module _ {ends s t : List ℕ} {base x left : ℕ} (g : Putting ends base x s left t) {i : ℕ} (next : ℕ) (e : places 0 64 left ≡ i ∷ places 0 64 next) where
  first : places base 64 left ≡ (base + i) ∷ places base 64 next
  first = turn_place left next e base

  placed_now : Every (λ p. (p < 528) × (tabled ends inputs p < length s)) ((base + i) ∷ places base 64 next)
  placed_now = rw first at g.placed.each

  pub putting_zeros : i < 64
  putting_zeros = turn_below left next e

  pub putting_low : base + i < 528
  putting_low = placed_now.0.0

  pub putting_lt : {a : ℕ} → a ≡ tabled ends inputs (base + i) → a < length t
  putting_lt {a} f = let l = placed_now.0.1 in omega (arith, g.len)

  pub putting_on : {a : ℕ} → a ≡ tabled ends inputs (base + i) → Putting ends base x s next (set t a (base + i + 1))
  putting_on {a} f =
      record {
        len = length-set t a (base + i + 1) ∙ g.len;
        placed = record { each = placed_now.1 };
        same = rw (f, add-one) (sym (ap (λ (l : List ℕ). put (tabled ends) l t) first) ∙ g.same);
      }

pub putting_end : {ends s t : List ℕ} {base x left : ℕ} → Putting ends base x s left t → places 0 64 left ≡ [] → PutBy ends (places base 64 x) s t
putting_end {ends} {s} {t} {base} {x} {left} g e =
    record { len = g.len; same = sym (ap (λ (l : List ℕ). put (tabled ends) l t) (end_place left e base)) ∙ g.same }

-- ---- words
pub record Writing (ends planes : List ℕ) (ports w : ℕ) (t : List ℕ) : Type 0 where
  pub len : length t ≡ ports
  pub same : t ≡ put (tabled ends) (odds_in (w * 64) planes) (replicate ports 0)

pub writing_start : {ends planes s : List ℕ} {ports : ℕ} → s ≡ replicate ports 0 → Writing ends planes ports 0 s
writing_start {ports = ports} e = record { len = ap length e ∙ length-replicate {A = ℕ} ports 0; same = e }

module _ {ports : ℕ} {ends planes t : List ℕ} {w : ℕ} (g : Writing ends planes ports w t) where
  pub writing_placed : {n x : ℕ} → InputsBelow ports n ends → Ends n planes → w < words_of n → x ≡ get_or planes w 0 → AtSlot ends (length t) (places (w * 64) 64 x)
  writing_placed {n} k e h is =
      let few = e.few in
      rw is (record {
        each = rw g.len (every_map (λ p. p < n) (λ p. (p < 528) × (tabled ends inputs p < ports))
            (λ p l. (omega arith, k p l))
            (places (w * 64) 64 (get_or planes w 0)) (word_below e w h));
      })

  pub writing_on : {x : ℕ} {r : List ℕ} → x ≡ get_or planes w 0 → PutBy ends (places (w * 64) 64 x) t r → Writing ends planes ports (w + 1) r
  writing_on {x} {r} is q =
      let p : PutBy ends (places (w * 64) 64 (get_or planes w 0)) t r = rw (sym is) q in
      record {
        len = p.len ∙ g.len;
        same = p.same
            ∙ ap (put (tabled ends) (places (w * 64) 64 (get_or planes w 0))) g.same
            ∙ sym (put_append ends (odds_in (w * 64) planes) (places (w * 64) 64 (get_or planes w 0)) (replicate ports 0))
            ∙ ap (λ (l : List ℕ). put (tabled ends) l (replicate ports 0)) (sym (words_odds planes w));
      }

-- ---- the slot
pub writing_end : {ports n : ℕ} {ends planes t : List ℕ} {w : ℕ} → Writing ends planes ports w t → w ≡ words_of n → Ends n planes → t ≡ slot_of ports (tabled ends) (counts_in 1 planes n)
unfolding slot_of
writing_end {ports} {n} {ends} {planes} {t} {w} g v e =
    let c : List ℕ = counts_in 1 planes n in
    let len : length c ≡ n = counts_length 1 planes n in
    g.same
    ∙ ap (λ (l : List ℕ). put (tabled ends) l (replicate ports 0)) (odds_past e (w * 64) (omega arith) (omega arith) ∙ odds_are 0 n planes)
    ∙ ap (λ (j : ℕ). put (tabled ends) (keep (odd c) (up_from 0 j)) (replicate ports 0)) (sym len)
