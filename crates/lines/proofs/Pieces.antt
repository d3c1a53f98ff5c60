-- Writing piece by piece.
use Prim.Native.Nat.{ℕ, suc, ◌+◌, ◌/◌, ◌%◌, ◌≤◌, ◌<◌}
use mathlib.Core.Path.{◌≡◌, refl, sym, ap, ◌∙◌}
use mathlib.Core.List.{List, [], ◌∷◌, ◌++◌, append_assoc}
use native.Mathlib.Omega.{arith}
use lib.ListN.{length, set, length-append}
use lib.Seq.{sets, length-sets}
use mir.Syntax.{w64}
use mir.Val.{Fits}
use Rattle.sheets.specs.Text.{decimal}
use Rattle.sheets.proofs.Text.{decimal_one, decimal_go, decimal_most}
use Rattle.lines.specs.Lines.{Printed, PrintedIn, Prints, word_then}

-- ---- one piece behind another
sets_append : (a b l : List ℕ) (i : ℕ) → sets l i (a ++ b) ≡ sets (sets l i a) (i + length a) b
sets_append [] b l i = ap (λ z. sets l z b) (let e : i ≡ i + 0 = omega arith in e)
sets_append (x ∷ a) b l i =
    sets_append a b (set l i x) (suc i) ∙ ap (λ z. sets (sets (set l i x) (suc i) a) z b) (let e : suc i + length a ≡ i + suc (length a) = omega arith in e)

pub prints_on : (out : List ℕ) (at : ℕ) (bytes mid : List ℕ) (at' : ℕ) (w rest new : List ℕ) (next : ℕ)
    → Prints out at bytes mid at' (w ++ rest) → Printed mid at' w new next → Prints out at bytes new next rest
prints_on out at bytes mid at' w rest new next x y =
    let p = x.place in
    let q = y.place in
    record {
      is = x.is ∙ (sets_append w rest mid at' ∙ (ap (λ z. sets z (at' + length w) rest) (sym y.is) ∙ ap (λ z. sets new z rest) (sym q)));
      place = omega (arith, length-append w rest);
    }

pub prints_all : (out : List ℕ) (at : ℕ) (bytes : List ℕ) → Prints out at bytes out at bytes
prints_all out at bytes = record { is = refl; place = refl }

pub prints_end : (out : List ℕ) (at : ℕ) (bytes new : List ℕ) (next : ℕ) → Prints out at bytes new next [] → Printed out at bytes new next
prints_end out at bytes new next x = let p = x.place in record { is = sym x.is; place = omega arith }

pub prints_as : (out : List ℕ) (at : ℕ) (bytes new : List ℕ) (next : ℕ) (rest rest' : List ℕ) → rest ≡ rest' → Prints out at bytes new next rest → Prints out at bytes new next rest'
prints_as out at bytes new next rest rest' e x = rw e at x

pub prints_size : (out : List ℕ) (at : ℕ) (bytes new : List ℕ) (next : ℕ) (rest : List ℕ) → Prints out at bytes new next rest → length new ≡ length out
prints_size out at bytes new next rest x = sym (length-sets new next rest) ∙ (ap length (sym x.is) ∙ length-sets out at bytes)

pub printed_both : (out : List ℕ) (at : ℕ) (a b mid : List ℕ) (at' : ℕ) (new : List ℕ) (next : ℕ)
    → Printed out at a mid at' → Printed mid at' b new next → Printed out at (a ++ b) new next
printed_both out at a b mid at' new next x y =
    let p = x.place in
    let q = y.place in
    record {
      is = y.is ∙ (ap (λ z. sets z at' b) x.is ∙ (ap (λ z. sets (sets out at a) z b) p ∙ sym (sets_append a b out at)));
      place = omega (arith, length-append a b);
    }

-- ---- a number
number_room : (out : List ℕ) (at n : ℕ) (new : List ℕ) (next : ℕ) → Printed out at (decimal n) new next → Fits w64 n → PrintedIn 20 out at (decimal n) new next
number_room out at n new next x h = record { printed = x; most_bytes = omega (arith, x.place, decimal_most n h.fits) }

pub number_last : (out : List ℕ) (at n b : ℕ) (new : List ℕ) (next : ℕ) → Printed out at (b ∷ []) new next → n < 10 → b ≡ 48 + n → Fits w64 n
    → PrintedIn 20 out at (decimal n) new next
number_last out at n b new next x h e f = number_room out at n new next (rw (decimal_one n h, sym e) x) f

pub number_tens : (out : List ℕ) (at n b : ℕ) (mid : List ℕ) (at' : ℕ) (new : List ℕ) (next : ℕ)
    → PrintedIn 20 out at (decimal (n / 10)) mid at' → Printed mid at' (b ∷ []) new next → 10 ≤ n → b ≡ 48 + n % 10 → Fits w64 n
    → PrintedIn 20 out at (decimal n) new next
number_tens out at n b mid at' new next x y h e f =
    let z = printed_both out at (decimal (n / 10)) (b ∷ []) mid at' new next x.printed y in
    number_room out at n new next (rw (decimal_go n h, sym e) z) f

pub both_printed : (out : List ℕ) (at : ℕ) (w : List ℕ) (n : ℕ) (mid : List ℕ) (at' : ℕ) (new : List ℕ) (next : ℕ)
    → Printed out at w mid at' → PrintedIn 20 mid at' (decimal n) new next → PrintedIn (length w + 20) out at (word_then w n) new next
both_printed out at w n mid at' new next x y =
    let p = x.place in
    let q = y.most_bytes in
    record { printed = printed_both out at w (decimal n) mid at' new next x y.printed; most_bytes = omega arith }

-- a word and a number, where they are what is written next
pub piece : {out : List ℕ} {at : ℕ} {bytes mid : List ℕ} {at' : ℕ} (w : List ℕ) (n : ℕ) (rest : List ℕ) {new : List ℕ} {next k : ℕ}
    → Prints out at bytes mid at' (w ++ (decimal n ++ rest)) → PrintedIn k mid at' (word_then w n) new next → Prints out at bytes new next rest
piece {out} {at} {bytes} {mid} {at'} w n rest {new} {next} x y =
    prints_on out at bytes mid at' (w ++ decimal n) rest new next
    (prints_as out at bytes mid at' (w ++ (decimal n ++ rest)) ((w ++ decimal n) ++ rest) (sym (append_assoc w (decimal n) rest)) x) y.printed

-- what a line leaves in its buffer
pub printed_left : {out : List ℕ} {at : ℕ} {bytes kept : List ℕ} {next : ℕ} (last : List ℕ) (size : ℕ) → Printed out at bytes kept next → last ≡ kept → size ≡ next → Printed out at bytes last size
printed_left last size x e f = rw (e, f) x
