-- The line of a refusal.
use Rattle.std.proofs.Common.{◌≡◌, ℕ, ◌+◌, List, [], ◌∷◌, ◌++◌, length, get_or, drop, ◌≢◌, refl, sym, ap, subst, ◌∙◌, arith, append_assoc}
use Rattle.sheets.specs.Text.{text, decimal}
use Rattle.sheets.specs.Sheet.{print_values, print_refusal}
use Rattle.calls.specs.Refusals.{refusal}
use Rattle.calls.specs.declared.Refusal.{Refusal}
use Rattle.calls.proofs.Reports.{refusal_number}
use Rattle.lines.specs.Lines.{Printed, PrintedIn, word_then, bracketed}
use Rattle.lines.proofs.Pieces.{printed_both}

pub value_printed : (out : List ℕ) (at : ℕ) (w : List ℕ) (n : ℕ) (mid : List ℕ) (at' : ℕ) (new : List ℕ) (next : ℕ)
    → PrintedIn (length w + 20) out at (word_then w n) mid at' → Printed mid at' (text ")") new next → PrintedIn (length w + 21) out at (bracketed w n) new next
value_printed out at w n mid at' new next x y =
    record { printed = printed_both out at (word_then w n) (text ")") mid at' new next x.printed y; most_bytes = omega (arith, x.most_bytes, y.place) }

-- the values of each form
module _ {values out : List ℕ} {at : ℕ} where
  pub port_printed : (port cells : ℕ) {mid : List ℕ} {at' : ℕ} {new : List ℕ} {next : ℕ}
      → values ≡ port ∷ cells ∷ [] → PrintedIn 28 out at (bracketed (text " (port ") port) mid at' → PrintedIn 29 mid at' (bracketed (text " (cells ") cells) new next
      → PrintedIn 100 out at (print_values values) new next
  port_printed port cells {mid} {at'} {new} {next} e x y =
      let b : bracketed (text " (port ") port ++ bracketed (text " (cells ") cells ≡ print_values (port ∷ cells ∷ []) = ap (λ z. text " (port " ++ z) (append_assoc (decimal port) (text ")") (bracketed (text " (cells ") cells)) in
      rw (e, sym b)
      (record { printed = printed_both out at _ _ mid at' new next x.printed y.printed; most_bytes = omega (arith, x.most_bytes, y.most_bytes) })

  pub link_printed : (o l cells : ℕ) {mid : List ℕ} {at' : ℕ} {mid2 : List ℕ} {at2 : ℕ} {new : List ℕ} {next : ℕ}
      → values ≡ o ∷ l ∷ cells ∷ [] → PrintedIn 30 out at (bracketed (text " (output ") o) mid at' → PrintedIn 28 mid at' (bracketed (text " (link ") l) mid2 at2
      → PrintedIn 29 mid2 at2 (bracketed (text " (cells ") cells) new next → PrintedIn 100 out at (print_values values) new next
  link_printed o l cells {mid} {at'} {mid2} {at2} {new} {next} e x y z =
      let b : bracketed (text " (output ") o ++ (bracketed (text " (link ") l ++ bracketed (text " (cells ") cells) ≡ print_values (o ∷ l ∷ cells ∷ [])
      = ap (λ z. text " (output " ++ z) (append_assoc (decimal o) (text ")") (bracketed (text " (link ") l ++ bracketed (text " (cells ") cells))
      ∙ ap (λ z. text " (output " ++ (decimal o ++ (text ") (link " ++ z))) (append_assoc (decimal l) (text ")") (bracketed (text " (cells ") cells)) in
      rw (e, sym b)
      (record {
        printed = printed_both out at _ _ mid at' new next x.printed (printed_both mid at' _ _ mid2 at2 new next y.printed z.printed);
        most_bytes = omega (arith, x.most_bytes, y.most_bytes, z.most_bytes);
      })

-- a refusal is its number and its values
number_first : (l : List ℕ) → get_or l 0 0 ≢ 0 → l ≡ get_or l 0 0 ∷ drop 1 l
number_first [] n = absurd (n refl)
number_first (x ∷ l) n = refl

-- the line, from its number and values
pub refusal_printed : (r : Refusal) (number : ℕ) (out mid : List ℕ) (at' : ℕ) (mid2 : List ℕ) (at2 : ℕ) (new : List ℕ) (next : ℕ)
    → number ≡ get_or (refusal r) 0 0 → PrintedIn 29 out 0 (word_then (text "(refused ") number) mid at'
    → PrintedIn 100 mid at' (print_values (drop 1 (refusal r))) mid2 at2 → Printed mid2 at2 (text ")\n") new next → Printed out 0 (print_refusal (refusal r)) new next
refusal_printed r number out mid at' mid2 at2 new next e x y z =
    let b : word_then (text "(refused ") number ++ (print_values (drop 1 (refusal r)) ++ text ")\n") ≡ print_refusal (number ∷ drop 1 (refusal r)) = simp append_assoc in
    let k : refusal r ≡ number ∷ drop 1 (refusal r) = number_first (refusal r) (refusal_number r) ∙ ap (λ n. n ∷ drop 1 (refusal r)) (sym e) in
    subst (λ l. Printed out 0 (print_refusal l) new next) (sym k)
    (subst (λ l. Printed out 0 l new next) b (printed_both out 0 _ _ mid at' new next x.printed (printed_both mid at' _ _ mid2 at2 new next y.printed z)))
