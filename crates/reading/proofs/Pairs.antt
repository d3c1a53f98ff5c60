-- A pair line, read word by word.
use Rattle.std.proofs.Common.{◌≡◌, ℕ, ◌≤◌, ◌≢◌, List, ◌++◌, None, refl, sym, ap, ◌∙◌, append_assoc}
use Rattle.std.specs.declared.option.Option.{Option}
use Rattle.sheets.specs.Text.{text, decimal}
use Rattle.sheets.specs.Sheet.{pair_line}
use Rattle.text.specs.Numbers.{Number, NoNumber}
use Rattle.text.proofs.Numbers.{rest_is}
use Rattle.reading.specs.Reading.{PairAt, NoPairAt, FormOf}
use Rattle.reading.specs.declared.Pair.{Pair}

abbrev of_words : ℕ → ℕ → ℕ → List ℕ → List ℕ
of_words i o m t =
    text "(pair (in " ++ (decimal i ++ (text ") (out " ++ (decimal o ++ (text ") (cells " ++ (decimal m ++ (text "))\n" ++ t))))))

pair_append : (i o m : ℕ) (t : List ℕ) → pair_line i o m ++ t ≡ of_words i o m t
unfolding pair_line
pair_append i o m t = simp append_assoc

abbrev behind_in : ℕ → ℕ → List ℕ → List ℕ
behind_in o m t = text ") (out " ++ (decimal o ++ (text ") (cells " ++ (decimal m ++ (text "))\n" ++ t))))

abbrev behind_out : ℕ → List ℕ → List ℕ
behind_out m t = text ") (cells " ++ (decimal m ++ (text "))\n" ++ t))

pub form_none : (s : List ℕ) (r : Option Pair) → r ≡ None → NoPairAt s → FormOf s r
form_none s r e x = rw e x

pub form_first : (s : List ℕ) → NoNumber 65535 (text "(pair (in ") s → NoPairAt s
form_first s x = record { never = λ i o m t a b c e. x.never i (behind_in o m t) a (λ _. refl) (e ∙ pair_append i o m t) }

module _ (s : List ℕ) (i : ℕ) (s1 : List ℕ) (x : Number 65535 (text "(pair (in ") s i s1) where
  at_output : (j o m : ℕ) (t : List ℕ) → j ≤ 65535 → s ≡ pair_line j o m ++ t → s1 ≡ behind_in o m t
  at_output j o m t a e = rest_is 65535 (text "(pair (in ") s i s1 j (behind_in o m t) x a (λ _. refl) (e ∙ pair_append j o m t)

  pub form_second : NoNumber 65535 (text ") (out ") s1 → NoPairAt s
  form_second n = record { never = λ j o m t a b c e. n.never o (behind_out m t) b (λ _. refl) (at_output j o m t a e) }

  module _ (o : ℕ) (s2 : List ℕ) (y : Number 65535 (text ") (out ") s1 o s2) where
    at_cells : (j p m : ℕ) (t : List ℕ) → j ≤ 65535 → p ≤ 65535 → s ≡ pair_line j p m ++ t → s2 ≡ behind_out m t
    at_cells j p m t a b e = rest_is 65535 (text ") (out ") s1 o s2 p (behind_out m t) y b (λ _. refl) (at_output j p m t a e)

    pub form_third : NoNumber 65535 (text ") (cells ") s2 → NoPairAt s
    form_third n = record { never = λ j p m t a b c e. n.never m (text "))\n" ++ t) c (λ _. refl) (at_cells j p m t a b e) }

    module _ (m : ℕ) (s3 : List ℕ) (z : Number 65535 (text ") (cells ") s2 m s3) where
      pub form_end : ((t : List ℕ) → s3 ≢ text "))\n" ++ t) → NoPairAt s
      form_end n =
          record {
            never = λ j p k t a b c e.
                n t (rest_is 65535 (text ") (cells ") s2 m s3 k (text "))\n" ++ t) z c (λ _. refl) (at_cells j p k t a b e));
          }

      pub form_yes : (t : List ℕ) → s3 ≡ text "))\n" ++ t → PairAt s i o m t
      form_yes t e =
          record {
            stands = x.stands
                ∙ (ap (λ k. text "(pair (in " ++ (decimal i ++ k)) (y.stands
                ∙ ap (λ k. text ") (out " ++ (decimal o ++ k)) (z.stands
                ∙ ap (λ k. text ") (cells " ++ (decimal m ++ k)) e)) ∙ sym (pair_append i o m t));
            low = (x.low, y.low, z.low);
          }
