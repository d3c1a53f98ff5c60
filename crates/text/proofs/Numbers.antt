-- Words and numbers at the front of some bytes.
use Rattle.std.proofs.Common.{◌≡◌, ℕ, ◌+◌, ◌*◌, ◌-◌, ◌≤◌, ◌<◌, ◌≢◌, List, [], ◌∷◌, ◌++◌, true, false, length, get_or, take, drop, None, Some, refl, sym, ap, ◌∙◌, arith, append_assoc, true≢false}
use Rattle.std.proofs.lemmas.List.{append_cancel_left, take-append-drop, take_all, length-drop}
use Rattle.std.specs.declared.option.Option.{Option}
use Rattle.rules.specs.Words.{within}
use Rattle.sheets.specs.Text.{text, decimal, numbers_from}
use Rattle.rules.proofs.Cases.{by_lt, within_yes}
use Rattle.sheets.proofs.Text.{leading, decimal_one, decimal_more, numbers_decimal, number_grows, other_on}
use Rattle.text.specs.Numbers.{Digit, NoDigit, Ended, Limit, Number, NoNumber, NumberOf, one_line, Line, LineOf}
use Rattle.text.specs.declared.NumberRead.{NumberRead}

-- ---- a number
pub record Counted (most : ℕ) (s : List ℕ) (v : ℕ) (rest : List ℕ) : Type 0 where
  pub stands : s ≡ decimal v ++ rest
  pub some : 1 ≤ v
  pub low : v ≤ most

pub number_none : (most : ℕ) (s : List ℕ) → NoDigit s → NoNumber most [] s
number_none most s x =
    record {
      never = λ u t k n e.
          let l = leading u t in
          true≢false (sym (within_yes 48 57 (get_or (decimal u ++ t) 0 0) l.low l.high) ∙ (ap (λ z. within 48 57 (get_or z 0 0)) (sym e) ∙ x));
    }

pub number_zero : (most : ℕ) (s : List ℕ) (v : ℕ) (rest : List ℕ) → Limit most → Digit s v rest → v ≡ 0 → Number most [] s v rest
number_zero most s v rest limit x z =
    record {
      stands = x.stands ∙ ap (λ y. y ++ rest) (sym (decimal_one v (omega arith)));
      low = omega (arith, limit.one_digit);
      ended = λ g. absurd (omega arith);
      only = λ u t k m e. by_lt u 1 (λ g. omega arith)
          (λ g. absurd (let a = (leading u t).first g in let b = ap (λ y. get_or y 0 0) (sym e ∙ x.stands) in omega arith));
    }

pub number_start : (most : ℕ) (s : List ℕ) (v : ℕ) (rest : List ℕ) → Limit most → Digit s v rest → v ≢ 0 → Counted most s v rest
number_start most s v rest limit x z =
    let l = x.low in
    record {
      stands = x.stands ∙ ap (λ k. k ++ rest) (sym (decimal_one v (omega arith)));
      some = omega arith;
      low = omega (arith, limit.one_digit);
    }

counted_on : (most : ℕ) (s : List ℕ) (v : ℕ) (t : List ℕ) (d : ℕ) (rest : List ℕ) → Counted most s v t → Digit t d rest → s ≡ decimal (10 * v + d) ++ rest
counted_on most s v t d rest x y =
    let l = y.low in
    x.stands
    ∙ (ap (λ z. decimal v ++ z) y.stands
    ∙ (sym (append_assoc (decimal v) ((48 + d) ∷ []) rest) ∙ ap (λ z. z ++ rest) (sym (decimal_more v d x.some (omega arith)))))

pub number_more : (most : ℕ) (s : List ℕ) (v : ℕ) (t : List ℕ) (d : ℕ) (rest : List ℕ) (v' : ℕ) → Counted most s v t → Digit t d rest → v' ≡ 10 * v + d → v' ≤ most
    → Counted most s v' rest
number_more most s v t d rest v' x y e l =
    let o = x.some in
    record { stands = counted_on most s v t d rest x y ∙ ap (λ z. decimal z ++ rest) (sym e); some = omega arith; low = l }

ends : (v : ℕ) (t : List ℕ) → NoDigit t → get_or (numbers_from true v t) 0 0 ≡ v
unfolding numbers_from
ends v [] e = refl
ends v (b ∷ t) e = ap (λ z. get_or z 0 0) (other_on v b t e)

-- the numbers that two readings of the same bytes begin with
head_is : (l : List ℕ) (v u : ℕ) (t k : List ℕ) → 1 ≤ v → Ended u k → l ≡ decimal v ++ t → l ≡ decimal u ++ k → get_or (numbers_from true v t) 0 0 ≡ u
head_is l v u t k some ended e f =
    by_lt u 1
    (λ g.
    let z : u ≡ 0 = omega arith in
    let first = ap (λ y. get_or y 0 0) (sym e ∙ (f ∙ ap (λ y. y ++ k) (ap decimal z ∙ decimal_one 0 (omega arith)))) in
    absurd (omega (arith, (leading v t).first some, first)))
    (λ g.
    ap (λ z. get_or z 0 0) (sym (numbers_decimal v false t) ∙ (ap (numbers_from false 0) (sym e ∙ f) ∙ numbers_decimal u false k)) ∙ ends u k (ended g))

pub number_over : (most : ℕ) (s : List ℕ) (v : ℕ) (t : List ℕ) (d : ℕ) (rest : List ℕ) (v' : ℕ) → Counted most s v t → Digit t d rest → v' ≡ 10 * v + d → most < v'
    → NoNumber most [] s
number_over most s v t d rest v' x y ev g =
    record {
      never = λ u k h n e.
          let o = x.some in
          omega (arith, number_grows (10 * v + d) rest, head_is s (10 * v + d) u rest k (omega arith) n (counted_on most s v t d rest x y) e);
    }

pub number_end : (most : ℕ) (s : List ℕ) (v : ℕ) (rest : List ℕ) → Counted most s v rest → NoDigit rest → Number most [] s v rest
number_end most s v rest x y =
    record {
      stands = x.stands;
      low = x.low;
      ended = λ g. y;
      only = λ u t k n e. sym (head_is s v u rest t x.some n x.stands e) ∙ ends v rest y;
    }

-- ---- a word and what stands behind it
-- every byte of the word has been compared
pub word_passed : (w s : List ℕ) (i : ℕ) → length w ≤ i → i ≤ length w → take i s ≡ take i w → s ≡ w ++ take (length s - length w) (drop (length w) s)
word_passed w s i g h e =
    let same : i ≡ length w = omega arith in
    let front : take (length w) s ≡ w = ap (λ n. take n s) (sym same) ∙ (e ∙ take_all i w g) in
    sym (take-append-drop (length w) s)
    ∙ (ap (λ z. z ++ drop (length w) s) front
    ∙ ap (λ z. w ++ z) (sym (take_all (length s - length w) (drop (length w) s) (omega (arith, length-drop (length w) s)))))

pub after_none : (most : ℕ) (w s : List ℕ) (r : Option NumberRead) → r ≡ None → ((t : List ℕ) → s ≢ w ++ t) → NumberOf most w s r
after_none most w s r n e = rw n (record { never = λ u t h k g. e (decimal u ++ t) g })

pub after_some : (most : ℕ) (w s t : List ℕ) (r : Option NumberRead) → s ≡ w ++ t → NumberOf most [] t r → NumberOf most w s r
after_some most w s t None k x =
    record { never = λ u l h n g. x.never u l h n (append_cancel_left w t (decimal u ++ l) (sym k ∙ g)) }
after_some most w s t (Some r) k x =
    record {
      stands = k ∙ ap (λ z. w ++ z) x.stands;
      low = x.low;
      ended = x.ended;
      only = λ u l h n g. x.only u l h n (append_cancel_left w t (decimal u ++ l) (sym k ∙ g));
    }

-- what stands behind a number is settled
pub rest_is : (most : ℕ) (w s : List ℕ) (v : ℕ) (rest : List ℕ) (u : ℕ) (t : List ℕ) → Number most w s v rest → u ≤ most → Ended u t → s ≡ w ++ (decimal u ++ t) → rest ≡ t
rest_is most w s v rest u t x h n e =
    let k = x.only u t h n e in
    append_cancel_left (decimal v) rest t
    (append_cancel_left w (decimal v ++ rest) (decimal v ++ t) (sym x.stands ∙ (e ∙ ap (λ z. w ++ (decimal z ++ t)) k)))

-- ---- a line of one number
line_append : (w : List ℕ) (v : ℕ) (t : List ℕ) → one_line w v ++ t ≡ w ++ (decimal v ++ (41 ∷ (10 ∷ t)))
line_append w v t = append_assoc w (decimal v ++ text ")\n") t ∙ ap (λ z. w ++ z) (append_assoc (decimal v) (text ")\n") t)

pub line_some : (most : ℕ) (w s : List ℕ) (v : ℕ) (rest t : List ℕ) → Number most w s v rest → rest ≡ text ")\n" ++ t → Line most w s v t
line_some most w s v rest t x e =
    record { stands = x.stands ∙ (ap (λ z. w ++ (decimal v ++ z)) e ∙ sym (line_append w v t)); low = x.low }

pub line_off : (most : ℕ) (w s : List ℕ) (v : ℕ) (rest : List ℕ) (r : Option NumberRead) → Number most w s v rest → r ≡ None
    → ((t : List ℕ) → rest ≢ text ")\n" ++ t) → LineOf most w s r
line_off most w s v rest r x n e =
    rw n (record { never = λ u t h j. e t (rest_is most w s v rest u (41 ∷ 10 ∷ t) x h (λ _. refl) (j ∙ line_append w u t)) })

pub line_none : (most : ℕ) (w s : List ℕ) (r : Option NumberRead) → NoNumber most w s → r ≡ None → LineOf most w s r
line_none most w s r x n = rw n (record { never = λ u t h j. x.never u (41 ∷ 10 ∷ t) h (λ _. refl) (j ∙ line_append w u t) })
