-- Texts: digits and the number that they stand for, lines and the bytes that they end at.
use Prim.Native.Nat.{ℕ, suc, zero, ◌+◌, ◌-◌, ◌*◌, ◌/◌, ◌%◌, ◌^◌, ◌≤◌, ◌<◌}
use mathlib.Core.Path.{◌≡◌, refl, sym, ap, ◌∙◌}
use mathlib.Core.List.{List, [], ◌∷◌, ◌++◌, append_assoc}
use mathlib.Core.Bool.{Bool, true, false, not, true≢false}
use native.Mathlib.Omega.{arith}
use native.Mathlib.Nat.{pow-suc}
use lib.Dec.{eqb}
use lib.ListN.{length, get_or, length-append}
use borrow.Author.Tests.{lt-ltb, le-ltb, eqb-true, eq-eqb, not-true}
use Rattle.rules.specs.Words.{both, within}
use Rattle.sheets.specs.Text.{digits, decimal, on_first, lines, numbers_from, same}
use Rattle.rules.proofs.Cases.{by_bool, by_lt, both_true, both_yes, within_yes}

-- ---- digits
pub digits_end : (f n : ℕ) → n < 10 → digits (suc f) n ≡ (48 + n) ∷ []
unfolding digits
digits_end f n h = rw (lt-ltb n 10 h, digits)

pub digits_go : (f n : ℕ) → 10 ≤ n → digits (suc f) n ≡ digits f (n / 10) ++ ((48 + n % 10) ∷ [])
unfolding digits
digits_go f n h = rw (le-ltb n 10 h, digits)

pub digits_fuel : (f g n : ℕ) → n < f → n < g → digits f n ≡ digits g n
digits_fuel zero g n a b = absurd (omega arith)
digits_fuel (suc f) zero n a b = absurd (omega arith)
digits_fuel (suc f) (suc g) n a b =
    by_lt n 10
    (λ h. digits_end f n h ∙ sym (digits_end g n h))
    (λ h. digits_go f n h
    ∙ (ap (λ l. l ++ ((48 + n % 10) ∷ [])) (digits_fuel f g (n / 10) (omega arith) (omega arith)) ∙ sym (digits_go g n h)))

pub decimal_one : (d : ℕ) → d < 10 → decimal d ≡ (48 + d) ∷ []
decimal_one d h = digits_end d d h

-- a digit more behind a number that is not 0
pub decimal_more : (v d : ℕ) → 1 ≤ v → d < 10 → decimal (10 * v + d) ≡ decimal v ++ ((48 + d) ∷ [])
decimal_more v d a b =
    let q : (10 * v + d) / 10 ≡ v = omega arith in
    let r : (10 * v + d) % 10 ≡ d = omega arith in
    digits_go (10 * v + d) (10 * v + d) (omega arith)
    ∙ (ap (λ x. digits (10 * v + d) x ++ ((48 + (10 * v + d) % 10) ∷ [])) q
    ∙ (ap (λ x. digits (10 * v + d) v ++ ((48 + x) ∷ [])) r
    ∙ ap (λ l. l ++ ((48 + d) ∷ [])) (digits_fuel (10 * v + d) (suc v) v (omega arith) (omega arith))))

-- the last digit stands behind those of the tens
pub decimal_go : (n : ℕ) → 10 ≤ n → decimal n ≡ decimal (n / 10) ++ ((48 + n % 10) ∷ [])
decimal_go n h =
    digits_go n n h
    ∙ ap (λ l. l ++ ((48 + n % 10) ∷ [])) (digits_fuel n (suc (n / 10)) (n / 10) (omega arith) (omega arith))

pub digits_most : (k f n : ℕ) → n < 10 ^ suc k → length (digits f n) ≤ suc k
unfolding digits
digits_most k zero n h = omega arith
digits_most zero (suc f) n h = by_lt n 10 (λ g. rw (digits_end f n g) (omega arith)) (λ g. absurd (omega arith))
digits_most (suc k) (suc f) n h =
    by_lt n 10
    (λ g. rw (digits_end f n g) (omega arith))
    (λ g.
    let e = pow-suc 10 (suc k) in
    rw (digits_go f n g, length-append (digits f (n / 10)) ((48 + n % 10) ∷ [])) (omega (arith, digits_most k f (n / 10) (omega arith))))

-- a number below 10 ^ d has no more than d digits, d not 0
pub decimal_short : (k n : ℕ) → n < 10 ^ suc k → length (decimal n) ≤ suc k
decimal_short k n h = digits_most k (suc n) n h

-- a number of 64 bits has no more than 20 digits
pub decimal_most : (n : ℕ) → n < 2 ^ 64 → length (decimal n) ≤ 20
decimal_most n h = decimal_short 19 n (omega arith)

-- what the first digit is, and that it is no 0 where the number is none
pub record Leading (n h : ℕ) : Type 0 where
  pub low : 48 ≤ h
  pub high : h ≤ 57
  pub first : 1 ≤ n → 49 ≤ h

pub leading_of : (f n : ℕ) (t : List ℕ) → n < f → Leading n (get_or (digits f n ++ t) 0 0)
leading_of zero n t h = absurd (omega arith)
leading_of (suc f) n t h =
    by_lt n 10
    (λ k. rw (digits_end f n k) (record { low = omega arith; high = omega arith; first = λ z. omega arith }))
    (λ k. rw (digits_go f n k, append_assoc (digits f (n / 10)) ((48 + n % 10) ∷ []) t)
    (let l = leading_of f (n / 10) ((48 + n % 10) ∷ t) (omega arith) in record { low = l.low; high = l.high; first = λ z. l.first (omega arith) }))

pub leading : (n : ℕ) (t : List ℕ) → Leading n (get_or (decimal n ++ t) 0 0)
leading n t = leading_of (suc n) n t (omega arith)

-- ---- numbers in a line
pub digit_on : (inside : Bool) (v b : ℕ) (t : List ℕ) → within 48 57 b ≡ true → numbers_from inside v (b ∷ t) ≡ numbers_from true (10 * v + (b - 48)) t
unfolding numbers_from
digit_on inside v b t e = rw (e, numbers_from)

pub other_on : (v b : ℕ) (t : List ℕ) → within 48 57 b ≡ false → numbers_from true v (b ∷ t) ≡ v ∷ numbers_from false 0 t
unfolding numbers_from
other_on v b t e = rw (e, numbers_from)

pub numbers_of : (f n : ℕ) (inside : Bool) (t : List ℕ) → n < f → numbers_from inside 0 (digits f n ++ t) ≡ numbers_from true n t
numbers_of zero n inside t h = absurd (omega arith)
numbers_of (suc f) n inside t h =
    by_lt n 10
    (λ k. rw (digits_end f n k)
    (digit_on inside 0 (48 + n) t (within_yes 48 57 (48 + n) (omega arith) (omega arith)) ∙ ap (λ z. numbers_from true z t) (omega arith)))
    (λ k. rw (digits_go f n k, append_assoc (digits f (n / 10)) ((48 + n % 10) ∷ []) t)
    (numbers_of f (n / 10) inside ((48 + n % 10) ∷ t) (omega arith)
    ∙ (digit_on true (n / 10) (48 + n % 10) t (within_yes 48 57 (48 + n % 10) (omega arith) (omega arith)) ∙ ap (λ z. numbers_from true z t) (omega arith))))

pub numbers_decimal : (n : ℕ) (inside : Bool) (t : List ℕ) → numbers_from inside 0 (decimal n ++ t) ≡ numbers_from true n t
numbers_decimal n inside t = numbers_of (suc n) n inside t (omega arith)

-- the number that stands first is no less than its first digits say
pub number_grows : (v : ℕ) (t : List ℕ) → v ≤ get_or (numbers_from true v t) 0 0
unfolding numbers_from
number_grows v [] = omega arith
number_grows v (b ∷ t) =
    by_bool (within 48 57 b) (λ e. rw (digit_on true v b t e) (omega (arith, number_grows (10 * v + (b - 48)) t)))
    (λ e. rw (other_on v b t e) (omega arith))

-- ---- lines
pub lines_end : (b : ℕ) (s : List ℕ) → eqb b 10 ≡ true → lines (b ∷ s) ≡ (b ∷ []) ∷ lines s
unfolding lines
lines_end b s e = rw (e, lines)

pub lines_go : (b : ℕ) (s : List ℕ) → eqb b 10 ≡ false → lines (b ∷ s) ≡ on_first b (lines s)
unfolding lines
lines_go b s e = rw (e, lines)

pub lines_none : lines [] ≡ []
unfolding lines
lines_none = refl

abbrev pub join : List (List ℕ) → List ℕ
join [] = []
join (l ∷ ls) = l ++ join ls

pub join_first : (b : ℕ) (ls : List (List ℕ)) → join (on_first b ls) ≡ b ∷ join ls
join_first b [] = refl
join_first b (l ∷ ls) = refl

pub join_lines : (s : List ℕ) → join (lines s) ≡ s
join_lines [] = rw lines_none
join_lines (b ∷ s) =
    by_bool (eqb b 10) (λ e. rw (lines_end b s e) (ap (λ l. b ∷ l) (join_lines s)))
    (λ e. rw (lines_go b s e) (join_first b (lines s) ∙ ap (λ l. b ∷ l) (join_lines s)))

pub lines_first : (b : ℕ) (ls : List (List ℕ)) → length (on_first b ls) ≤ suc (length ls)
lines_first b [] = omega arith
lines_first b (l ∷ ls) = omega arith

-- a sheet has no more lines than bytes
pub lines_most : (s : List ℕ) → length (lines s) ≤ length s
lines_most [] = rw lines_none (omega arith)
lines_most (b ∷ s) =
    let r = lines_most s in
    by_bool (eqb b 10) (λ e. rw (lines_end b s e) (omega arith)) (λ e. rw (lines_go b s e) (omega (arith, lines_first b (lines s))))

-- no byte 10
abbrev pub plain : List ℕ → Bool
plain [] = true
plain (b ∷ l) = both (not (eqb b 10)) (plain l)

pub plain_append : (l m : List ℕ) → plain l ≡ true → plain m ≡ true → plain (l ++ m) ≡ true
plain_append [] m e f = f
plain_append (b ∷ l) m e f =
    let z = both_true (not (eqb b 10)) (plain l) e in
    both_yes (not (eqb b 10)) (plain (l ++ m)) z.0 (plain_append l m z.1 f)

pub plain_digit : (d : ℕ) → plain ((48 + d) ∷ []) ≡ true
plain_digit d = by_bool (eqb (48 + d) 10) (λ e. absurd (let z = eqb-true (48 + d) 10 e in omega arith)) (λ e. rw e)

pub plain_digits : (f n : ℕ) → plain (digits f n) ≡ true
unfolding digits
plain_digits zero n = refl
plain_digits (suc f) n =
    by_lt n 10 (λ k. rw (digits_end f n k) (plain_digit n))
    (λ k. rw (digits_go f n k) (plain_append (digits f (n / 10)) ((48 + n % 10) ∷ []) (plain_digits f (n / 10)) (plain_digit (n % 10))))

pub lines_on : (d t l : List ℕ) (ls : List (List ℕ)) → plain d ≡ true → lines t ≡ l ∷ ls → lines (d ++ t) ≡ (d ++ l) ∷ ls
lines_on [] t l ls p e = e
lines_on (b ∷ d) t l ls p e =
    let z = both_true (not (eqb b 10)) (plain d) p in
    lines_go b (d ++ t) (not-true (eqb b 10) z.0) ∙ ap (on_first b) (lines_on d t l ls z.1 e)

-- a whole line: what follows it begins the next
unfoldable pub Whole : List ℕ → Type 0
Whole l = (t : List ℕ) → lines (l ++ t) ≡ l ∷ lines t

pub whole_on : (w l : List ℕ) → plain w ≡ true → Whole l → Whole (w ++ l)
unfolding Whole
whole_on w l p q t = rw (append_assoc w l t) (lines_on w (l ++ t) l (lines t) p (q t))

pub whole_number : (w : List ℕ) (n : ℕ) (l : List ℕ) → plain w ≡ true → Whole l → Whole (w ++ (decimal n ++ l))
whole_number w n l p q = whole_on w (decimal n ++ l) p (whole_on (decimal n) l (plain_digits (suc n) n) q)

-- ---- a line that is what is printed, and one that is not
pub same_self : (l : List ℕ) → same l l ≡ true
same_self [] = refl
same_self (b ∷ l) = rw (eq-eqb b b refl) (same_self l)

pub same_true : (l m : List ℕ) → same l m ≡ true → l ≡ m
same_true [] [] e = refl
same_true [] (y ∷ m) e = absurd (let z : ◌≡◌ {A = Bool} false true = e in true≢false (sym z))
same_true (x ∷ l) [] e = absurd (let z : ◌≡◌ {A = Bool} false true = e in true≢false (sym z))
same_true (x ∷ l) (y ∷ m) e =
    let z = both_true (eqb x y) (same l m) e in
    ap (λ k. k ∷ l) (eqb-true x y z.0) ∙ ap (λ k. y ∷ k) (same_true l m z.1)
