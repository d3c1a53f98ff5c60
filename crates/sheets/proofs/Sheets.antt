-- The sheet: what a line of each form is read as.
use Prim.Native.Nat.{ℕ, suc, ◌≤◌}
use mathlib.Core.Path.{◌≡◌, refl, sym, ap, ◌∙◌, subst}
use mathlib.Core.List.{List, [], ◌∷◌, ◌++◌}
use mathlib.Core.Bool.{true, false, not, true≢false}
use native.Mathlib.Omega.{arith}
use lib.Dec.{leb}
use lib.ListN.{get_or}
use borrow.Author.Tests.{le-leb, leb-true, leb-false}
use Rattle.rules.specs.Words.{both}
use Rattle.calls.specs.Refusals.{bad_ports, bad_slots}
use Rattle.sheets.specs.Text.{text, decimal, lines, numbers_from, number_in, same}
use Rattle.sheets.specs.Sheet.{ports_line, slots_line, pair_line, line_past_512, bad_port, loads, refused, unless, most, read_pairs, read_slots, read_ports}
use Rattle.rules.proofs.Cases.{by_bool, both_true, both_yes}
use Rattle.sheets.proofs.Text.{numbers_decimal, same_self, join, join_lines, lines_none, same_true, Whole, whole_number}

ports_whole : (n : ℕ) → Whole (ports_line n)
unfolding ports_line Whole lines
ports_whole n = whole_number (text "(ports ") n (text ")\n") refl (λ t. refl)

slots_whole : (n : ℕ) → Whole (slots_line n)
unfolding slots_line Whole lines
slots_whole n = whole_number (text "(slots ") n (text ")\n") refl (λ t. refl)

pair_whole : (i o m : ℕ) → Whole (pair_line i o m)
unfolding pair_line Whole lines
pair_whole i o m =
    whole_number (text "(pair (in ") i (text ") (out " ++ (decimal o ++ (text ") (cells " ++ (decimal m ++ text "))\n")))) refl
    (whole_number (text ") (out ") o (text ") (cells " ++ (decimal m ++ text "))\n")) refl
    (whole_number (text ") (cells ") m (text "))\n") refl (λ t. refl)))

ports_number : (n : ℕ) → number_in 0 (ports_line n) ≡ n
unfolding ports_line numbers_from
ports_number n = ap (λ l. get_or l 0 0) (numbers_decimal n false (text ")\n"))

slots_number : (n : ℕ) → number_in 0 (slots_line n) ≡ n
unfolding slots_line numbers_from
slots_number n = ap (λ l. get_or l 0 0) (numbers_decimal n false (text ")\n"))

pair_numbers : (i o m : ℕ) → numbers_from false 0 (pair_line i o m) ≡ i ∷ o ∷ m ∷ []
unfolding pair_line numbers_from
pair_numbers i o m =
    numbers_decimal i false (text ") (out " ++ (decimal o ++ (text ") (cells " ++ (decimal m ++ text "))\n"))))
    ∙ ap (λ l. i ∷ l) (numbers_decimal o false (text ") (cells " ++ (decimal m ++ text "))\n"))
    ∙ ap (λ l. o ∷ l) (numbers_decimal m false (text "))\n")))

good_form : (l : List ℕ) (v : ℕ) → v ≤ 65535 → not (both (same l l) (leb v 65535)) ≡ false
good_form l v h = rw (same_self l, le-leb v 65535 h)

bad_form : (s l form : List ℕ) (v : ℕ) (ls : List (List ℕ)) → lines s ≡ l ∷ ls → ((t : List ℕ) → v ≤ 65535 → s ≡ form ++ t → ⊥)
    → not (both (same l form) (leb v 65535)) ≡ true
bad_form s l form v ls e never =
    by_bool (both (same l form) (leb v 65535))
    (λ y.
    let z = both_true (same l form) (leb v 65535) y in
    absurd (never (join ls) (leb-true v 65535 z.1)
    (sym (join_lines s) ∙ (ap join e ∙ ap (λ x. x ++ join ls) (same_true l form z.0)))))
    (λ y. rw y)

-- a line of a form, with numbers that are not too large, or none: s begins with it or with no such line
module _ (X : Type 0) (form : X → List ℕ) (numbers : List ℕ → X) (largest : X → ℕ) (whole : (x : X) → Whole (form x))
    (read : (x : X) → numbers (form x) ≡ x) where
  -- the first line passes the test where s begins with one of the form
  form_holds : (s l : List ℕ) (ls : List (List ℕ)) → lines s ≡ l ∷ ls → (x : X) (t : List ℕ) → largest x ≤ 65535 → s ≡ form x ++ t
      → both (same l (form (numbers l))) (leb (largest (numbers l)) 65535) ≡ true
  unfolding Whole
  form_holds s l ls e x t h q =
      let both_lines : l ∷ ls ≡ form x ∷ lines t = sym e ∙ (ap lines q ∙ whole x t) in
      let is : l ≡ form x = cc in
      let n : numbers l ≡ x = ap numbers is ∙ read x in
      let f : l ≡ form (numbers l) = is ∙ ap form (sym n) in
      both_yes (same l (form (numbers l))) (leb (largest (numbers l)) 65535)
      (subst (λ (z : List ℕ). same l z ≡ true) f (same_self l)) (ap (λ (z : X). leb (largest z) 65535) n ∙ le-leb (largest x) 65535 h)

  -- a goal by cases on that
  by_form : {P : Type 0} (s : List ℕ) → ((x : X) (t : List ℕ) → largest x ≤ 65535 → s ≡ form x ++ t → P)
      → (((x : X) (t : List ℕ) → largest x ≤ 65535 → s ≡ form x ++ t → ⊥) → P) → P
  unfolding Whole
  by_form {P} s on off = by_lines (lines s) refl
    where
      by_lines : (ls : List (List ℕ)) → lines s ≡ ls → P
      by_lines [] e =
          off (λ x t h q.
          let z : ◌≡◌ {A = List (List ℕ)} [] (form x ∷ lines t) = sym e ∙ (ap lines q ∙ whole x t) in
          let y : ◌≡◌ {A = ℕ} 0 1 = cc in omega arith)
      by_lines (l ∷ ls) e =
          let v = largest (numbers l) in
          by_bool (both (same l (form (numbers l))) (leb v 65535))
          (λ y.
          let z = both_true (same l (form (numbers l))) (leb v 65535) y in
          on (numbers l) (join ls) (leb-true v 65535 z.1)
          (sym (join_lines s) ∙ (ap join e ∙ ap (λ x. x ++ join ls) (same_true l (form (numbers l)) z.0))))
          (λ y. off (λ x t h q. true≢false (sym (form_holds s l ls e x t h q) ∙ y)))

-- ---- line 1
pub ports_yes : (n : ℕ) (t : List ℕ) → n ≤ 65535 → read_ports (lines (ports_line n ++ t)) ≡ unless (bad_ports n ∷ []) (read_slots n (lines t))
unfolding Whole
ports_yes n t h = rw (ports_whole n t, ports_number n, good_form (ports_line n) n h)

ports_no_of : (s : List ℕ) (ls : List (List ℕ)) → lines s ≡ ls → ((n : ℕ) (t : List ℕ) → n ≤ 65535 → s ≡ ports_line n ++ t → ⊥) → read_ports ls ≡ refused (7 ∷ 1 ∷ [])
ports_no_of s [] e never = refl
ports_no_of s (l ∷ ls) e never = rw (bad_form s l (ports_line (number_in 0 l)) (number_in 0 l) ls e (never (number_in 0 l)))

pub ports_no : (s : List ℕ) → ((n : ℕ) (t : List ℕ) → n ≤ 65535 → s ≡ ports_line n ++ t → ⊥) → read_ports (lines s) ≡ refused (7 ∷ 1 ∷ [])
ports_no s never = ports_no_of s (lines s) refl never

-- a ports line comes first, or none
pub by_ports_line : {P : Type 0} (s : List ℕ) → ((n : ℕ) (t : List ℕ) → n ≤ 65535 → s ≡ ports_line n ++ t → P)
    → (((n : ℕ) (t : List ℕ) → n ≤ 65535 → s ≡ ports_line n ++ t → ⊥) → P) → P
by_ports_line s on off = by_form ℕ ports_line (number_in 0) (λ n. n) ports_whole ports_number s on off

-- ---- line 2
pub slots_yes : (ports n : ℕ) (t : List ℕ) → n ≤ 65535
    → read_slots ports (lines (slots_line n ++ t)) ≡ unless (bad_slots n ∷ []) (read_pairs ports n 3 [] (lines t))
unfolding Whole
slots_yes ports n t h = rw (slots_whole n t, slots_number n, good_form (slots_line n) n h)

slots_no_of : (ports : ℕ) (s : List ℕ) (ls : List (List ℕ)) → lines s ≡ ls → ((n : ℕ) (t : List ℕ) → n ≤ 65535 → s ≡ slots_line n ++ t → ⊥)
    → read_slots ports ls ≡ refused (7 ∷ 2 ∷ [])
slots_no_of ports s [] e never = refl
slots_no_of ports s (l ∷ ls) e never = rw (bad_form s l (slots_line (number_in 0 l)) (number_in 0 l) ls e (never (number_in 0 l)))

pub slots_no : (ports : ℕ) (s : List ℕ) → ((n : ℕ) (t : List ℕ) → n ≤ 65535 → s ≡ slots_line n ++ t → ⊥) → read_slots ports (lines s) ≡ refused (7 ∷ 2 ∷ [])
slots_no ports s never = slots_no_of ports s (lines s) refl never

-- a slots line comes first, or none
pub by_slots_line : {P : Type 0} (s : List ℕ) → ((n : ℕ) (t : List ℕ) → n ≤ 65535 → s ≡ slots_line n ++ t → P)
    → (((n : ℕ) (t : List ℕ) → n ≤ 65535 → s ≡ slots_line n ++ t → ⊥) → P) → P
by_slots_line s on off = by_form ℕ slots_line (number_in 0) (λ n. n) slots_whole slots_number s on off

-- ---- a pair line
-- what is at most n where the most of two is
pub most_low : (a b n : ℕ) → most a b ≤ n → (a ≤ n) × (b ≤ n)
most_low a b n =
    by_bool (leb a b) (λ e. rw e (λ h. (let z = leb-true a b e in omega arith, h)))
    (λ e. rw e (λ h. (h, let z = leb-false a b e in omega arith)))

most_high : (a b n : ℕ) → a ≤ n → b ≤ n → most a b ≤ n
most_high a b n x y = by_bool (leb a b) (λ e. rw e y) (λ e. rw e x)

module _ (ports slots number : ℕ) (list : List ℕ) where
  pub pairs_yes : (i o m : ℕ) (t : List ℕ) → i ≤ 65535 → o ≤ 65535 → m ≤ 65535
      → read_pairs ports slots number list (lines (pair_line i o m ++ t))
      ≡ unless (line_past_512 list ∷ bad_port number ports i o ∷ [])
      (read_pairs ports slots (suc number) (list ++ (i ∷ o ∷ m ∷ 1 ∷ [])) (lines t))
  unfolding read_pairs Whole
  pairs_yes i o m t a b c =
      rw (pair_whole i o m t, pair_numbers i o m, good_form (pair_line i o m) (most i (most o m)) (most_high i (most o m) 65535 a (most_high o m 65535 b c)))

  pub pairs_none : read_pairs ports slots number list (lines []) ≡ loads ports slots list
  unfolding read_pairs lines
  pairs_none = refl

  pairs_no_of : (s : List ℕ) (ls : List (List ℕ)) → lines s ≡ ls → (s ≡ [] → ⊥)
      → ((i o m : ℕ) (t : List ℕ) → i ≤ 65535 → o ≤ 65535 → m ≤ 65535 → s ≡ pair_line i o m ++ t → ⊥)
      → read_pairs ports slots number list ls ≡ refused (7 ∷ number ∷ [])
  unfolding read_pairs
  pairs_no_of s [] e some never = absurd (some (sym (join_lines s) ∙ ap join e))
  pairs_no_of s (l ∷ ls) e some never =
      let i = number_in 0 l in
      let o = number_in 1 l in
      let m = number_in 2 l in
      rw (bad_form s l (pair_line i o m) (most i (most o m)) ls e
      (λ t h. let a = most_low i (most o m) 65535 h in let b = most_low o m 65535 a.1 in never i o m t a.0 b.0 b.1))

  pub pairs_no : (s : List ℕ) → (s ≡ [] → ⊥)
      → ((i o m : ℕ) (t : List ℕ) → i ≤ 65535 → o ≤ 65535 → m ≤ 65535 → s ≡ pair_line i o m ++ t → ⊥)
      → read_pairs ports slots number list (lines s) ≡ refused (7 ∷ number ∷ [])
  pairs_no s some never = pairs_no_of s (lines s) refl some never

-- a pair line comes first, or none
pub by_pair_line : {P : Type 0} (s : List ℕ) → ((i o m : ℕ) (t : List ℕ) → i ≤ 65535 → o ≤ 65535 → m ≤ 65535 → s ≡ pair_line i o m ++ t → P)
    → (((i o m : ℕ) (t : List ℕ) → i ≤ 65535 → o ≤ 65535 → m ≤ 65535 → s ≡ pair_line i o m ++ t → ⊥) → P) → P
by_pair_line s on off =
    by_form (ℕ × ℕ × ℕ) (λ x. pair_line x.0 x.1 x.2) (λ l. (number_in 0 l, number_in 1 l, number_in 2 l))
    (λ x. most x.0 (most x.1 x.2)) (λ x. pair_whole x.0 x.1 x.2)
    (λ x. rw (pair_numbers x.0 x.1 x.2)) s
    (λ x t h e.
    let a = most_low x.0 (most x.1 x.2) 65535 h in
    let b = most_low x.1 x.2 65535 a.1 in
    on x.0 x.1 x.2 t a.0 b.0 b.1 e)
    (λ never. off (λ i o m t a b c e. never (i, o, m) t (most_high i (most o m) 65535 a (most_high o m 65535 b c)) e))

-- ---- what is left where lines are taken
-- behind a pair line
pub pair_lines : (i o m : ℕ) (t : List ℕ) → lines (pair_line i o m ++ t) ≡ pair_line i o m ∷ lines t
unfolding Whole
pair_lines i o m t = pair_whole i o m t

-- where no line is left, no byte is
pub no_lines : (s : List ℕ) → lines s ≡ [] → s ≡ []
no_lines s e = sym (join_lines s) ∙ ap join e

-- where a line is left, some byte is
pub some_lines : (s l : List ℕ) (ls : List (List ℕ)) → lines s ≡ l ∷ ls → s ≡ [] → ⊥
some_lines s l ls e f =
    let a : ◌≡◌ {A = List (List ℕ)} [] (l ∷ ls) = sym lines_none ∙ (sym (ap lines f) ∙ e) in
    let z : ◌≡◌ {A = ℕ} 0 1 = cc in omega arith
