-- Ties: the groups of the rules are those that the scan takes, and the counts favour what the tie rule says.
use Prim.Native.Nat.{ℕ, suc, zero, ◌+◌, ◌*◌, ◌%◌, ◌≤◌, ◌<◌}
use mathlib.Core.Path.{◌≡◌, refl, sym, ap, ◌∙◌}
use mathlib.Core.Logic.{◌≢◌}
use mathlib.Core.List.{List}
use mathlib.Core.Bool.{Bool, true}
use native.Mathlib.Omega.{arith}
use lib.Dec.{eqb}
use lib.ListN.{length, get_or}
use borrow.Author.Tests.{eqb-true, eqb-false, eq-eqb, ne_eqb}
use Rattle.rules.specs.Words.{bit, up_from, keep, sum_to, Every}
use Rattle.rules.specs.Flows.{End, inputs, links}
use Rattle.rules.specs.Rules.{odd, Partnered, Joined, Lists, Group, OddGroup}
use Rattle.rules.specs.Schedule.{favouring, favours}
use Rattle.rules.proofs.Cases.{by_bool, by_eq}
use Rattle.rules.proofs.Sums.{sum_none, sum_more}
use Rattle.rules.proofs.Kept.{keep_same, kept_length, keep_every}
use Rattle.rules.proofs.Partners.{odd_lt}
use Rattle.rules.proofs.Lists.{every_map}
use Rattle.rules.proofs.Favouring.{none_favour}
use Rattle.rules.proofs.Singles.{mate}
use Rattle.rules.proofs.Settled.{Keeps, pairings, group_first, favours_scan, favours_law}
use Rattle.rules.proofs.Groups.{JoinedBy, reached_joined, joined_reached, state, state_settled, state_keeps, state_level, TakesGroup, takes_cases, takes_first, taken_before, first_takes, member, member_yes, member_no, members, members_size, members_share}

-- ---- lists of numbers of which something holds
lists_same : (n : ℕ) (P : ℕ → Type 0) (k l : List ℕ) → Lists n P k → Lists n P l → k ≡ l
lists_same n P k l x y = x.listed ∙ keep_same x.test y.test 0 n (λ p _. agree p) ∙ sym y.listed
  where
    agree : (p : ℕ) → x.test p ≡ y.test p
    agree p =
        by_bool (x.test p)
        (λ e. by_bool (y.test p) (λ g. e ∙ sym g) (λ g. absurd (y.no p g (x.yes p e))))
        (λ e. by_bool (y.test p) (λ g. absurd (x.no p e (y.yes p g))) (λ g. e ∙ sym g))

pub lists_every : (n : ℕ) (P : ℕ → Type 0) (l : List ℕ) → Lists n P l → Every P l
lists_every n P l x =
    rw x.listed
    (every_map (λ p. (x.test p ≡ true) × (p < n)) P (λ p h. x.yes p h.0) (keep x.test (up_from 0 n)) (keep_every x.test n 0 n (omega arith)))

-- ---- numbers of a group
-- the halves level before and after: what is settled between is odd in number where the first half comes to be ahead, or no longer is
turn_on : (k f g f' g' : ℕ) → k % 2 + g ≡ f → g' ≤ f' → f' ≤ g' + 1 → (k + bit (eqb ((f' + g' + f + g) % 2) 1)) % 2 + g' ≡ f'
turn_on k f g f' g' e l h =
    by_eq ((f' + g' + f + g) % 2) 1
    (λ d. rw (eq-eqb ((f' + g' + f + g) % 2) 1 d) (by_eq (k % 2) 0 (λ z. omega arith) (λ z. omega arith)))
    (λ d. rw (ne_eqb ((f' + g' + f + g) % 2) 1 d) (by_eq (k % 2) 0 (λ z. omega arith) (λ z. omega arith)))

same_parity : (l f g x : ℕ) → l + (f + g) ≡ x → (x + f + g) % 2 ≡ l % 2
same_parity l f g x e = let d : x + f + g ≡ l + 2 * (f + g) = omega arith in rw d (omega arith)

module _ (port : End → ℕ → ℕ) (m : List ℕ) where
  -- what is settled before position a comes
  abbrev scanned : ℕ → List ℕ
  scanned a = state m (mate port m) (pairings port m) a

  abbrev TakesAt : ℕ → Type 0
  TakesAt p = TakesGroup m (mate port m) (pairings port m) p

  abbrev first_half : ℕ → ℕ
  first_half a = favouring 1 (scanned a)

  abbrev second_half : ℕ → ℕ
  second_half a = favouring 2 (scanned a)

  -- even or odd with the number of counts that are settled at position a
  abbrev settled_at : ℕ → ℕ
  settled_at a = first_half (suc a) + second_half (suc a) + first_half a + second_half a

  -- ---- the groups of the rules
  taken_group : (p : ℕ) (t : TakesAt p) → Group (Partnered port m) m p (members m (mate port m) (pairings port m) p t)
  taken_group p t =
      record {
        odd_count = t.odd_count;
        first = λ q j. takes_first m (mate port m) (pairings port m) p t q (joined_reached port m p q j);
        counts = record {
          test = member m (mate port m) (pairings port m) p t;
          yes = λ q e. reached_joined port m p q (member_yes m (mate port m) (pairings port m) p t q e);
          no = λ q e j. member_no m (mate port m) (pairings port m) p t q e (joined_reached port m p q j);
          listed = refl;
        };
      }

  -- every odd count is of a group
  pub has_group : (q : ℕ) → odd m q ≡ true → (p : ℕ) × (group : List ℕ) × Group (Partnered port m) m p group × JoinedBy (mate port m) p q
  has_group q e =
      let n : get_or (favours port m) q 0 ≢ 0 = (let l = (favours_law port m).low q e in omega arith) in
      let l = taken_before m (mate port m) (pairings port m) (length m) q (rw (favours_scan port m) at n) in
      (l.0, members m (mate port m) (pairings port m) l.0 l.3, taken_group l.0 l.3, l.2)

  module _ (p : ℕ) (group : List ℕ) (x : Group (Partnered port m) m p group) where
    takes : TakesAt p
    takes = first_takes m (mate port m) (pairings port m) p x.odd_count (λ q j. x.first q (reached_joined port m p q j))

    members_are : group ≡ members m (mate port m) (pairings port m) p takes
    members_are = lists_same (length m) (Joined (Partnered port m) p) group (members m (mate port m) (pairings port m) p takes) x.counts (taken_group p takes).counts

    size : length group + (first_half p + second_half p) ≡ first_half (suc p) + second_half (suc p)
    size = ap (λ (l : List ℕ). length l + (first_half p + second_half p)) members_are ∙ members_size m (mate port m) (pairings port m) p takes

    kept : Keeps (scanned (suc p)) (favours port m)
    kept = rw (favours_scan port m) (state_keeps m (mate port m) (pairings port m) (suc p) (length m) (odd_lt m p x.odd_count))

    share : length (keep (λ q. eqb (get_or (favours port m) q 0) 1) group) + first_half p ≡ first_half (suc p)
    share =
        ap (λ (l : List ℕ). length (keep (λ q. eqb (get_or (favours port m) q 0) 1) l) + first_half p) members_are
        ∙ members_share m (mate port m) (pairings port m) p takes (favours port m) kept

    parity : settled_at p % 2 ≡ length group % 2
    parity = same_parity (length group) (first_half p) (second_half p) (first_half (suc p) + second_half (suc p)) size

    -- the first count of a group with an even number of counts favours the first half
    pub even_favours : length group % 2 ≡ 0 → get_or (favours port m) p 0 ≡ 1
    even_favours e =
        let t = takes in
        let low = t.low in
        let here : get_or (scanned (suc p)) p 0 ≡ t.half = ap (λ (c : List ℕ). get_or c p 0) t.is
        ∙ group_first m (mate port m inputs) (mate port m links) (pairings port m inputs) (pairings port m links) t.half t.low t.high p (scanned p) t.odd_count t.unsettled
        (state_settled m (mate port m) (pairings port m) p) in
        kept p (omega arith) ∙ here ∙ t.even_first (state_level m (mate port m) (pairings port m) p) (parity ∙ e)

  -- ---- the groups with an odd number of counts
  pub odd_test : ℕ → Bool
  odd_test q = eqb (settled_at q % 2) 1

  pub odd_lists : (p : ℕ) → Lists p (OddGroup (Partnered port m) m) (keep odd_test (up_from 0 p))
  unfolding odd_test
  odd_lists p =
      record {
        test = odd_test;
        yes = λ q e. takes_cases m (mate port m) (pairings port m) q
            (λ t.
            let g = members m (mate port m) (pairings port m) q t in
            record { group = g; taken = taken_group q t; odd_number = omega (arith, parity q g (taken_group q t), eqb-true (settled_at q % 2) 1 e) })
            (λ _ k. let z = eqb-true (settled_at q % 2) 1 e in absurd (none q k z));
        no = λ q e x. eqb-false (settled_at q % 2) 1 e (omega (arith, parity q x.group x.taken, x.odd_number));
        listed = refl;
      }
    where
      none : (q : ℕ) → scanned (suc q) ≡ scanned q → settled_at q % 2 ≡ 1 → ⊥
      none q k z = let f = ap (favouring 1) k in let g = ap (favouring 2) k in omega arith

  -- their number is odd where the first half is ahead
  turns : (a : ℕ) → sum_to a (λ q. bit (odd_test q)) % 2 + second_half a ≡ first_half a
  unfolding odd_test
  turns zero =
      let x = none_favour 1 (length m) (omega arith) in
      let y = none_favour 2 (length m) (omega arith) in
      omega (arith, sum_none (λ q. bit (odd_test q)))
  turns (suc a) =
      let l = state_level m (mate port m) (pairings port m) (suc a) in
      rw (sum_more a (λ q. bit (odd_test q)))
      (turn_on (sum_to a (λ q. bit (odd_test q))) (first_half a) (second_half a) (first_half (suc a)) (second_half (suc a)) (turns a) l.0 l.1)

  module _ (p : ℕ) (group before : List ℕ) (x : Group (Partnered port m) m p group) (o : length group % 2 ≡ 1) (b : Lists p (OddGroup (Partnered port m) m) before) where
    turn : length before % 2 + second_half p ≡ first_half p
    turn =
        ap (λ (l : List ℕ). length l % 2 + second_half p) (lists_same p (OddGroup (Partnered port m) m) before (keep odd_test (up_from 0 p)) b (odd_lists p))
        ∙ ap (λ (k : ℕ). k % 2 + second_half p) (kept_length odd_test p)
        ∙ turns p

    -- the first half has one count more of the first, third, fifth, .. of them, and the second of the others
    pub odd_share : 2 * length (keep (λ q. eqb (get_or (favours port m) q 0) 1) group) + 1 ≡ length group + 2 * (suc (length before) % 2)
    odd_share =
        let l = state_level m (mate port m) (pairings port m) (suc p) in
        by_eq (length before % 2) 0
        (λ e. let n : suc (length before) % 2 ≡ 1 = omega arith in omega (arith, turn, size p group x, share p group x))
        (λ e. let n : suc (length before) % 2 ≡ 0 = omega arith in omega (arith, turn, size p group x, share p group x))
