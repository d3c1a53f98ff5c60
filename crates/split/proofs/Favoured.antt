-- What the steps settle is what the definitions settle.
use Prim.Native.Nat.{ℕ, suc, zero, ◌+◌, ◌-◌, ◌%◌, ◌≤◌, ◌<◌}
use mathlib.Core.Path.{◌≡◌, refl, sym, ap, ◌∙◌}
use mathlib.Core.Logic.{◌≢◌}
use mathlib.Core.List.{List, [], ◌∷◌}
use mathlib.Core.Bool.{Bool, true, false}
use native.Mathlib.Omega.{arith}
use lib.Dec.{eqb}
use lib.ListN.{length, get_or, set, take, drop, replicate, length-set, length-replicate}
use lib.Seq.{length-take-le, get_or-take, take-set-lt, drop-set-lt}
use borrow.Author.Tests.{eq-eqb, ne_eqb}
use Rattle.rules.specs.Words.{up_from, keep, Every}
use Rattle.rules.specs.Flows.{End, inputs, links}
use Rattle.rules.specs.Rules.{odd}
use Rattle.rules.specs.Schedule.{walk, group_of, favouring, level, settle_at, settle, favours}
use Rattle.rules.proofs.Cases.{by_bool, by_eq}
use Rattle.rules.proofs.Lists.{every_map}
use Rattle.rules.proofs.Partners.{odd_lt, partner_at}
use Rattle.rules.proofs.Singles.{output_odd, mate}
use Rattle.rules.proofs.Kept.{keep_every}
use Rattle.rules.proofs.Favouring.{none_favour, settled_less, unsettled_most}
use Rattle.rules.proofs.Walks.{walk_on, walk_off, walk_length}
use Rattle.planes.specs.Tables.{tabled}
use Rattle.groups.specs.Steps.{reached, ReachesBoth, walked, both_ways, group_settled, all_settled, SettledBy}
use Rattle.split.specs.Steps.{Sides, OddsOf, MatedBy}
use Rattle.groups.proofs.Walked.{walk_end}

-- ---- walks
none_zero : (c : List ℕ) (q : ℕ) → favouring 0 c ≤ 0 → q < length c → get_or c q 0 ≢ 0
none_zero c q z h e = let a = settled_less c q 1 h e (omega arith) in omega arith

module _ (n : ℕ) (od : ℕ → Bool) (od_lt : (p : ℕ) → od p ≡ true → p < n) where
  -- f does as the pairing g where od holds
  abbrev Does : (ℕ → ℕ) → (ℕ → ℕ) → Type 0
  Does f g = (p : ℕ) → od p ≡ true → (f p ≡ g p) × (od (g p) ≡ true)

  -- a walk among the first n of a longer list, with fuel for all that is not settled
  walk_take : (go back go' back' : ℕ → ℕ) → Does go go' → Does back back' → (j k p h : ℕ) (c : List ℕ) → n ≤ length c
      → od p ≡ true → 1 ≤ h → h ≤ 2 → favouring 0 c ≤ j → favouring 0 (take n c) ≤ k
      → take n (walk j go back p h c) ≡ walk k go' back' p h (take n c)
  unfolding walk
  walk_take go back go' back' dg db zero k p h c l o low high zj zk =
      let q_lt = od_lt (go' p) (dg p o).1 in
      let z = none_zero c (go' p) zj (omega arith) in
      let g = get_or-take n c (go' p) 0 q_lt in
      sym (walk_end k go' back' p h (go' p) (take n c) refl (omega arith))
  walk_take go back go' back' dg db (suc j) zero p h c l o low high zj zk =
      let q_lt = od_lt (go' p) (dg p o).1 in
      let t = length-take-le n c l in
      let z = none_zero (take n c) (go' p) zk (omega arith) in
      let g = get_or-take n c (go' p) 0 q_lt in
      ap (take n) (walk_end (suc j) go back p h (go' p) c (sym (dg p o).0) (omega arith))
  walk_take go back go' back' dg db (suc j) (suc k) p h c l o low high zj zk =
      let q_lt = od_lt (go' p) (dg p o).1 in
      let t = length-take-le n c l in
      let g = get_or-take n c (go' p) 0 q_lt in
      let f = (dg p o).0 in
      by_eq (get_or c (go' p) 0) 0
      (λ e.
      let e' : get_or c (go p) 0 ≡ 0 = rw f e in
      let z1 = settled_less c (go' p) (3 - h) (omega arith) e (omega arith) in
      let z2 = settled_less (take n c) (go' p) (3 - h) (omega arith) (g ∙ e) (omega arith) in
      let s = take-set-lt n c (go' p) (3 - h) q_lt in
      let zk' : favouring 0 (take n (set c (go' p) (3 - h))) ≤ k = rw s (omega arith) in
      ap (take n) (walk_on j go back p h c e' ∙ ap (λ (q : ℕ). walk j back go q (3 - h) (set c q (3 - h))) f)
      ∙ walk_take back go back' go' db dg j k (go' p) (3 - h) (set c (go' p) (3 - h)) (rw (length-set c (go' p) (3 - h)) l) (dg p o).1 (omega arith) (omega arith) (omega arith) zk'
      ∙ ap (λ (d : List ℕ). walk k back' go' (go' p) (3 - h) d) s
      ∙ sym (walk_on k go' back' p h (take n c) (g ∙ e)))
      (λ e.
      let e' : get_or c (go p) 0 ≢ 0 = rw f e in
      ap (take n) (walk_off j go back p h c e') ∙ sym (walk_off k go' back' p h (take n c) (omega arith)))

  walked_take : (go back go' back' : ℕ → ℕ) → Does go go' → Does back back'
      → (p h : ℕ) (c : List ℕ) → n ≤ length c → od p ≡ true → 1 ≤ h → h ≤ 2
      → take n (walked go back p h c) ≡ walk n go' back' p h (take n c)
  walked_take go back go' back' dg db p h c l o low high =
      walk_take go back go' back' dg db (length c) n p h c l o low high (unsettled_most c) (omega (arith, unsettled_most (take n c), length-take-le n c l))

  -- and nothing behind them is touched
  walk_drop : (go back go' back' : ℕ → ℕ) → Does go go' → Does back back' → (j p h : ℕ) (c : List ℕ) → od p ≡ true → drop n (walk j go back p h c) ≡ drop n c
  unfolding walk
  walk_drop go back go' back' dg db zero p h c o = refl
  walk_drop go back go' back' dg db (suc j) p h c o =
      let oq : od (go p) ≡ true = rw (dg p o).0 (dg p o).1 in
      by_eq (get_or c (go p) 0) 0
      (λ e.
      ap (drop n) (walk_on j go back p h c e)
      ∙ walk_drop back go back' go' db dg j (go p) (3 - h) (set c (go p) (3 - h)) oq
      ∙ drop-set-lt n c (go p) (3 - h) (od_lt (go p) oq))
      (λ e. ap (drop n) (walk_off j go back p h c e))

-- ---- those that favour a half, among the first n and behind them
favouring_parts : (h n : ℕ) (c : List ℕ) → favouring h c ≡ favouring h (take n c) + favouring h (drop n c)
favouring_parts h zero c = omega arith
favouring_parts h (suc n) [] = refl
favouring_parts h (suc n) (x ∷ c) = omega (arith, favouring_parts h n c)

-- behind the first n no count favours a half
abbrev Blank : ℕ → List ℕ → Type 0
Blank n c = (h : ℕ) → h ≢ 0 → favouring h (drop n c) ≡ 0

zeros_blank : (n k : ℕ) → Blank n (replicate k 0)
zeros_blank zero k h m = none_favour h k m
zeros_blank (suc n) zero h m = refl
zeros_blank (suc n) (suc k) h m = zeros_blank n k h m

-- ---- groups
module _ (m : List ℕ) (i o i' o' : ℕ → ℕ) (di : Does (length m) (odd m) (odd_lt m) i i') (do' : Does (length m) (odd m) (odd_lt m) o o') where
  module _ (h : ℕ) (low : 1 ≤ h) (high : h ≤ 2) (p : ℕ) (c : List ℕ) (l : length m ≤ length c) (e : odd m p ≡ true) where
    both_length : length (both_ways i o h p c) ≡ length c
    both_length =
        walk_length (length (walked i o p h (set c p h))) o i p h (walked i o p h (set c p h))
        ∙ walk_length (length (set c p h)) i o p h (set c p h) ∙ length-set c p h

    both_take : take (length m) (both_ways i o h p c) ≡ group_of i' o' m h p (take (length m) c)
    both_take =
        let c1 : length m ≤ length (set c p h) = rw (length-set c p h) l in
        let c2 : length m ≤ length (walked i o p h (set c p h)) = rw (walk_length (length (set c p h)) i o p h (set c p h)) c1 in
        walked_take (length m) (odd m) (odd_lt m) o i o' i' do' di p h (walked i o p h (set c p h)) c2 e low high
        ∙ ap (λ (d : List ℕ). walk (length m) o' i' p h d) (walked_take (length m) (odd m) (odd_lt m) i o i' o' di do' p h (set c p h) c1 e low high
        ∙ ap (λ (d : List ℕ). walk (length m) i' o' p h d) (take-set-lt (length m) c p h (odd_lt m p e)))

    both_drop : drop (length m) (both_ways i o h p c) ≡ drop (length m) c
    both_drop =
        walk_drop (length m) (odd m) (odd_lt m) o i o' i' do' di (length (walked i o p h (set c p h))) p h (walked i o p h (set c p h)) e
        ∙ walk_drop (length m) (odd m) (odd_lt m) i o i' o' di do' (length (set c p h)) p h (set c p h) e
        ∙ drop-set-lt (length m) c p h (odd_lt m p e)

    both_blank : Blank (length m) c → Blank (length m) (both_ways i o h p c)
    both_blank b k n = ap (favouring k) both_drop ∙ b k n

    both_favour : Blank (length m) c → (k : ℕ) → k ≢ 0 → favouring k (both_ways i o h p c) ≡ favouring k (group_of i' o' m h p (take (length m) c))
    both_favour b k n = omega (arith, favouring_parts k (length m) (both_ways i o h p c), both_blank b k n, ap (favouring k) both_take)

  module _ (p : ℕ) (c : List ℕ) (l : length m ≤ length c) (b : Blank (length m) c) (e : odd m p ≡ true) where
    level_take : level (both_ways i o 1 p c) ≡ level (group_of i' o' m 1 p (take (length m) c))
    level_take = rw (both_favour 1 (omega arith) (omega arith) p c l e b 1 (omega arith), both_favour 1 (omega arith) (omega arith) p c l e b 2 (omega arith))

    -- a goal on the group settled, by the three ways that it can go
    group_cases : (P : List ℕ → List ℕ → Type 0) → (P c (take (length m) c))
        → ((h : ℕ) → 1 ≤ h → h ≤ 2 → P (both_ways i o h p c) (group_of i' o' m h p (take (length m) c)))
        → P (group_settled i o p c) (settle_at i' o' m p (take (length m) c))
    unfolding settle_at group_settled
    group_cases P f g =
        let same = get_or-take (length m) c p 0 (odd_lt m p e) in
        by_eq (get_or c p 0) 0
        (λ z. by_bool (level (both_ways i o 1 p c))
        (λ k. rw (eq-eqb (get_or c p 0) 0 z, e, same, eq-eqb (get_or c p 0) 0 z, settle_at, group_settled, k, sym level_take ∙ k) (g 1 (omega arith) (omega arith)))
        (λ k. rw (eq-eqb (get_or c p 0) 0 z, e, same, eq-eqb (get_or c p 0) 0 z, settle_at, group_settled, k, sym level_take ∙ k) (g 2 (omega arith) (omega arith))))
        (λ z. rw (ne_eqb (get_or c p 0) 0 z, e, same, ne_eqb (get_or c p 0) 0 z, settle_at, group_settled) f)

    group_take : take (length m) (group_settled i o p c) ≡ settle_at i' o' m p (take (length m) c)
    group_take = group_cases (λ x y. take (length m) x ≡ y) refl (λ h low high. both_take h low high p c l e)

    group_length : length (group_settled i o p c) ≡ length c
    group_length = group_cases (λ x y. length x ≡ length c) refl (λ h low high. both_length h low high p c l e)

    group_blank : Blank (length m) (group_settled i o p c)
    group_blank = group_cases (λ x y. Blank (length m) x) b (λ h low high. both_blank h low high p c l e b)

  all_take : (k a : ℕ) (c : List ℕ) → length m ≤ length c → Blank (length m) c
      → take (length m) (all_settled i o (keep (odd m) (up_from a k)) c) ≡ settle i' o' m (up_from a k) (take (length m) c)
  unfolding settle_at
  all_take zero a c l b = refl
  all_take (suc k) a c l b =
      by_bool (odd m a)
      (λ e. rw e (all_take k (suc a) (group_settled i o a c) (rw (group_length a c l b e) l) (group_blank a c l b e) ∙ ap (settle i' o' m (up_from (suc a) k)) (group_take a c l b e)))
      (λ e. rw e (all_take k (suc a) c l b ∙ ap (settle i' o' m (up_from (suc a) k)) (sym (off a c e))))
    where
      off : (p : ℕ) (c : List ℕ) → odd m p ≡ false → settle_at i' o' m p (take (length m) c) ≡ take (length m) c
      off p c e = rw (e, settle_at)

take_zeros : (n k : ℕ) → n ≤ k → take {A = ℕ} n (replicate k 0) ≡ replicate n 0
take_zeros zero k h = refl
take_zeros (suc n) zero h = absurd (omega arith)
take_zeros (suc n) (suc k) h = ap (λ (l : List ℕ). 0 ∷ l) (take_zeros n k (omega arith))

-- ---- partners
-- the mates of odd counts are their partners, and odd too
module _ {multi : ℕ} {ends odds before mates : List ℕ} (m : List ℕ) (is : OddsOf odds m) (sides : Sides (length m) multi ends) (b : MatedBy multi ends odds before mates) where
  does : (s : End) → Does (length m) (odd m) (odd_lt m) (tabled mates s) (mate (tabled ends) m s)
  does inputs p o = (b.same m is sides inputs p o, (partner_at (tabled ends inputs) m p o).0)
  does links p o = (b.same m is sides links p o, output_odd (tabled ends links) m p o)

  -- so walks by them lead to odd counts alone
  leads : (s t : End) (p n : ℕ) → odd m p ≡ true → odd m (reached (tabled mates s) (tabled mates t) p n) ≡ true
  leads s t p zero o = o
  leads s t p (suc n) o =
      let q = reached (tabled mates s) (tabled mates t) p n in
      by_bool (eqb (n % 2) 0) (λ e. rw e (next s q (leads s t p n o))) (λ e. rw e (next t q (leads s t p n o)))
    where
      next : (s : End) (q : ℕ) → odd m q ≡ true → odd m (tabled mates s q) ≡ true
      next s q e = rw (does s q e).0 (does s q e).1

  pub reaches_all : length m ≤ 528 → Every (ReachesBoth mates) odds
  reaches_all few =
      rw is (every_map (λ p. (odd m p ≡ true) × (p < length m)) (ReachesBoth mates) (λ p a. reaches_both_ways p a.0)
      (keep (odd m) (up_from 0 (length m))) (keep_every (odd m) (length m) 0 (length m) (omega arith)))
    where
      reaches_both_ways : (p : ℕ) → odd m p ≡ true → ReachesBoth mates p
      reaches_both_ways p o =
          record {
            by_inputs = record { low = λ n. omega (arith, odd_lt m (reached (tabled mates inputs) (tabled mates links) p n) (leads inputs links p n o)) };
            by_links = record { low = λ n. omega (arith, odd_lt m (reached (tabled mates links) (tabled mates inputs) p n) (leads links inputs p n o)) };
          }

  -- the steps over a list of the odd counts of m settle what the definitions settle
  pub favoured_is : {c : List ℕ} → length m ≤ 528 → SettledBy (tabled mates inputs) (tabled mates links) odds (replicate 528 0) c
      → take (length m) c ≡ favours (tabled ends) m
  unfolding favours
  favoured_is {c} few s =
      let z : List ℕ = replicate 528 0 in
      let i = tabled mates inputs in
      let o = tabled mates links in
      let i' = mate (tabled ends) m inputs in
      let o' = mate (tabled ends) m links in
      let wide : length m ≤ length z = omega (arith, length-replicate {A = ℕ} 528 0) in
      ap (take (length m)) (s.same ∙ ap (λ (l : List ℕ). all_settled i o l z) is)
      ∙ all_take m i o i' o' (does inputs) (does links) (length m) 0 z wide (zeros_blank (length m) 528)
      ∙ ap (settle i' o' m (up_from 0 (length m))) (take_zeros (length m) 528 few)
