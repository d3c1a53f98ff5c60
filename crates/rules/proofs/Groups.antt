-- Groups: what partners reach from a count, the groups that the scan takes by their first counts, and how many counts they have.
use Prim.Native.Nat.{ℕ, suc, zero, ◌+◌, ◌-◌, ◌≤◌, ◌<◌}
use mathlib.Core.Path.{◌≡◌, sym, ap, ◌∙◌, subst}
use mathlib.Core.Logic.{◌≢◌, ◌⊎◌, inl, inr, ⊎_elim}
use mathlib.Core.List.{List}
use mathlib.Core.Bool.{Bool, true, false, not}
use native.Mathlib.Omega.{arith}
use lib.Dec.{eqb}
use lib.ListN.{length, get_or, set}
use lib.Seq.{get_or-set_other}
use borrow.Author.Tests.{eqb-true, eqb-false, eq-eqb, ne_eqb, not-true}
use Rattle.rules.specs.Words.{both, bit, up_from, keep, sum_to}
use Rattle.rules.specs.Flows.{End, inputs, links}
use Rattle.rules.specs.Rules.{odd, Partnered, Joined, itself, onward, backward}
use Rattle.rules.specs.Schedule.{walk, favouring}
use Rattle.rules.proofs.Cases.{by_bool, by_eq, by_lt, both_true, both_false, is_yes, is_no}
use Rattle.rules.proofs.Sums.{sum_ext, sum_add}
use Rattle.rules.proofs.Kept.{keep_keep, kept_length}
use Rattle.rules.proofs.Singles.{mate, rule_partner, partner_rule}
use Rattle.rules.proofs.Walks.{Opposite, Pairing, walk_on, walk_off}
use Rattle.rules.proofs.Favouring.{favouring_sum}
use Rattle.rules.proofs.Shares.{Level}
use Rattle.rules.proofs.Settled.{Settled, Keeps, GroupSettled, settle_cases, scan, scan_settled, scan_keeps, scan_done, scan_level}
use Rattle.rules.proofs.Lists.{zero_at}

-- what is reached from p by partners
pub data JoinedBy (f : End → ℕ → ℕ) (p : ℕ) : ℕ → Type 0 where
  here : JoinedBy f p p
  step : (s : End) (q : ℕ) → JoinedBy f p q → JoinedBy f p (f s q)

pub reached_closed : (f : End → ℕ → ℕ) (p : ℕ) (P : ℕ → Type 0) → P p → ((s : End) (q : ℕ) → P q → P (f s q)) → (q : ℕ) → JoinedBy f p q → P q
reached_closed f p P b g q (here) = b
reached_closed f p P b g q (step s r j) = g s r (reached_closed f p P b g r j)

reached_trans : (f : End → ℕ → ℕ) (p q r : ℕ) → JoinedBy f p q → JoinedBy f q r → JoinedBy f p r
reached_trans f p q r a b = reached_closed f q (λ t. JoinedBy f p t) a (λ s t j. step s t j) r b

pub reached_sym : (f : End → ℕ → ℕ) → ((s : End) (p : ℕ) → f s (f s p) ≡ p) → (p q : ℕ) → JoinedBy f p q → JoinedBy f q p
reached_sym f twice p q j =
    reached_closed f p (λ t. JoinedBy f t p) here
    (λ s t k. reached_trans f (f s t) t p (subst (λ (x : ℕ). JoinedBy f (f s t) x) (twice s t) (step s (f s t) here)) k) q j

-- a walk settles only what a closed J has
walk_adds : (J S : ℕ → Type 0) (n : ℕ) (go back : ℕ → ℕ) (p h : ℕ) (c : List ℕ) → ((q : ℕ) → J q → J (go q)) → ((q : ℕ) → J q → J (back q)) → J p
    → ((q : ℕ) → get_or c q 0 ≢ 0 → J q ⊎ S q) → (q : ℕ) → get_or (walk n go back p h c) q 0 ≢ 0 → J q ⊎ S q
unfolding walk
walk_adds J S zero go back p h c f g j all q = all q
walk_adds J S (suc n) go back p h c f g j all q =
    by_eq (get_or c (go p) 0) 0
    (λ e. rw (walk_on n go back p h c e)
    (walk_adds J S n back go (go p) (3 - h) (set c (go p) (3 - h)) g f (f p j)
    (λ r s. by_eq r (go p) (λ k. inl (rw k (f p j))) (λ k. all r (rw (get_or-set_other c (go p) r (3 - h) 0 k) at s))) q))
    (λ e. rw (walk_off n go back p h c e) (all q))

-- what is not settled has no settled partner
unsettled : (od : ℕ → Bool) (f : ℕ → ℕ) (c : List ℕ) → Pairing od f → ((q : ℕ) → get_or c q 0 ≤ 2) → ((q : ℕ) → Opposite f c q) → (t : ℕ) → get_or c t 0 ≡ 0 → get_or c (f t) 0 ≡ 0
unsettled od f c pf two g t z =
    let a = ap (λ (x : ℕ). get_or c x 0) (pf.twice t) in
    by_eq (get_or c (f t) 0) 0 (λ e. e)
    (λ n. by_eq (f (f t)) (f t)
    (λ e. let b = ap (λ (x : ℕ). get_or c x 0) e in omega arith)
    (λ e. let b = g (f t) n e in omega (arith, two (f t))))

-- ---- counts that are settled in d and not in c, of which d keeps the rest
abbrev pub new : List ℕ → List ℕ → ℕ → Bool
new c d q = both (eqb (get_or c q 0) 0) (not (eqb (get_or d q 0) 0))

module _ (n : ℕ) (c d : List ℕ) (lc : length c ≡ n) (ld : length d ≡ n) (keeps : Keeps c d) (two : (q : ℕ) → get_or d q 0 ≤ 2) where
  -- those among them that favour h
  new_one : (h q : ℕ) → h ≢ 0 → bit (both (new c d q) (eqb (get_or d q 0) h)) + bit (eqb (get_or c q 0) h) ≡ bit (eqb (get_or d q 0) h)
  new_one h q n =
      by_eq (get_or c q 0) 0
      (λ e. by_eq (get_or d q 0) h
      (λ k. rw (eq-eqb (get_or c q 0) 0 e, ne_eqb (get_or d q 0) 0 (λ z. n (sym k ∙ z)), eq-eqb (get_or d q 0) h k) (omega (arith, is_no (get_or c q 0) h (λ z. n (sym z ∙ e)))))
      (λ k. omega (arith, other e k, is_no (get_or c q 0) h (λ z. n (sym z ∙ e)))))
      (λ e. rw (ne_eqb (get_or c q 0) 0 e, keeps q e) (omega arith))
    where
      other : get_or c q 0 ≡ 0 → get_or d q 0 ≢ h → bit (both (new c d q) (eqb (get_or d q 0) h)) ≡ bit (eqb (get_or d q 0) h)
      other e k = rw (eq-eqb (get_or c q 0) 0 e, ne_eqb (get_or d q 0) h k) (by_bool (eqb (get_or d q 0) 0) (λ z. rw z) (λ z. rw z))

  pub new_share : (h : ℕ) → h ≢ 0 → sum_to n (λ q. bit (both (new c d q) (eqb (get_or d q 0) h))) + favouring h c ≡ favouring h d
  new_share h k =
      let x = favouring_sum h c ∙ ap (λ (z : ℕ). sum_to z (λ q. bit (eqb (get_or c q 0) h))) lc in
      let y = favouring_sum h d ∙ ap (λ (z : ℕ). sum_to z (λ q. bit (eqb (get_or d q 0) h))) ld in
      ap (λ z. sum_to n (λ q. bit (both (new c d q) (eqb (get_or d q 0) h))) + z) x
      ∙ sym (sum_add n (λ q. bit (both (new c d q) (eqb (get_or d q 0) h))) (λ q. bit (eqb (get_or c q 0) h)))
      ∙ sum_ext n _ _ (λ q _. new_one h q k)
      ∙ sym y

  new_two : (q : ℕ) → bit (new c d q) ≡ bit (both (new c d q) (eqb (get_or d q 0) 1)) + bit (both (new c d q) (eqb (get_or d q 0) 2))
  new_two q =
      by_bool (new c d q)
      (λ e.
      let z : get_or d q 0 ≢ 0 = eqb-false (get_or d q 0) 0 (not-true _ (both_true (eqb (get_or c q 0) 0) (not (eqb (get_or d q 0) 0)) e).1) in
      rw e (by_eq (get_or d q 0) 1
      (λ k. omega (arith, is_yes (get_or d q 0) 1 k, is_no (get_or d q 0) 2 (omega arith)))
      (λ k. omega (arith, is_no (get_or d q 0) 1 k, is_yes (get_or d q 0) 2 (omega (arith, two q))))))
      (λ e. rw e (omega arith))

  pub new_size : sum_to n (λ q. bit (new c d q)) + (favouring 1 c + favouring 2 c) ≡ favouring 1 d + favouring 2 d
  new_size =
      omega (
        arith,
        sum_ext n _ _ (λ q _. new_two q),
        sum_add n (λ q. bit (both (new c d q) (eqb (get_or d q 0) 1))) (λ q. bit (both (new c d q) (eqb (get_or d q 0) 2))),
        new_share 1 (omega arith),
        new_share 2 (omega arith),
      )

-- ---- the groups that the scan takes
module _ (m : List ℕ) (f : End → ℕ → ℕ) (pf : (s : End) → Pairing (odd m) (f s)) where
  -- by either side, from what holds by each
  both_sides : (P : ℕ → Type 0) → ((q : ℕ) → P q → P (f inputs q)) → ((q : ℕ) → P q → P (f links q)) → (s : End) (q : ℕ) → P q → P (f s q)
  both_sides P g h inputs = g
  both_sides P g h links = h

  -- what is settled before position a comes
  abbrev pub state : ℕ → List ℕ
  state a = scan m (f inputs) (f links) (pf inputs) (pf links) a

  pub state_settled : (a : ℕ) → Settled m (f inputs) (f links) (state a)
  state_settled a = scan_settled m (f inputs) (f links) (pf inputs) (pf links) a

  pub state_keeps : (a b : ℕ) → a ≤ b → Keeps (state a) (state b)
  state_keeps a b h = scan_keeps m (f inputs) (f links) (pf inputs) (pf links) a b h

  pub state_level : (a : ℕ) → Level (state a)
  state_level a = scan_level m (f inputs) (f links) (pf inputs) (pf links) a

  -- a group is taken at p
  abbrev pub TakesGroup : ℕ → Type 0
  TakesGroup p = GroupSettled m (f inputs) (f links) (pf inputs) (pf links) p (state p) (state (suc p))

  pub takes_cases : {P : Type 0} (p : ℕ) → (TakesGroup p → P) → (both (odd m p) (eqb (get_or (state p) p 0) 0) ≡ false → state (suc p) ≡ state p → P) → P
  takes_cases p g h = settle_cases m (f inputs) (f links) (pf inputs) (pf links) p (state p) (state_settled p).fine.len g h

  module _ (p : ℕ) (t : TakesGroup p) where
    -- what p reaches is odd, was not settled before, and is settled after
    reached_odd : (q : ℕ) → JoinedBy f p q → odd m q ≡ true
    reached_odd q j = reached_closed f p (λ r. odd m r ≡ true) t.odd_count (λ s. (pf s).odds) q j

    reached_before : (q : ℕ) → JoinedBy f p q → get_or (state p) q 0 ≡ 0
    reached_before q j =
        let st = state_settled p in
        reached_closed f p (λ r. get_or (state p) r 0 ≡ 0) t.unsettled
        (both_sides (λ r. get_or (state p) r 0 ≡ 0) (unsettled (odd m) (f inputs) (state p) (pf inputs) st.fine.two st.ins) (unsettled (odd m) (f links) (state p) (pf links) st.fine.two st.outs))
        q j

    reached_after : (q : ℕ) → JoinedBy f p q → get_or (state (suc p)) q 0 ≢ 0
    reached_after q j =
        let st = state_settled (suc p) in
        reached_closed f p (λ r. get_or (state (suc p)) r 0 ≢ 0)
        (scan_done m (f inputs) (f links) (pf inputs) (pf links) (suc p) p (omega arith) t.odd_count)
        (both_sides (λ r. get_or (state (suc p)) r 0 ≢ 0) (on (f inputs) st.ins) (on (f links) st.outs)) q j
      where
        on : (g : ℕ → ℕ) → ((r : ℕ) → Opposite g (state (suc p)) r) → (r : ℕ) → get_or (state (suc p)) r 0 ≢ 0 → get_or (state (suc p)) (g r) 0 ≢ 0
        on g good r s =
            by_eq (g r) r (λ e. rw e s)
            (λ n. let e = good r s n in let h = (state_settled (suc p)).fine.two r in omega arith)

    -- p is the first of its group
    pub takes_first : (q : ℕ) → JoinedBy f p q → p ≤ q
    takes_first q j =
        by_lt q p
        (λ l. absurd (scan_done m (f inputs) (f links) (pf inputs) (pf links) p q l (reached_odd q j) (reached_before q j)))
        (λ l. l)

    -- what is newly settled is what p reaches
    added : (q : ℕ) → get_or (state (suc p)) q 0 ≢ 0 → JoinedBy f p q ⊎ (get_or (state p) q 0 ≢ 0)
    added =
        let h = t.half in
        rw t.is
        (walk_adds (λ r. JoinedBy f p r) (λ r. get_or (state p) r 0 ≢ 0) (length m) (f links) (f inputs) p h (walk (length m) (f inputs) (f links) p h (set (state p) p h)) (step links) (step inputs) here
        (walk_adds (λ r. JoinedBy f p r) (λ r. get_or (state p) r 0 ≢ 0) (length m) (f inputs) (f links) p h (set (state p) p h) (step inputs) (step links) here
        (λ r s. by_eq r p (λ k. inl (rw k here)) (λ k. inr (rw (get_or-set_other (state p) p r h 0 k) at s)))))

    abbrev pub member : ℕ → Bool
    member = new (state p) (state (suc p))

    pub member_yes : (q : ℕ) → member q ≡ true → JoinedBy f p q
    member_yes q e =
        let b = both_true (eqb (get_or (state p) q 0) 0) (not (eqb (get_or (state (suc p)) q 0) 0)) e in
        ⊎_elim (λ j. j) (λ n. absurd (n (eqb-true (get_or (state p) q 0) 0 b.0)))
        (added q (eqb-false (get_or (state (suc p)) q 0) 0 (not-true _ b.1)))

    pub member_no : (q : ℕ) → member q ≡ false → JoinedBy f p q → ⊥
    member_no q e j =
        both_false (eqb (get_or (state p) q 0) 0) (not (eqb (get_or (state (suc p)) q 0) 0)) e
        (eq-eqb (get_or (state p) q 0) 0 (reached_before q j))
        (ap not (ne_eqb (get_or (state (suc p)) q 0) 0 (reached_after q j)))

    -- its counts, rising, and their number
    abbrev pub members : List ℕ
    members = keep member (up_from 0 (length m))

    pub members_size : length members + (favouring 1 (state p) + favouring 2 (state p)) ≡ favouring 1 (state (suc p)) + favouring 2 (state (suc p))
    members_size =
        ap (λ z. z + (favouring 1 (state p) + favouring 2 (state p))) (kept_length member (length m))
        ∙ new_size (length m) (state p) (state (suc p)) (state_settled p).fine.len (state_settled (suc p)).fine.len (state_keeps p (suc p) (omega arith)) (state_settled (suc p)).fine.two

    -- and how many of them favour the first half, in c, which keeps what is settled
    pub members_share : (c : List ℕ) → Keeps (state (suc p)) c → length (keep (λ q. eqb (get_or c q 0) 1) members) + favouring 1 (state p) ≡ favouring 1 (state (suc p))
    members_share c keeps =
        ap (λ z. z + favouring 1 (state p))
        (ap length (keep_keep member (λ q. eqb (get_or c q 0) 1) (up_from 0 (length m)))
        ∙ kept_length (λ q. both (member q) (eqb (get_or c q 0) 1)) (length m)
        ∙ sum_ext (length m) _ _ (λ q _. ap bit (alike q)))
        ∙ new_share (length m) (state p) (state (suc p)) (state_settled p).fine.len (state_settled (suc p)).fine.len (state_keeps p (suc p) (omega arith)) (state_settled (suc p)).fine.two 1 (omega arith)
      where
        alike : (q : ℕ) → both (member q) (eqb (get_or c q 0) 1) ≡ both (member q) (eqb (get_or (state (suc p)) q 0) 1)
        alike q =
            by_bool (member q)
            (λ e. rw (e, keeps q (reached_after q (member_yes q e))))
            (λ e. rw e)

  -- q is of a group that was taken before a
  abbrev pub TakenBefore : ℕ → ℕ → Type 0
  TakenBefore a q = (r : ℕ) × (r < a) × JoinedBy f r q × TakesGroup r

  taken_later : (a q : ℕ) → TakenBefore a q → TakenBefore (suc a) q
  taken_later a q l = (l.0, (let h = l.1 in omega arith), l.2, l.3)

  -- what is settled before a is
  pub taken_before : (a q : ℕ) → get_or (state a) q 0 ≢ 0 → TakenBefore a q
  taken_before zero q s = absurd (s (zero_at (length m) q))
  taken_before (suc a) q s =
      takes_cases a
      (λ t. ⊎_elim (λ j. (a, omega arith, j, t)) (λ n. taken_later a q (taken_before a q n)) (added a t q s))
      (λ e k. taken_later a q (taken_before a q (λ z. s (ap (λ c. get_or c q 0) k ∙ z))))

  -- an odd count that is first of what it reaches is taken
  pub first_takes : (p : ℕ) → odd m p ≡ true → ((q : ℕ) → JoinedBy f p q → p ≤ q) → TakesGroup p
  first_takes p od least =
      takes_cases p (λ t. t)
      (λ e k. by_eq (get_or (state p) p 0) 0
      (λ z. absurd (both_false (odd m p) (eqb (get_or (state p) p 0) 0) e od (eq-eqb (get_or (state p) p 0) 0 z)))
      (λ n.
      let l = taken_before p p n in
      let h = l.1 in
      let g = least l.0 (reached_sym f (λ s. (pf s).twice) l.0 p l.2) in
      absurd (omega arith)))

-- ---- the rule's groups are what partners reach
module _ (port : End → ℕ → ℕ) (m : List ℕ) (p : ℕ) where
  pub joined_reached : (q : ℕ) → Joined (Partnered port m) p q → JoinedBy (mate port m) p q
  joined_reached q (itself) = here
  joined_reached q (onward {q = r} j w) =
      let e = rule_partner port m r q w in
      subst (λ (t : ℕ). JoinedBy (mate port m) p t) e.there (step e.side r (joined_reached r j))
  joined_reached q (backward {q = r} j w) =
      let e = rule_partner port m q r w in
      subst (λ (t : ℕ). JoinedBy (mate port m) p t) e.back (step e.side r (joined_reached r j))

  pub reached_joined : (q : ℕ) → JoinedBy (mate port m) p q → Joined (Partnered port m) p q
  reached_joined q j =
      reached_closed (mate port m) p (λ t. Joined (Partnered port m) p t) itself
      (λ s t k. by_eq (mate port m s t) t (λ e. rw e k) (λ n. ⊎_elim (λ w. onward k w) (λ w. backward k w) (partner_rule port m s t n)))
      q j
