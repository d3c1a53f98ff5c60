-- Settling: after the scan every odd count is settled, no even one, and partners favour opposite halves.
use Prim.Native.Nat.{ℕ, suc, zero, ◌+◌, ◌≤◌, ◌<◌}
use mathlib.Core.Path.{◌≡◌, refl, sym, ap, ◌∙◌}
use mathlib.Core.Logic.{◌≢◌}
use mathlib.Core.List.{List}
use mathlib.Core.Bool.{true, false, true≢false}
use native.Mathlib.Omega.{arith}
use lib.Dec.{eqb}
use lib.ListN.{length, get_or, set, replicate, length-set, length-replicate}
use lib.Seq.{get_or-set_same, get_or-set_other}
use borrow.Author.Tests.{eqb-true, eq-eqb}
use Rattle.rules.specs.Words.{if, both, up_from}
use Rattle.rules.specs.Flows.{End, inputs, links}
use Rattle.rules.specs.Rules.{odd}
use Rattle.rules.specs.Schedule.{walk, group_of, favouring, level, settle_at, settle, favours}
use Rattle.rules.proofs.Cases.{by_bool, by_eq, both_true, both_false, within_yes, within_true}
use Rattle.rules.proofs.Lists.{zero_at}
use Rattle.rules.proofs.Partners.{odd_lt, partner_at, partner_twice}
use Rattle.rules.proofs.Singles.{mate, output_twice, output_odd}
use Rattle.rules.proofs.Favouring.{none_favour, unsettled_less}
use Rattle.rules.proofs.Walks.{Opposite, Pairing, Fine, Walked, grow, grow_fine, walk_keeps, walk_law}
use Rattle.rules.proofs.Shares.{BothWays, group_shares, Level, EvenMore, level_two, odd_two}

-- what is settled is odd, and each settled count's partner is settled with the other half
pub record Settled (m : List ℕ) (i o : ℕ → ℕ) (c : List ℕ) : Type 0 where
  pub fine : Fine (length m) (odd m) c
  pub ins : (q : ℕ) → Opposite i c q
  pub outs : (q : ℕ) → Opposite o c q

-- what c has settled, c' has settled alike
abbrev pub Keeps : List ℕ → List ℕ → Type 0
Keeps c c' = (r : ℕ) → get_or c r 0 ≢ 0 → get_or c' r 0 ≡ get_or c r 0

-- ---- before the scan nothing is settled
pub start_settled : (m : List ℕ) (i o : ℕ → ℕ) → Settled m i o (replicate (length m) 0)
start_settled m i o =
    record {
      fine = record {
        len = length-replicate (length m) 0;
        two = λ q. let a = zero_at (length m) q in omega arith;
        odds = λ q s. absurd (s (zero_at (length m) q));
      };
      ins = λ q s. absurd (s (zero_at (length m) q));
      outs = λ q s. absurd (s (zero_at (length m) q));
    }

module _ (m : List ℕ) (i o : ℕ → ℕ) (pi : Pairing (odd m) i) (po : Pairing (odd m) o) where
  -- from an odd count p, not settled
  module _ (h : ℕ) (low : 1 ≤ h) (high : h ≤ 2) (p : ℕ) (c : List ℕ) (od : odd m p ≡ true) (z : get_or c p 0 ≡ 0) (st : Settled m i o c) where
    start : get_or (set c p h) p 0 ≡ h
    start = get_or-set_same c p h 0 (let l = odd_lt m p od in omega arith)

    walked_in : Walked (length m) (odd m) i o (length m) p (walk (length m) i o p h (set c p h))
    walked_in =
        let e = start in
        walk_law (length m) (odd m) (odd_lt m) (length m) i o p h (length m) p (set c p h) pi po
        (record {
          fine = grow_fine (length m) (odd m) c p h (odd_lt m p od) (omega arith) od st.fine;
          low = low;
          high = high;
          head = e;
          goes = λ q qp qx. grow i c p h q st.fine.two z qp (st.ins q);
          backs = λ q qp. grow o c p h q st.fine.two z qp (st.outs q);
          at_x = λ h. absurd (omega arith);
          at_y = λ h. e;
        })
        (omega (arith, unsettled_less (set c p h) p (omega arith), length-set c p h, st.fine.len))

    start_in : get_or (walk (length m) i o p h (set c p h)) p 0 ≡ h
    start_in = let e = start in walk_keeps (length m) i o p h (set c p h) p (omega arith) ∙ e

    walked_out : Walked (length m) (odd m) o i (length m) (length m) (group_of i o m h p c)
    walked_out =
        let w = walked_in in
        let e = start_in in
        let c2 = walk (length m) i o p h (set c p h) in
        walk_law (length m) (odd m) (odd_lt m) (length m) o i p h (length m) (length m) c2 po pi
        (record {
          fine = w.fine;
          low = low;
          high = high;
          head = e;
          goes = λ q qp qx. w.backs q qp;
          backs = λ q qx. w.goes q qx;
          at_x = λ h. absurd (omega arith);
          at_y = λ h. absurd (omega arith);
        })
        (omega (arith, unsettled_less c2 p (omega arith), w.fine.len))

    group_is_settled : Settled m i o (group_of i o m h p c)
    group_is_settled =
        let w = walked_out in
        let off : (q : ℕ) → get_or (group_of i o m h p c) q 0 ≢ 0 → q ≢ length m = λ q s. let l = odd_lt m q (w.fine.odds q s) in omega arith in
        record { fine = w.fine; ins = λ q s. w.backs q (off q s) s; outs = λ q s. w.goes q (off q s) s }

    group_keeps : Keeps c (group_of i o m h p c)
    group_keeps r s =
        let ne : r ≢ p = λ k. s (ap (λ (t : ℕ). get_or c t 0) k ∙ z) in
        let a = get_or-set_other c p r h 0 ne in
        let b = walk_keeps (length m) i o p h (set c p h) r (omega arith) in
        let d = walk_keeps (length m) o i p h (walk (length m) i o p h (set c p h)) r (omega arith) in
        omega arith

    pub group_first : get_or (group_of i o m h p c) p 0 ≡ h
    group_first = let e = start_in in walk_keeps (length m) o i p h (walk (length m) i o p h (set c p h)) p (omega arith) ∙ e

  -- the group of p is taken, and c becomes d
  pub record GroupSettled (p : ℕ) (c d : List ℕ) : Type 0 where
    pub odd_count : odd m p ≡ true
    pub unsettled : get_or c p 0 ≡ 0
    pub half : ℕ
    pub low : 1 ≤ half
    pub high : half ≤ 2
    pub is : d ≡ group_of i o m half p c
    pub level : Level c → Level d
    pub even_first : Level c → EvenMore c d → half ≡ 1

  take_group : (p : ℕ) (c : List ℕ) → length c ≡ length m → odd m p ≡ true → get_or c p 0 ≡ 0
      → GroupSettled p c (if (level (group_of i o m 1 p c)) (group_of i o m 1 p c) (group_of i o m 2 p c))
  take_group p c len od z =
      by_bool (level one)
      (λ e. rw e (record {
        odd_count = od;
        unsettled = z;
        half = 1;
        low = omega arith;
        high = omega arith;
        is = refl;
        level = λ l. within_true (favouring 2 one) (favouring 2 one + 1) (favouring 1 one) e;
        even_first = λ l k. refl;
      }))
      (λ e. rw e (record {
        odd_count = od;
        unsettled = z;
        half = 2;
        low = omega arith;
        high = omega arith;
        is = refl;
        level = λ l. level_two shares l (no e);
        even_first = λ l k. absurd (odd_two shares l (no e) k);
      }))
    where
      one : List ℕ
      one = group_of i o m 1 p c

      shares : BothWays c one (group_of i o m 2 p c)
      shares = group_shares (length m) (odd m) (odd_lt m) i o m p c pi po refl len od z

      no : level one ≡ false → Level one → ⊥
      no e l = true≢false (sym (within_yes (favouring 2 one) (favouring 2 one + 1) (favouring 1 one) l.0 l.1) ∙ e)

  -- one position of the scan: either it is odd and not settled, and its group is taken, or nothing changes
  pub settle_cases : {P : Type 0} (p : ℕ) (c : List ℕ) → length c ≡ length m → (GroupSettled p c (settle_at i o m p c) → P)
      → (both (odd m p) (eqb (get_or c p 0) 0) ≡ false → settle_at i o m p c ≡ c → P) → P
  unfolding settle_at
  settle_cases p c len f g =
      by_bool (both (odd m p) (eqb (get_or c p 0) 0))
      (λ e. let t = both_true (odd m p) (eqb (get_or c p 0) 0) e in f (rw (e, settle_at) (take_group p c len t.0 (eqb-true (get_or c p 0) 0 t.1))))
      (λ e. g e (rw (e, settle_at)))

  pub settle_one : (p : ℕ) (c : List ℕ) → Settled m i o c
      → (Settled m i o (settle_at i o m p c)) × (Keeps c (settle_at i o m p c)) × (odd m p ≡ true → get_or (settle_at i o m p c) p 0 ≢ 0)
  settle_one p c st =
      settle_cases p c st.fine.len
      (λ t.
      let first = group_first t.half t.low t.high p c t.odd_count t.unsettled st in
      let low = t.low in
      rw t.is (
        group_is_settled t.half t.low t.high p c t.odd_count t.unsettled st,
        group_keeps t.half t.low t.high p c t.odd_count t.unsettled st,
        λ _ z. absurd (omega arith),
      ))
      (λ e k. rw k (st, (λ r s. refl), λ t z. both_false (odd m p) (eqb (get_or c p 0) 0) e t (eq-eqb (get_or c p 0) 0 z)))

  -- ---- the scan: after the first a positions
  abbrev pub scan : ℕ → List ℕ
  scan zero = replicate (length m) 0
  scan (suc a) = settle_at i o m a (scan a)

  scan_from : (k a b : ℕ) → b ≡ k + a → settle i o m (up_from a k) (scan a) ≡ scan b
  scan_from zero a b e = let f : a ≡ b = omega arith in ap scan f
  scan_from (suc k) a b e = scan_from k (suc a) b (omega arith)

  pub scan_settled : (a : ℕ) → Settled m i o (scan a)
  scan_settled zero = start_settled m i o
  scan_settled (suc a) = (settle_one a (scan a) (scan_settled a)).0

  pub scan_keeps : (a b : ℕ) → a ≤ b → Keeps (scan a) (scan b)
  scan_keeps zero zero h r s = refl
  scan_keeps (suc a) zero h r s = absurd (omega arith)
  scan_keeps a (suc b) h r s =
      by_eq a (suc b) (λ e. rw e)
      (λ n.
      let e = scan_keeps a b (omega arith) r s in
      (settle_one b (scan b) (scan_settled b)).1 r (λ z. s (sym e ∙ z)) ∙ e)

  pub scan_done : (a q : ℕ) → q < a → odd m q ≡ true → get_or (scan a) q 0 ≢ 0
  scan_done zero q h e = absurd (omega arith)
  scan_done (suc a) q h e =
      let s = settle_one a (scan a) (scan_settled a) in
      by_eq q a (λ k. rw k (s.2 (rw k at e)))
      (λ k. let n = scan_done a q (omega arith) e in λ z. n (sym (s.1 q n) ∙ z))

  pub scan_level : (a : ℕ) → Level (scan a)
  scan_level zero =
      let x = none_favour 1 (length m) (omega arith) in
      let y = none_favour 2 (length m) (omega arith) in
      omega arith
  scan_level (suc a) = let l = scan_level a in settle_cases a (scan a) (scan_settled a).fine.len (λ t. t.level l) (λ e k. rw k l)

-- ---- the whole
pub pairings : (port : End → ℕ → ℕ) (m : List ℕ) (s : End) → Pairing (odd m) (mate port m s)
pairings port m inputs = record { twice = partner_twice (port inputs) m; odds = λ p o. (partner_at (port inputs) m p o).0 }
pairings port m links = record { twice = output_twice (port links) m; odds = output_odd (port links) m }

-- each count has the half that it favours, an even one 0, and partners on a side favour opposite halves
pub record Favoured (m : List ℕ) (mate : End → ℕ → ℕ) (c : List ℕ) : Type 0 where
  pub len : length c ≡ length m
  pub evens : (q : ℕ) → odd m q ≡ false → get_or c q 0 ≡ 0
  pub low : (q : ℕ) → odd m q ≡ true → 1 ≤ get_or c q 0
  pub high : (q : ℕ) → get_or c q 0 ≤ 2
  pub mates : (s : End) (q : ℕ) → odd m q ≡ true → mate s q ≢ q → get_or c (mate s q) 0 + get_or c q 0 ≡ 3

-- what the counts favour is what the scan leaves
pub favours_scan : (port : End → ℕ → ℕ) (m : List ℕ)
    → favours port m ≡ scan m (mate port m inputs) (mate port m links) (pairings port m inputs) (pairings port m links) (length m)
unfolding favours
favours_scan port m =
    scan_from m (mate port m inputs) (mate port m links) (pairings port m inputs) (pairings port m links) (length m) 0 (length m) (omega arith)

pub favours_law : (port : End → ℕ → ℕ) (m : List ℕ) → Favoured m (mate port m) (favours port m)
favours_law port m =
    record {
      len = st.fine.len;
      evens = λ q e. by_eq (get_or (favours port m) q 0) 0 (λ h. h) (λ h. absurd (true≢false (sym (st.fine.odds q h) ∙ e)));
      low = λ q e. let a = done q e in omega arith;
      high = st.fine.two;
      mates = sides;
    }
  where
    i : ℕ → ℕ
    i = mate port m inputs

    o : ℕ → ℕ
    o = mate port m links

    pi : Pairing (odd m) i
    pi = pairings port m inputs

    po : Pairing (odd m) o
    po = pairings port m links

    st : Settled m i o (favours port m)
    st = rw (favours_scan port m) (scan_settled m i o pi po (length m))

    done : (q : ℕ) → odd m q ≡ true → get_or (favours port m) q 0 ≢ 0
    done q e = rw (favours_scan port m) (scan_done m i o pi po (length m) q (odd_lt m q e) e)

    sides : (s : End) (q : ℕ) → odd m q ≡ true → mate port m s q ≢ q → get_or (favours port m) (mate port m s q) 0 + get_or (favours port m) q 0 ≡ 3
    sides inputs q e = st.ins q (done q e)
    sides links q e = st.outs q (done q e)

-- as many favour the first half as the second, or one more
pub favours_level : (port : End → ℕ → ℕ) (m : List ℕ) → Level (favours port m)
favours_level port m =
    rw (favours_scan port m) (scan_level m (mate port m inputs) (mate port m links) (pairings port m inputs) (pairings port m links) (length m))
