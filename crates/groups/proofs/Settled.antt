-- One more group settled.
use Prim.Native.Nat.{ℕ, ◌+◌, ◌-◌, ◌/◌, ◌%◌, ◌≤◌, ◌<◌}
use mathlib.Core.Path.{◌≡◌, refl, sym, ap, ◌∙◌}
use mathlib.Core.Logic.{◌≢◌}
use mathlib.Core.List.{List, [], ◌∷◌, ◌++◌}
use mathlib.Core.Bool.{true, false}
use native.Mathlib.Omega.{arith}
use native.Mathlib.Numerals.{add-one}
use borrow.Author.Tests.{eq-eqb, ne_eqb}
use lib.ListN.{length, get_or, set, take, replicate, length-set}
use lib.Seq.{take-suc, take-length}
use Rattle.rules.specs.Schedule.{favouring, level}
use Rattle.rules.proofs.Cases.{by_eq, within_yes, within_below, within_above}
use Rattle.rules.proofs.Favouring.{favouring_more, favouring_same}
use Rattle.rules.proofs.Shares.{Alike, alike_set, same_shares}
use Rattle.planes.specs.Tables.{Wide}
use Rattle.planes.specs.Favours.{other_half}
use Rattle.groups.specs.Steps.{Reaches, ReachesBoth, ReachesAll, stepped, walked, WalkedBy, Walks, both_ways, group_settled, larger_half, Next, Settles, all_settled, SettledBy}
use Rattle.planes.proofs.Lists.{every_get}
use Rattle.groups.proofs.Stepped.{stepped_alike, ways, ways_length, ways_again}

-- ---- whose turn it is
next_level : (half : ℕ) (c : List ℕ) → Next half c → level c ≡ true
next_level half c t = let l = t.low in let h = t.high in let a = t.ahead in within_yes (favouring 2 c) (favouring 2 c + 1) (favouring 1 c) (omega arith) (omega arith)

-- a group of an odd number of counts gives one half one more: that of its first count, where either walk settles an even number
own_larger : (a b : ℕ) → (a + b) % 2 ≡ 0 → a % 2 ≡ 0 → 1 + a / 2 + b / 2 ≡ (a + 1) / 2 + (b + 1) / 2 + 1
own_larger a b e f = omega arith

other_larger : (a b : ℕ) → (a + b) % 2 ≡ 0 → a % 2 ≡ 1 → (a + 1) / 2 + (b + 1) / 2 ≡ 1 + a / 2 + b / 2 + 1
other_larger a b e f = omega arith

larger_even : (n : ℕ) → n % 2 ≡ 0 → larger_half n ≡ 1
larger_even n e = rw (eq-eqb (n % 2) 0 e)

larger_odd : (n : ℕ) → n % 2 ≢ 0 → larger_half n ≡ 2
larger_odd n e = rw (ne_eqb (n % 2) 0 e)

other_one : (h : ℕ) → h ≡ 1 → other_half h ≡ 2
other_one h e = rw (eq-eqb h 1 e)

other_two : (h : ℕ) → h ≢ 1 → other_half h ≡ 1
other_two h e = rw (ne_eqb h 1 e)

-- ---- the group of a count
module _ (i o : ℕ → ℕ) {p half : ℕ} {c : List ℕ} (len : Wide c) (t : Next half c) where
  pub group_off : get_or c p 0 ≢ 0 → Settles i o p c half c
  unfolding group_settled
  group_off z = record { len = len; next = t; same = rw (ne_eqb (get_or c p 0) 0 z) }

  module _ (z : get_or c p 0 ≡ 0) (by_inputs : Reaches i o p) (by_links : Reaches o i p)
      {a : ℕ} {d : List ℕ} (first : Walks i o p (set c p 1) a d) {b : ℕ} {one : List ℕ} (second : Walks o i p d b one) where
    p_in : p < length c
    p_in = omega (arith, by_inputs.low 0)

    -- with the first count favouring half h, either walk settles what it settles here
    start_alike : (h : ℕ) → h ≢ 0 → Alike (set c p 1) (set c p h)
    start_alike h n = alike_set c c p 1 h (record { len = refl; there = λ q e. e; back = λ q e. e }) p_in (omega arith) n

    abbrev way : ℕ → List ℕ
    way h = ways i o p a b h c

    module _ (h : ℕ) (low : 1 ≤ h) (high : h ≤ 2) where
      by_first : WalkedBy i o p h (set c p h) a (stepped i o p h a (set c p h))
      by_first = first.whole h low high (set c p h) (start_alike h (omega arith))

      by_second : WalkedBy o i p h (stepped i o p h a (set c p h)) b (way h)
      by_second =
          second.whole h low high (stepped i o p h a (set c p h))
          (rw first.same (stepped_alike i o p by_inputs 1 h a (set c p 1) (set c p h) (length-set c p 1 ∙ len) (omega arith) (omega arith) low high (start_alike h (omega arith))))

      way_is : way h ≡ both_ways i o h p c
      way_is = by_second.same ∙ ap (walked o i p h) by_first.same

      way_own : favouring h (way h) ≡ favouring h c + (1 + a / 2 + b / 2)
      way_own = omega (arith, by_first.own, by_second.own, favouring_more h c p h p_in z (omega arith) refl)

      way_other : favouring (3 - h) (way h) ≡ favouring (3 - h) c + ((a + 1) / 2 + (b + 1) / 2)
      way_other = omega (arith, by_first.other, by_second.other, favouring_same (3 - h) c p h p_in z (omega arith) (omega arith))

    one_is : one ≡ way 1
    one_is = second.same ∙ ap (stepped o i p 1 b) first.same

    way_length : (h : ℕ) → Wide (way h)
    way_length h = ways_length i o p a b h c ∙ len

    one_first : favouring 1 (way 1) ≡ favouring 1 c + (1 + a / 2 + b / 2)
    one_first = way_own 1 (omega arith) (omega arith)

    one_second : favouring 2 (way 1) ≡ favouring 2 c + ((a + 1) / 2 + (b + 1) / 2)
    one_second = way_other 1 (omega arith) (omega arith)

    two_first : favouring 1 (way 2) ≡ favouring 1 c + ((a + 1) / 2 + (b + 1) / 2)
    two_first = way_other 2 (omega arith) (omega arith)

    two_second : favouring 2 (way 2) ≡ favouring 2 c + (1 + a / 2 + b / 2)
    two_second = way_own 2 (omega arith) (omega arith)

    -- one way round leaves the halves level, or it does not and the other does
    one_settles : (v : ℕ) → Next v (way 1) → Settles i o p c v one
    unfolding group_settled
    one_settles v u =
        rw one_is (record {
          len = way_length 1;
          next = u;
          same = way_is 1 (omega arith) (omega arith) ∙ rw (eq-eqb (get_or c p 0) 0 z, ap level (sym (way_is 1 (omega arith) (omega arith))) ∙ next_level v (way 1) u);
        })

    two_settles : (v : ℕ) → Next v (way 2) → level (way 1) ≡ false → Settles i o p c v (way 2)
    unfolding group_settled
    two_settles v u e =
        record {
          len = way_length 2;
          next = u;
          same = way_is 2 (omega arith) (omega arith) ∙ rw (eq-eqb (get_or c p 0) 0 z, ap level (sym (way_is 1 (omega arith) (omega arith))) ∙ e);
        }

    pub group_even : (a + b) % 2 ≡ 1 → Settles i o p c half one
    group_even e =
        let same = same_shares 0 a b (omega arith) in
        one_settles half (record { low = t.low; high = t.high; ahead = omega (arith, t.ahead, one_first, one_second) })

    module _ (odd_number : (a + b) % 2 ≢ 1) where
      even_steps : (a + b) % 2 ≡ 0
      even_steps = omega arith

      pub group_right : {l v : ℕ} → l ≡ larger_half a → l ≡ half → v ≡ other_half half → Settles i o p c v one
      group_right {l} {v} f r g =
          by_eq (a % 2) 0
          (λ e.
          let h : half ≡ 1 = sym r ∙ f ∙ larger_even a e in
          let w : v ≡ 2 = g ∙ other_one half h in
          let x = own_larger a b even_steps e in
          one_settles v (record { low = omega arith; high = omega arith; ahead = omega (arith, t.ahead, one_first, one_second) }))
          (λ e.
          let h : half ≡ 2 = sym r ∙ f ∙ larger_odd a e in
          let w : v ≡ 1 = g ∙ other_two half (omega arith) in
          let x = other_larger a b even_steps (omega arith) in
          one_settles v (record { low = omega arith; high = omega arith; ahead = omega (arith, t.ahead, one_first, one_second) }))

      flipped_settles : (v : ℕ) → larger_half a ≢ half → v ≡ other_half half → Settles i o p c v (way 2)
      flipped_settles v r g =
          let low = t.low in
          let high = t.high in
          by_eq (a % 2) 0
          (λ e.
          let d = larger_even a e in
          let h : half ≡ 2 = omega arith in
          let w : v ≡ 1 = g ∙ other_two half (omega arith) in
          let x = own_larger a b even_steps e in
          two_settles v
          (record { low = omega arith; high = omega arith; ahead = omega (arith, t.ahead, two_first, two_second) })
          (within_above (favouring 2 (way 1)) (favouring 2 (way 1) + 1) (favouring 1 (way 1)) (omega (arith, t.ahead, one_first, one_second)) (omega (arith, t.ahead, one_first, one_second))))
          (λ e.
          let d = larger_odd a e in
          let h : half ≡ 1 = omega arith in
          let w : v ≡ 2 = g ∙ other_one half h in
          let x = other_larger a b even_steps (omega arith) in
          two_settles v
          (record { low = omega arith; high = omega arith; ahead = omega (arith, t.ahead, two_first, two_second) })
          (within_below (favouring 2 (way 1)) (favouring 2 (way 1) + 1) (favouring 1 (way 1)) (omega (arith, t.ahead, one_first, one_second))))

      -- the first count favours the second half, and both walks are gone again
      pub group_flipped : {l v : ℕ} {e f : List ℕ} → l ≡ larger_half a → l ≢ half → v ≡ other_half half
          → e ≡ stepped i o p 2 a (set one p 2) → f ≡ stepped o i p 2 b e → Settles i o p c v f
      group_flipped {l} {v} {e} {f} k r g ee ef =
          let again : f ≡ way 2 = ef ∙ ap (stepped o i p 2 b) (ee ∙ ap (λ (x : List ℕ). stepped i o p 2 a (set x p 2)) one_is)
          ∙ ways_again i o p a b by_inputs by_links 2 1 c len in
          rw again (flipped_settles v (rw k at r) g)

-- ---- before the first group
pub next_start : {c : List ℕ} → c ≡ replicate 528 0 → Next 1 c
next_start e =
    record {
      low = omega arith;
      high = omega arith;
      ahead = rw e;
    }

pub settled_start : {i o : ℕ → ℕ} (odds : List ℕ) {c : List ℕ} → c ≡ replicate 528 0 → SettledBy i o (take 0 odds) c c
settled_start odds e = record { len = rw e; same = refl }

-- ---- one group more
all_snoc : (i o : ℕ → ℕ) (l : List ℕ) (p : ℕ) (c : List ℕ) → all_settled i o (l ++ (p ∷ [])) c ≡ group_settled i o p (all_settled i o l c)
all_snoc i o [] p c = refl
all_snoc i o (x ∷ l) p c = all_snoc i o l p (group_settled i o x c)

module _ (odds : List ℕ) {j p : ℕ} (a : j < length odds) (e : p ≡ get_or odds j 0) where
  pub reaches_next : {mates : List ℕ} → ReachesAll mates odds → ReachesBoth mates p
  reaches_next {mates} r = rw e (every_get (ReachesBoth mates) j (length odds) odds (rw (take-length odds) r) a a)

  pub settled_on : {i o : ℕ → ℕ} {c₀ c d : List ℕ} {v : ℕ} → SettledBy i o (take j odds) c₀ c → Settles i o p c v d → SettledBy i o (take (j + 1) odds) c₀ d
  settled_on {i} {o} {c₀} {c} {d} s f =
      record { len = f.len; same = f.same ∙ rw (add-one, take-suc odds j 0 a, all_snoc i o (take j odds) (get_or odds j 0) c₀, ← s.same, e) }

pub settled_end : {i o : ℕ → ℕ} {odds c₀ : List ℕ} {j : ℕ} {c : List ℕ} → SettledBy i o (take j odds) c₀ c → j ≡ length odds → SettledBy i o odds c₀ c
settled_end {i} {o} {odds} {c₀} {j} {c} s e =
    let all : take j odds ≡ odds = ap (λ (n : ℕ). take n odds) e ∙ take-length odds in
    record { len = s.len; same = s.same ∙ ap (λ (l : List ℕ). all_settled i o l c₀) all }
