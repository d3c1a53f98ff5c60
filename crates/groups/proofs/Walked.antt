-- The walk, step by step: from where it stands it does what is left to do, with fuel for each count not settled.
use Prim.Native.Nat.{ℕ, suc, zero, ◌+◌, ◌-◌, ◌/◌, ◌%◌, ◌≤◌, ◌<◌}
use mathlib.Core.Path.{◌≡◌, refl, sym, ap, ◌∙◌}
use mathlib.Core.Logic.{◌≢◌}
use mathlib.Core.List.{List}
use mathlib.Core.Bool.{Bool, true, false, not}
use native.Mathlib.Numerals.{add-one}
use lib.Dec.{eqb}
use borrow.Author.Tests.{eq-eqb, ne_eqb}
use Rattle.rules.specs.Words.{if}
use Rattle.rules.proofs.Cases.{by_bool, by_eq}
use Rattle.planes.specs.declared.favours.Favour as told
use Rattle.planes.specs.declared.favours.Favour.TheVariants.{First, Second}
use Rattle.planes.specs.Favours.{favour_number, favour_numbers, other_half}
use Rattle.planes.proofs.Halves.{numbers_set, wide_set, settled_yes, settled_no}
use native.Mathlib.Omega.{arith}
use lib.ListN.{length, get_or, set, length-set}
use Rattle.rules.specs.Schedule.{walk, favouring}
use Rattle.rules.proofs.Favouring.{settled_less, unsettled_most, favouring_more, favouring_same}
use Rattle.rules.proofs.Shares.{Alike}
use Rattle.rules.proofs.Walks.{walk_on, walk_off}
use Rattle.planes.specs.Tables.{Wide, lookup}
use Rattle.groups.specs.Steps.{reached, Reaches, stepped, walked, WalkedBy, Walks}
use Rattle.groups.proofs.Stepped.{reached_near, reached_far, stepped_near, stepped_far, stepped_alike}

walk_one : (go back : ℕ → ℕ) (p h q d : ℕ) (c : List ℕ) → q ≡ go p → q < length c → get_or c q 0 ≡ 0 → h < 3
    → walk (favouring 0 c + d) go back p h c ≡ walk (favouring 0 (set c q (3 - h)) + d) back go q (3 - h) (set c q (3 - h))
walk_one go back p h q d c e l z h3 =
    let s = settled_less c q (3 - h) l z (omega arith) in
    let f : favouring 0 c + d ≡ suc (favouring 0 (set c q (3 - h)) + d) = omega arith in
    let z' = rw e at z in
    rw (f, e) (walk_on (favouring 0 (set c (go p) (3 - h)) + d) go back p h c z')

pub walk_end : (k : ℕ) (go back : ℕ → ℕ) (p h q : ℕ) (c : List ℕ) → q ≡ go p → get_or c q 0 ≢ 0 → walk k go back p h c ≡ c
unfolding walk
walk_end zero go back p h q c e z = refl
walk_end (suc k) go back p h q c e z = walk_off k go back p h c (rw e at z)

-- the walk in c₀, whose start favours half, goes on from p in c, with the same number of counts for either half by now
pub record Along (near far : ℕ → ℕ) (start half : ℕ) (c₀ : List ℕ) (p : ℕ) (c : List ℕ) (steps : ℕ) : Type 0 where
  pub same : walked near far start half c₀ ≡ walk (favouring 0 c + (length c₀ - favouring 0 c₀)) near far p half c
  pub own : favouring half c ≡ favouring half c₀ + steps / 2
  pub other : favouring (3 - half) c ≡ favouring (3 - half) c₀ + steps / 2

along_start : (near far : ℕ → ℕ) (start half : ℕ) (c : List ℕ) → Along near far start half c start c 0
along_start near far start half c =
    let e : favouring 0 c + (length c - favouring 0 c) ≡ length c = omega (arith, unsettled_most c) in
    record { same = rw e; own = omega arith; other = omega arith }

module _ (near far : ℕ → ℕ) (start half : ℕ) (c₀ : List ℕ) (p : ℕ) (c : List ℕ) (steps : ℕ) (g : Along near far start half c₀ p c steps)
    (low : 1 ≤ half) (high : half ≤ 2) (even : steps % 2 ≡ 0) (len : Wide c) where
  abbrev fuel : ℕ
  fuel = length c₀ - favouring 0 c₀

  -- to the next, which is settled
  along_stop : get_or c (near p) 0 ≢ 0 → WalkedBy near far start half c₀ steps c
  along_stop z =
      record {
        same = sym (g.same ∙ walk_end (favouring 0 c + fuel) near far p half (near p) c refl z);
        own = g.own;
        other = omega (arith, g.other);
      }

  module _ (q_lt : near p < 528) (z : get_or c (near p) 0 ≡ 0) where
    abbrev once : List ℕ
    once = set c (near p) (3 - half)

    q_in : near p < length c
    q_in = omega arith

    same_once : walked near far start half c₀ ≡ walk (favouring 0 once + fuel) far near (near p) (3 - half) once
    same_once = g.same ∙ walk_one near far p half (near p) fuel c refl q_in z (omega arith)

    own_once : favouring half once ≡ favouring half c₀ + steps / 2
    own_once = omega (arith, g.own, favouring_same half c (near p) (3 - half) q_in z (omega arith) (omega arith))

    other_once : favouring (3 - half) once ≡ favouring (3 - half) c₀ + steps / 2 + 1
    other_once = omega (arith, g.other, favouring_more (3 - half) c (near p) (3 - half) q_in z (omega arith) refl)

    -- to the one after it, which is settled
    along_stop_2 : get_or once (far (near p)) 0 ≢ 0 → WalkedBy near far start half c₀ (steps + 1) once
    along_stop_2 y =
        record {
          same = sym (same_once ∙ walk_end (favouring 0 once + fuel) far near (near p) (3 - half) (far (near p)) once refl y);
          own = omega (arith, own_once);
          other = omega (arith, other_once);
        }

    along_on : far (near p) < 528 → get_or once (far (near p)) 0 ≡ 0 → Along near far start half c₀ (far (near p)) (set once (far (near p)) half) (steps + 1 + 1)
    along_on r_lt y =
        let r = far (near p) in
        let back_to : 3 - (3 - half) ≡ half = omega arith in
        let r_in : r < length once = omega (arith, length-set c (near p) (3 - half)) in
        record {
          same = same_once
              ∙ walk_one far near (near p) (3 - half) r fuel once refl r_in y (omega arith)
              ∙ ap (λ (h : ℕ). walk (favouring 0 (set once r h) + fuel) near far r h (set once r h)) back_to;
          own = omega (arith, own_once, favouring_more half once r half r_in y (omega arith) refl);
          other = omega (arith, other_once, favouring_same (3 - half) once r half r_in y (omega arith) (omega arith));
        }

-- ---- the walk from a count that favours the first half, and that from a start which favours either, where the same counts were settled
pub record Walking (near far : ℕ → ℕ) (start : ℕ) (c₀ : List ℕ) (p steps : ℕ) (c : List ℕ) : Type 0 where
  pub within : Reaches near far start
  pub begun : Wide c₀
  pub low : p < 528
  pub place : p ≡ reached near far start steps
  pub even : steps % 2 ≡ 0
  pub len : Wide c
  pub left : favouring 0 c + steps ≤ 528
  pub same : c ≡ stepped near far start 1 steps c₀
  pub along : (h : ℕ) → 1 ≤ h → h ≤ 2 → (d : List ℕ) → Alike c₀ d → Along near far start h d p (stepped near far start h steps d) steps

pub walking_start : (near far : ℕ → ℕ) {start : ℕ} {c : List ℕ} → Reaches near far start → Wide c → Walking near far start c start 0 c
walking_start near far {start} {c} within len =
    record {
      within = within;
      begun = len;
      low = within.low 0;
      place = refl;
      even = refl;
      len = len;
      left = omega (arith, unsettled_most c);
      same = refl;
      along = λ h low high d a. along_start near far start h d;
    }

module _ {near far : ℕ → ℕ} {start : ℕ} {c₀ : List ℕ} {p steps : ℕ} {c : List ℕ} (w : Walking near far start c₀ p steps c) {q : ℕ} (e : q ≡ near p) where
  within : Reaches near far start
  within = w.within

  len₀ : Wide c₀
  len₀ = w.begun

  next_near : reached near far start (steps + 1) ≡ q
  next_near = reached_near near far start steps w.even ∙ ap near (sym w.place) ∙ sym e

  pub walking_at : q < 528
  walking_at = rw (sym next_near) (within.low (steps + 1))

  -- the same walk from another start, as far as it has come
  module _ (h : ℕ) (low : 1 ≤ h) (high : h ≤ 2) (d : List ℕ) (a : Alike c₀ d) where
    abbrev other : List ℕ
    other = stepped near far start h steps d

    other_alike : Alike c other
    other_alike = rw w.same (stepped_alike near far start within 1 h steps c₀ d len₀ (omega arith) (omega arith) low high a)

    other_len : Wide other
    other_len = omega (arith, other_alike.len, w.len)

  pub walking_stop : get_or c q 0 ≢ 0 → Walks near far start c₀ steps c
  walking_stop z =
      record {
        len = w.len;
        few = omega (arith, w.left);
        same = w.same;
        whole = λ h low high d a.
            along_stop near far start h d p (other h low high d a) steps (w.along h low high d a) low high w.even (other_len h low high d a)
            (rw (sym e) (λ y. z ((other_alike h low high d a).back q y)));
      }

  module _ (z : get_or c q 0 ≡ 0) where
    other_zero : (h : ℕ) (low : 1 ≤ h) (high : h ≤ 2) (d : List ℕ) (a : Alike c₀ d) → get_or (other h low high d a) (near p) 0 ≡ 0
    other_zero h low high d a = rw (sym e) ((other_alike h low high d a).there q z)

    once_is : (h : ℕ) (d : List ℕ) → stepped near far start h (steps + 1) d ≡ set (stepped near far start h steps d) (near p) (3 - h)
    once_is h d = stepped_near near far start steps h d w.even ∙ ap (λ (x : ℕ). set (stepped near far start h steps d) (near x) (3 - h)) (sym w.place)

    less : suc (favouring 0 (set c q 2)) ≡ favouring 0 c
    less = settled_less c q 2 (omega (arith, walking_at, w.len)) z (omega arith)

    pub walking_room : steps < 528
    walking_room = omega (arith, w.left, less)

    settled_once : set c q 2 ≡ stepped near far start 1 (steps + 1) c₀
    settled_once = rw (once_is 1 c₀, sym w.same, e)

    module _ {r : ℕ} (f : r ≡ far q) where
      next_far : reached near far start (steps + 1 + 1) ≡ r
      next_far = reached_far near far start (steps + 1) (omega (arith, w.even)) ∙ ap far next_near ∙ sym f

      pub walking_at_2 : r < 528
      walking_at_2 = rw (sym next_far) (within.low (steps + 1 + 1))

      r_is : far (near p) ≡ r
      r_is = ap far (sym e) ∙ sym f

      once_alike : (h : ℕ) → 1 ≤ h → h ≤ 2 → (d : List ℕ) → Alike c₀ d → Alike (set c q 2) (set (stepped near far start h steps d) (near p) (3 - h))
      once_alike h low high d a =
          rw (settled_once, sym (once_is h d)) (stepped_alike near far start within 1 h (steps + 1) c₀ d len₀ (omega arith) (omega arith) low high a)

      pub walking_stop_2 : get_or (set c q 2) r 0 ≢ 0 → Walks near far start c₀ (steps + 1) (set c q 2)
      walking_stop_2 y =
          record {
            len = length-set c q 2 ∙ w.len;
            few = omega (arith, walking_room);
            same = settled_once;
            whole = λ h low high d a.
                rw (once_is h d) (along_stop_2 near far start h d p (other h low high d a) steps (w.along h low high d a) low high w.even (other_len h low high d a)
                (rw (sym e) walking_at) (other_zero h low high d a) (rw r_is (λ x. y ((once_alike h low high d a).back r x))));
          }

      module _ (y : get_or (set c q 2) r 0 ≡ 0) where
        less_2 : suc (favouring 0 (set (set c q 2) r 1)) ≡ favouring 0 (set c q 2)
        less_2 = settled_less (set c q 2) r 1 (omega (arith, walking_at_2, length-set c q 2, w.len)) y (omega arith)

        pub walking_room_2 : steps + 1 < 528
        walking_room_2 = omega (arith, w.left, less, less_2)

        twice_is : (h : ℕ) (d : List ℕ) → stepped near far start h (steps + 1 + 1) d ≡ set (set (stepped near far start h steps d) (near p) (3 - h)) (far (near p)) h
        twice_is h d =
            stepped_far near far start (steps + 1) h d (omega (arith, w.even))
            ∙ ap (λ (x : ℕ). set (stepped near far start h (steps + 1) d) (far x) h) (next_near ∙ e)
            ∙ ap (λ (l : List ℕ). set l (far (near p)) h) (once_is h d)

        pub walking_on : Walking near far start c₀ r (steps + 1 + 1) (set (set c q 2) r 1)
        walking_on =
            record {
              within = within;
              begun = len₀;
              low = walking_at_2;
              place = sym next_far;
              even = omega (arith, w.even);
              len = length-set (set c q 2) r 1 ∙ length-set c q 2 ∙ w.len;
              left = omega (arith, w.left, less, less_2);
              same = rw (twice_is 1 c₀, sym w.same, r_is, e);
              along = λ h low high d a.
                  rw (twice_is h d, sym r_is) (along_on near far start h d p (other h low high d a) steps (w.along h low high d a) low high w.even (other_len h low high d a)
                  (rw (sym e) walking_at) (other_zero h low high d a) (rw r_is walking_at_2) (rw r_is ((once_alike h low high d a).there r y)));
            }

        pub walking_less : favouring 0 (set (set c q 2) r 1) < favouring 0 c
        walking_less = omega (arith, less, less_2)

-- the same by the halves, as they stand in the list
module _ {near far : ℕ → ℕ} {start : ℕ} {c₀ : List ℕ} {p steps : ℕ} (fav : List told.Favour) (w : Walking near far start c₀ p steps (favour_numbers fav)) {q : ℕ} (e : q ≡ near p)
    (d : told.Favour) {b : Bool} (s : b ≡ not (eqb (favour_number (get_or fav q d)) 0)) where
  pub walking_stop_told : b ≡ true → Walks near far start c₀ steps (favour_numbers fav)
  walking_stop_told t = walking_stop w e (settled_yes fav w.len q (walking_at w e) d s t)

  module _ (t : b ≡ false) {r : ℕ} (f : r ≡ far q) where
    off : get_or (favour_numbers fav) q 0 ≡ 0
    off = settled_no fav w.len q (walking_at w e) d s t

    first_put : favour_numbers (set fav q Second) ≡ set (favour_numbers fav) q 2
    first_put = numbers_set fav q Second

    wide : Wide (favour_numbers (set fav q Second))
    wide = wide_set fav q Second w.len

    pub walking_at_2_told : r < 528
    walking_at_2_told = walking_at_2 w e off f

    module _ (g : told.Favour) {v : Bool} (y : v ≡ not (eqb (favour_number (get_or (set fav q Second) r g)) 0)) where
      pub walking_stop_2_told : v ≡ true → Walks near far start c₀ (steps + 1) (favour_numbers (set fav q Second))
      walking_stop_2_told x = rw first_put (walking_stop_2 w e off f (rw first_put at (settled_yes (set fav q Second) wide r walking_at_2_told g y x)))

      module _ (x : v ≡ false) where
        both_put : favour_numbers (set (set fav q Second) r First) ≡ set (set (favour_numbers fav) q 2) r 1
        both_put = numbers_set (set fav q Second) r First ∙ ap (λ (l : List ℕ). set l r 1) first_put

        open_place : get_or (set (favour_numbers fav) q 2) r 0 ≡ 0
        open_place = rw first_put at (settled_no (set fav q Second) wide r walking_at_2_told g y x)

        pub walking_on_told : Walking near far start c₀ r (steps + 1 + 1) (favour_numbers (set (set fav q Second) r First))
        walking_on_told = rw both_put (walking_on w e off f open_place)

        pub walking_less_told : favouring 0 (favour_numbers (set (set fav q Second) r First)) < favouring 0 (favour_numbers fav)
        walking_less_told = rw both_put (walking_less w e off f open_place)

-- ---- the steps gone again
-- the ends take turns, and so do the halves
pub record Flipping (here there : ℕ → ℕ) (start i : ℕ) (c d : List ℕ) (p half : ℕ) (near far : ℕ → ℕ) : Type 0 where
  pub place : p ≡ reached here there start i
  pub same : d ≡ stepped here there start 2 i c
  pub half_is : half ≡ if (eqb (i % 2) 0) 1 2
  pub near_is : (x : ℕ) → near x ≡ if (eqb (i % 2) 0) here there x
  pub far_is : (x : ℕ) → far x ≡ if (eqb (i % 2) 0) there here x

pub flipping_start : (here there : ℕ → ℕ) {start : ℕ} {c : List ℕ} → Flipping here there start 0 c c start 1 here there
flipping_start here there = record { place = refl; same = refl; half_is = refl; near_is = λ x. refl; far_is = λ x. refl }

next_turn : (i : ℕ) → eqb ((i + 1) % 2) 0 ≡ not (eqb (i % 2) 0)
next_turn i =
    by_eq (i % 2) 0
    (λ e. ne_eqb ((i + 1) % 2) 0 (omega arith) ∙ sym (ap not (eq-eqb (i % 2) 0 e)))
    (λ n. eq-eqb ((i + 1) % 2) 0 (omega arith) ∙ sym (ap not (ne_eqb (i % 2) 0 n)))

module _ {here there : ℕ → ℕ} {start i : ℕ} {c d : List ℕ} {p half : ℕ} {near far : ℕ → ℕ} (t : Flipping here there start i c d p half near far) {q : ℕ} (e : q ≡ near p) where
  flip_place : q ≡ reached here there start (i + 1)
  flip_place = rw add-one (e ∙ t.near_is p ∙ ap (if (eqb (i % 2) 0) here there) t.place)

  pub flipping_at : Reaches here there start → q < 528
  flipping_at within = rw flip_place (within.low (i + 1))

  pub flipping_on : {next : ℕ} → next ≡ other_half half → Flipping here there start (i + 1) c (set d q half) q next far near
  flipping_on {next} f =
      record {
        place = flip_place;
        same = rw (t.same, t.half_is, flip_place, add-one) refl;
        half_is = rw (next_turn i) (f ∙ ap other_half t.half_is ∙ by_bool (eqb (i % 2) 0) (λ b. rw b refl) (λ b. rw b refl));
        near_is = λ x. rw (next_turn i) (t.far_is x ∙ by_bool (eqb (i % 2) 0) (λ b. rw b refl) (λ b. rw b refl));
        far_is = λ x. rw (next_turn i) (t.near_is x ∙ by_bool (eqb (i % 2) 0) (λ b. rw b refl) (λ b. rw b refl));
      }

-- ---- the ends by their places
module _ (mates : List ℕ) {near far a b : ℕ} (e : near ≡ a) (f : far ≡ b) where
  pub reaches_told : {p : ℕ} → Reaches (lookup mates a) (lookup mates b) p → Reaches (lookup mates near) (lookup mates far) p
  reaches_told r = rw (e, f) r

  pub walks_told : {p steps : ℕ} {c d : List ℕ} → Walks (lookup mates near) (lookup mates far) p c steps d → Walks (lookup mates a) (lookup mates b) p c steps d
  walks_told w = rw (← e, ← f) w

  pub stepped_told : (p h steps : ℕ) (c : List ℕ) {d : List ℕ} → d ≡ stepped (lookup mates near) (lookup mates far) p h steps c → d ≡ stepped (lookup mates a) (lookup mates b) p h steps c
  stepped_told p h steps c w = rw (← e, ← f) w
