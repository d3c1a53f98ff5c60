-- One more single one of an output: it is the partner of the one that waits there, or waits itself; and so the partners at all outputs.
use Prim.Native.Nat.{ℕ, suc, zero, ◌+◌, ◌-◌, ◌*◌, ◌≤◌, ◌<◌}
use mathlib.Core.Path.{◌≡◌, refl, sym, ap, ◌∙◌, subst}
use mathlib.Core.Logic.{◌≢◌, ◌⊎◌, inl, inr, ⊎_elim}
use mathlib.Core.List.{List, [], ◌∷◌, ◌++◌, append-nil, append_assoc}
use mathlib.Core.Bool.{Bool, true, false, true≢false}
use native.Mathlib.Omega.{arith}
use native.Mathlib.Numerals.{add-one}
use Rattle.std.specs.declared.option.Option.{Option}
use Rattle.std.specs.declared.option.Option.TheVariants.{None, Some}
use Rattle.std.specs.Option.{unwrap_or}
use lib.Dec.{eqb}
use lib.ListN.{length, get_or}
use Rattle.rules.specs.Words.{if, up_from, keep, Every}
use Rattle.rules.specs.Flows.{End, inputs, links, output_of}
use Rattle.rules.specs.Rules.{odd, odds_at, single, singles_of}
use Rattle.rules.specs.Schedule.{partner_in, partner, output_partner}
use Rattle.rules.proofs.Cases.{by_eq}
use Rattle.rules.proofs.Kept.{keep_keep, keep_every}
use Rattle.rules.proofs.Lists.{every_map}
use Rattle.rules.proofs.Partners.{in_none, odd_lt}
use Rattle.rules.proofs.Singles.{every_both, Single, singles_every, singles_apart, output_linked, output_single, one_link, mate}
use Rattle.bits.specs.Digits.{digit, places}
use Rattle.bits.proofs.Digits.{digit_most, if_same, if_other}
use Rattle.bits.proofs.Lowest.{turn_below, turn_digit, end_digit}
use Rattle.planes.specs.Tables.{WideEnds, tabled}
use Rattle.split.specs.Steps.{Outputs, Sides, Odds, those_at, mate_among, MatedIn, Pends, pends_at, PendingBy, paired, AllMated, pending_at, pending_from, Joins, OddsOf, MatedBy}
use Rattle.split.proofs.Lists.{every_kept, apart_last}
use Rattle.split.proofs.Mated.{paired_length, paired_here, paired_aside, mated_next, pends_next, choice_low}

-- ---- one more is mated
-- all of a list are at the one port that each has
all_here : (l : List ℕ) → those_at (λ p. 0) 0 l ≡ l
all_here [] = refl
all_here (x ∷ l) = ap (λ (k : List ℕ). x ∷ k) (all_here l)

join_on : (l before mates : List ℕ) (p : ℕ) → Joins l before mates → p < 528 → (b : Bool) (h q : ℕ) → h < 528 → Pends b h l → q ≡ if b h p
    → Joins (l ++ (p ∷ [])) before (paired 528 p q mates)
join_on l before mates p j p_lt b h q h-lt w e =
    let q_lt : q < 528 = rw e (choice_low b h p h-lt p_lt) in
    let most : 528 ≤ 528 = omega arith in
    record {
      len = paired_length 528 p q mates j.len most p_lt q_lt;
      at_links = λ a.
          mated_next (λ p. 0) l p (j.at_links (apart_last l p a).0) a (tabled (paired 528 p q mates) links) b h q (rw (all_here l) w) e (paired_here 528 p q mates j.len most p_lt q_lt);
      at_inputs = λ r r_lt. paired_aside 528 p q mates j.len most p_lt q_lt 0 (λ x y g k. omega arith) r r_lt ∙ j.at_inputs r r_lt;
    }

-- ---- the single ones of an output
pending_last : (latest : List ℕ) (pending x n : ℕ) → pending_from latest pending x (suc n) ≡ pending_from latest pending x n ++ pending_at latest pending (x + n)
pending_last latest pending x zero = append-nil (pending_at latest pending x) ∙ ap (pending_at latest pending) (omega arith)
pending_last latest pending x (suc n) =
    let e : suc x + n ≡ x + suc n = omega arith in
    ap (λ (l : List ℕ). pending_at latest pending x ++ l) (pending_last latest pending (suc x) n ∙ ap (λ (y : ℕ). pending_from latest pending (suc x) n ++ pending_at latest pending y) e)
    ∙ sym (append_assoc (pending_at latest pending x) (pending_from latest pending (suc x) n) (pending_at latest pending (x + suc n)))

-- the one of a list that waits, where one does
abbrev pub Waits : Option ℕ → List ℕ → Type 0
Waits (Some h) l = (single l ≡ h ∷ []) × (h < 528)
Waits None l = single l ≡ []

-- so many links of an output have been looked at, and one waits or none does
pub record Joining (latest : List ℕ) (pending x l : ℕ) (before mates : List ℕ) (alone : Option ℕ) : Type 0 where
  pub joins : Joins (pending_from latest pending x l) before mates
  pub waits : Waits alone (pending_from latest pending x l)

pub joining_start : {latest : List ℕ} {pending x : ℕ} {mates : List ℕ} → WideEnds mates → Joining latest pending x 0 mates mates None
joining_start m =
    record {
      joins = record { len = m; at_links = λ a. record { same = tt; kept = λ r h al. refl }; at_inputs = λ r h. refl };
      waits = refl;
    }

pub partner_low : (l : List ℕ) (alone : Option ℕ) {p : ℕ} → Waits alone l → p < 528 → unwrap_or alone p < 528
partner_low l (Some h) w a = w.1
partner_low l None w a = a

-- the one that waits after p came
abbrev pub after_one : Option ℕ → ℕ → Option ℕ
after_one (Some h) p = None
after_one None p = Some p

module _ (latest : List ℕ) (pending x l : ℕ) (before mates : List ℕ) where
  last : pending_from latest pending x (l + 1) ≡ pending_from latest pending x l ++ pending_at latest pending (x + l)
  last = rw add-one (pending_last latest pending x l)

  -- one waits at the next link
  joining_pair : (alone : Option ℕ) (p : ℕ) → Joining latest pending x l before mates alone → p < 528 → pending_at latest pending (x + l) ≡ p ∷ []
      → Joining latest pending x (l + 1) before (paired 528 p (unwrap_or alone p) mates) (after_one alone p)
  joining_pair (Some h) p j p_lt at =
      let e : pending_from latest pending x (l + 1) ≡ pending_from latest pending x l ++ (p ∷ []) = last ∙ ap (λ (r : List ℕ). pending_from latest pending x l ++ r) at in
      let w = j.waits in
      record {
        joins = rw e (join_on (pending_from latest pending x l) before mates p j.joins p_lt true h h w.1 w.0 refl);
        waits = rw e (pends_next true h (pending_from latest pending x l) p w.0);
      }
  joining_pair None p j p_lt at =
      let e : pending_from latest pending x (l + 1) ≡ pending_from latest pending x l ++ (p ∷ []) = last ∙ ap (λ (r : List ℕ). pending_from latest pending x l ++ r) at in
      record {
        joins = rw e (join_on (pending_from latest pending x l) before mates p j.joins p_lt false 0 p (omega arith) j.waits refl);
        waits = rw e (pends_next false 0 (pending_from latest pending x l) p j.waits, p_lt);
      }

  -- or none does
  joining_none : (alone : Option ℕ) → Joining latest pending x l before mates alone → pending_at latest pending (x + l) ≡ [] → Joining latest pending x (l + 1) before mates alone
  joining_none alone j at =
      let e : pending_from latest pending x (l + 1) ≡ pending_from latest pending x l =
      last ∙ ap (λ (r : List ℕ). pending_from latest pending x l ++ r) at ∙ append-nil (pending_from latest pending x l) in
      record { joins = rw e j.joins; waits = rw e j.waits }

module _ {latest : List ℕ} {pending x link : ℕ} {before mates : List ℕ} {alone : Option ℕ} (j : Joining latest pending x (link - x) before mates alone) (low : x ≤ link)
    {has : Bool} (e : has ≡ pends_at pending link) where
  here : x + (link - x) ≡ link
  here = omega arith

  next : link + 1 - x ≡ link - x + 1
  next = omega arith

  pub joining_come : has ≡ true → get_or latest link 0 < 528 → {q : ℕ} {new : List ℕ} {after : Option ℕ} → q ≡ unwrap_or alone (get_or latest link 0)
      → new ≡ paired 528 (get_or latest link 0) q mates → after ≡ after_one alone (get_or latest link 0) → Joining latest pending x (link + 1 - x) before new after
  joining_come t p_lt eq en ea =
      let at : pending_at latest pending (x + (link - x)) ≡ get_or latest link 0 ∷ [] = rw (here, sym e ∙ t) refl in
      rw (next, en, eq, ea) (joining_pair latest pending x (link - x) before mates alone (get_or latest link 0) j p_lt at)

  pub joining_stay : has ≡ false → {new : List ℕ} {after : Option ℕ} → new ≡ mates → after ≡ alone → Joining latest pending x (link + 1 - x) before new after
  joining_stay t en ea =
      let at : pending_at latest pending (x + (link - x)) ≡ [] = rw (here, sym e ∙ t) refl in
      rw (next, en, ea) (joining_none latest pending x (link - x) before mates alone j at)

pub joining_end : {latest : List ℕ} {pending x l : ℕ} {before mates : List ℕ} {alone : Option ℕ}
    → Joining latest pending x l before mates alone → l ≡ 4 → Joins (pending_from latest pending x 4) before mates
joining_end {latest} {pending} {x} {l} {before} {mates} j e = subst (λ (n : ℕ). Joins (pending_from latest pending x n) before mates) e j.joins

-- ---- the odd counts of a list of counts
-- one that is odd is in the list of odd ones, and so a position
odd_low : {odds : List ℕ} (m : List ℕ) → Odds odds → OddsOf odds m → (p : ℕ) → odd m p ≡ true → p < 528
odd_low m o e p od = every_kept (λ r. r < 528) (odd m) 0 (length m) (rw e at o.below) p (omega arith) (omega (arith, odd_lt m p od)) od

-- and one that is even is none of them
even_differs : (m : List ℕ) (p r : ℕ) → odd m p ≡ true → odd m r ≡ false → p ≢ r
even_differs m p r od ev d = true≢false (sym od ∙ ap (odd m) d ∙ ev)

even_out : (m : List ℕ) (r : ℕ) → odd m r ≡ false → Every (λ p. p ≢ r) (keep (odd m) (up_from 0 (length m)))
even_out m r ev =
    every_map (λ p. (odd m p ≡ true) × (p < length m)) (λ p. p ≢ r) (λ p a. even_differs m p r a.0 ev)
    (keep (odd m) (up_from 0 (length m))) (keep_every (odd m) (length m) 0 (length m) (omega arith))

-- ---- what the links leave is what the definitions leave
those_are : (port : ℕ → ℕ) (m : List ℕ) (x : ℕ) → those_at port x (keep (odd m) (up_from 0 (length m))) ≡ odds_at port m x
those_are port m x = keep_keep (odd m) (λ p. eqb (port p) x) (up_from 0 (length m))

module _ (port : ℕ → ℕ) (odds latest : List ℕ) (pending : ℕ) (h : PendingBy port odds latest pending) (m : List ℕ) (e : OddsOf odds m) where
  pending_single : (x : ℕ) → x < 64 → pending_at latest pending x ≡ single (odds_at port m x)
  pending_single x l =
      listed (pends_at pending x) (get_or latest x 0) (those_at port x odds) (h.ports x l)
      ∙ ap single (ap (those_at port x) e ∙ those_are port m x)
    where
      listed : (b : Bool) (one : ℕ) (r : List ℕ) → Pends b one r → if b (one ∷ []) [] ≡ single r
      listed true one r w = sym w
      listed false one r w = sym w

  pending_singles : (x n : ℕ) → x + n ≤ 64 → pending_from latest pending x n ≡ singles_of port m x n
  pending_singles x zero l = refl
  pending_singles x (suc n) l = search (pending_single x (omega arith), pending_singles (suc x) n (omega arith))

-- ---- all outputs
-- the single ones of an output
abbrev singles_at : List ℕ → List ℕ → ℕ → List ℕ
singles_at ends m o = singles_of (tabled ends links) m (o * 4) 4

-- those of the outputs of a word have been mated, but for those that are left
pub record MatingRest (ends odds : List ℕ) (multi left : ℕ) (before mates : List ℕ) : Type 0 where
  pub len : WideEnds mates
  pub within : (x : ℕ) → x < 64 → digit left x ≤ digit multi x
  pub all_mated : (m : List ℕ) → OddsOf odds m → (x : ℕ) → digit multi x ≡ 1 → digit left x ≡ 0
      → Every (λ r. tabled mates links r ≡ partner_in (singles_at ends m x) r) (singles_at ends m x)
  pub kept : (m : List ℕ) → OddsOf odds m → (r : ℕ) → r < 528 → ((x : ℕ) → digit multi x ≡ 1 → Every (λ p. p ≢ r) (singles_at ends m x))
      → tabled mates links r ≡ tabled before links r
  pub at_inputs : (r : ℕ) → r < 528 → tabled mates inputs r ≡ tabled before inputs r

pub rest_start : {ends odds : List ℕ} {multi : ℕ} {mates : List ℕ} → WideEnds mates → MatingRest ends odds multi multi mates mates
rest_start l =
    record {
      len = l;
      within = λ x h. omega arith;
      all_mated = λ m e x a b. absurd (omega arith);
      kept = λ m e r h al. refl;
      at_inputs = λ r h. refl;
    }

-- a count of another output is none of them
elsewhere : (ends m : List ℕ) (x r : ℕ) → output_of (tabled ends links r) ≢ x → Every (λ p. p ≢ r) (singles_at ends m x)
elsewhere ends m x r n =
    every_map (Single (tabled ends links) m (x * 4) 4) (λ p. p ≢ r)
    (λ p s d. let at = ap (tabled ends links) d in absurd (n (omega (arith, s.low, s.high)))) (singles_at ends m x) (singles_every (tabled ends links) m (x * 4) 4)

module _ {ends odds : List ℕ} {multi left : ℕ} {before mates : List ℕ} (s : MatingRest ends odds multi left before mates) {next : ℕ} (after : ℕ)
    (t : places 0 64 left ≡ next ∷ places 0 64 after) where
  next_lt : next < 64
  next_lt = turn_below left after t

  gone : (x : ℕ) → x < 64 → digit after x + if (eqb x next) 1 0 ≡ digit left x
  gone = turn_digit left after t

  next_multi : digit multi next ≡ 1
  next_multi = omega (arith, gone next next_lt, if_same next next 1 refl, s.within next next_lt, digit_most multi next)

  pub rest_low : Outputs multi → next < 16
  rest_low few = few next next_multi

  pub rest_on : {begun latest : List ℕ} {pending : ℕ} → Odds odds → AllMated ends odds begun before latest pending → Outputs multi → {new : List ℕ}
      → Joins (pending_from latest pending (next * 4) 4) mates new → MatingRest ends odds multi after before new
  rest_on {latest = latest} {pending} o a few {new} j =
      record {
        len = j.len;
        within = λ x h. omega (arith, gone x h, s.within x h);
        all_mated = all_mated;
        kept = λ m e r r_lt al. (joins m e).kept r r_lt (al next next_multi) ∙ s.kept m e r r_lt al;
        at_inputs = λ r r_lt. j.at_inputs r r_lt ∙ s.at_inputs r r_lt;
      }
    where
      joins : (m : List ℕ) → OddsOf odds m → MatedIn (λ p. 0) (singles_at ends m next) (tabled mates links) (tabled new links)
      joins m e =
          let same = pending_singles (tabled ends links) odds latest pending a.pends m e (next * 4) 4 (omega (arith, rest_low few)) in
          (rw same at j).at_links (singles_apart (tabled ends links) m (next * 4) 4)

      here : (m : List ℕ) → OddsOf odds m → Every (λ r. tabled new links r ≡ partner_in (singles_at ends m next) r) (singles_at ends m next)
      here m e = subst (λ (l : List ℕ). Every (λ r. tabled new links r ≡ partner_in l r) (singles_at ends m next)) (all_here (singles_at ends m next)) (joins m e).same

      all_mated : (m : List ℕ) → OddsOf odds m → (x : ℕ) → digit multi x ≡ 1 → digit after x ≡ 0
          → Every (λ r. tabled new links r ≡ partner_in (singles_at ends m x) r) (singles_at ends m x)
      all_mated m e x a b =
          by_eq x next (λ d. rw d (here m e))
          (λ n. every_both (Single (tabled ends links) m (x * 4) 4) (λ r. tabled mates links r ≡ partner_in (singles_at ends m x) r) (λ r. tabled new links r ≡ partner_in (singles_at ends m x) r)
          (λ r c d. (joins m e).kept r (odd_low m o e r c.odd_count) (elsewhere ends m next r (omega (arith, c.low, c.high))) ∙ d)
          (singles_at ends m x) (singles_every (tabled ends links) m (x * 4) 4) (s.all_mated m e x a (let h : x < 64 = omega (arith, few x a) in omega (arith, gone x h, if_other x next 1 n))))

-- a number is one of a list of which P holds, or none of it
every_or : (P : ℕ → Type 0) (l : List ℕ) (r : ℕ) → Every P l → P r ⊎ Every (λ p. p ≢ r) l
every_or P [] r al = inr tt
every_or P (x ∷ l) r al = by_eq x r (λ e. inl (subst P e al.0)) (λ n. ⊎_elim (λ a. inl a) (λ a. inr (n, a)) (every_or P l r al.1))

module _ (ends odds : List ℕ) (multi left : ℕ) (begun before mates latest : List ℕ) (pending : ℕ) (o : Odds odds)
    (a : AllMated ends odds begun before latest pending) (s : MatingRest ends odds multi left before mates) (over : (x : ℕ) → digit multi x ≡ 1 → digit left x ≡ 0)
    (m : List ℕ) (e : OddsOf odds m) where
  -- the partner at the port
  at_port : (side : End) (p : ℕ) → odd m p ≡ true → tabled before side p ≡ partner (tabled ends side) m p
  at_port side p od =
      every_kept (λ r. tabled before side r ≡ mate_among (tabled ends side) (keep (odd m) (up_from 0 (length m))) r) (odd m) 0 (length m)
      (subst (λ (l : List ℕ). Every (λ r. tabled before side r ≡ mate_among (tabled ends side) l r) l) e (a.at side).same) p (omega arith) (omega (arith, odd_lt m p od)) od
      ∙ ap (λ (l : List ℕ). partner_in l p) (those_are (tabled ends side) m (tabled ends side p))

  module _ (p : ℕ) (od : odd m p ≡ true) where
    abbrev port : ℕ → ℕ
    port = tabled ends links

    abbrev own : ℕ
    own = output_of (port p)

    p_lt : p < 528
    p_lt = odd_low m o e p od

    -- one that is no single one of an output that was looked at has kept it
    at_kept : ((x : ℕ) → digit multi x ≡ 1 → Every (λ q. q ≢ p) (singles_at ends m x)) → tabled mates links p ≡ partner port m p
    at_kept al = s.kept m e p p_lt al ∙ at_port links p od

    -- of an output that was looked at: it is one of its single ones, or none
    looked : digit multi own ≡ 1 → tabled mates links p ≡ output_partner port m p
    looked h =
        ⊎_elim (λ b. b.0 ∙ sym (output_single port m p b.1)) none
        (every_or (λ r. (tabled mates links r ≡ partner_in (singles_at ends m own) r) × (partner port m r ≡ r)) (singles_at ends m own) p
        (every_both (Single port m (own * 4) 4) (λ r. tabled mates links r ≡ partner_in (singles_at ends m own) r)
        (λ r. (tabled mates links r ≡ partner_in (singles_at ends m own) r) × (partner port m r ≡ r)) (λ r b c. (c, b.alone))
        (singles_at ends m own) (singles_every port m (own * 4) 4) (s.all_mated m e own h (over own h))))
      where
        none : Every (λ q. q ≢ p) (singles_at ends m own) → tabled mates links p ≡ output_partner port m p
        none al =
            let kept = at_kept (λ x l. by_eq own x (λ d. subst (λ (y : ℕ). Every (λ q. q ≢ p) (singles_at ends m y)) d al) (λ d. elsewhere ends m x p d)) in
            by_eq (partner port m p) p
            (λ d. kept ∙ d ∙ sym (output_single port m p d ∙ in_none (singles_at ends m own) p al))
            (λ d. kept ∙ sym (output_linked port m p d))

    -- of another, whose counts are all on its first link
    others : Sides (length m) multi ends → digit multi own ≡ 0 → tabled mates links p ≡ output_partner port m p
    others sides h =
        at_kept (λ x l. elsewhere ends m x p (λ d. let same = ap (digit multi) d in absurd (omega arith)))
        ∙ sym (one_link port m own (λ q l at. sides.others q l (ap (digit multi) at ∙ h)) p refl)

    odd_mated : Sides (length m) multi ends → (side : End) → tabled mates side p ≡ mate (tabled ends) m side p
    odd_mated sides inputs = s.at_inputs p p_lt ∙ at_port inputs p od
    odd_mated sides links = by_eq (digit multi own) 1 looked (λ n. others sides (omega (arith, digit_most multi own)))

  even_kept : (side : End) (r : ℕ) → r < 528 → odd m r ≡ false → tabled mates side r ≡ tabled begun side r
  even_kept inputs r r_lt ev = s.at_inputs r r_lt ∙ (a.at inputs).kept r r_lt (rw e (even_out m r ev))
  even_kept links r r_lt ev =
      s.kept m e r r_lt (λ x h. every_map (Single (tabled ends links) m (x * 4) 4) (λ p. p ≢ r) (λ p b. even_differs m p r b.odd_count ev)
      (singles_at ends m x) (singles_every (tabled ends links) m (x * 4) 4))
      ∙ (a.at links).kept r r_lt (rw e (even_out m r ev))

pub rest_end : {ends odds : List ℕ} {multi left : ℕ} {begun before mates latest : List ℕ} {pending : ℕ} → Odds odds
    → AllMated ends odds begun before latest pending → MatingRest ends odds multi left before mates → Outputs multi → places 0 64 left ≡ [] → MatedBy multi ends odds begun mates
rest_end {ends} {odds} {multi} {left} {begun} {before} {mates} {latest} {pending} o a s few e =
    let over : (x : ℕ) → digit multi x ≡ 1 → digit left x ≡ 0 = λ x h. end_digit left e x (omega (arith, few x h)) in
    record {
      len = s.len;
      same = λ m is sides side p od. odd_mated ends odds multi left begun before mates latest pending o a s over m is p od sides side;
      kept = λ m is side p p_lt ev. even_kept ends odds multi left begun before mates latest pending o a s over m is side p p_lt ev;
    }
