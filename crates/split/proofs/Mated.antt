-- One more position mated: at its port it is the partner of the one that waits there, or waits itself.
use Prim.Native.Nat.{ℕ, ◌+◌, ◌≤◌, ◌<◌}
use mathlib.Core.Path.{◌≡◌, refl, sym, ap, ◌∙◌, subst}
use mathlib.Core.Logic.{◌≢◌}
use mathlib.Core.List.{List, [], ◌∷◌, ◌++◌, append-nil}
use mathlib.Core.Bool.{Bool, true, false, not}
use native.Mathlib.Omega.{arith}
use native.Mathlib.Numerals.{add-one}
use lib.Dec.{eqb}
use lib.ListN.{length, get_or, set, take, replicate, length-set, length-replicate, get_or-replicate}
use lib.Seq.{take-suc, take-length, get_or-set_same, get_or-set_other}
use borrow.Author.Tests.{eqb-true, eq-eqb, ne_eqb}
use Rattle.rules.specs.Words.{if, Every}
use Rattle.rules.specs.Flows.{End, inputs, links}
use Rattle.rules.specs.Rules.{single}
use Rattle.rules.specs.Schedule.{partner_in}
use Rattle.rules.proofs.Cases.{by_eq}
use Rattle.rules.proofs.Lists.{Apart, every_map}
use Rattle.rules.proofs.Partners.{in_none, in_first, in_second, in_rest}
use Rattle.rules.proofs.Singles.{single_every, every_both}
use Rattle.bits.specs.Digits.{digit, FlippedAt}
use Rattle.bits.proofs.Digits.{digit_most, digit_none}
use Rattle.planes.specs.Tables.{WideEnds, lookup, tabled}
use Rattle.split.specs.Steps.{Odds, LowEnds, those_at, mate_among, MatedIn, Pends, pends_at, Latest, PendingBy, paired, MatedAt, AllMated}
use Rattle.split.proofs.Lists.{keep_snoc, every_snoc, every_last, every_take, every_at, every_keep, apart_last, apart_take, apart_keep}

-- ---- one more, by whether one is left single
no_cons : (a : ℕ) (l : List ℕ) → a ∷ l ≡ [] → ⊥
no_cons a l e = let z : ◌≡◌ {A = ℕ} 0 1 = cc in omega arith

-- none is single: p comes to be
even_in : (l : List ℕ) (p q : ℕ) → single l ≡ [] → partner_in (l ++ (p ∷ [])) q ≡ partner_in l q
even_in [] p q e = refl
even_in (a ∷ []) p q e = absurd (no_cons a [] e)
even_in (a ∷ b ∷ l) p q e = ap (λ (x : ℕ). if (eqb q a) b (if (eqb q b) a x)) (even_in l p q e)

even_single : (l : List ℕ) (p : ℕ) → single l ≡ [] → single (l ++ (p ∷ [])) ≡ p ∷ []
even_single [] p e = refl
even_single (a ∷ []) p e = absurd (no_cons a [] e)
even_single (a ∷ b ∷ l) p e = even_single l p e

-- h is single: it comes to be the partner of p
module _ (p h : ℕ) where
  odd_single : (l : List ℕ) → single l ≡ h ∷ [] → single (l ++ (p ∷ [])) ≡ []
  odd_single [] e = absurd (no_cons h [] (sym e))
  odd_single (a ∷ []) e = refl
  odd_single (a ∷ b ∷ l) e = odd_single l e

  single_has : (P : ℕ → Type 0) (l : List ℕ) → single l ≡ h ∷ [] → Every P l → P h
  single_has P l e al = (rw e at (single_every P l al)).0

  odd_in : (l : List ℕ) (q : ℕ) → single l ≡ h ∷ [] → q ≢ h → q ≢ p → partner_in (l ++ (p ∷ [])) q ≡ partner_in l q
  odd_in [] q e n m = absurd (no_cons h [] (sym e))
  odd_in (a ∷ []) q e n m = let f : a ≡ h = cc in in_rest a p [] q (λ g. n (g ∙ f)) m
  odd_in (a ∷ b ∷ l) q e n m = ap (λ (x : ℕ). if (eqb q a) b (if (eqb q b) a x)) (odd_in l q e n m)

  odd_pending : (l : List ℕ) → single l ≡ h ∷ [] → Apart l → partner_in (l ++ (p ∷ [])) h ≡ p
  odd_pending [] e s = absurd (no_cons h [] (sym e))
  odd_pending (a ∷ []) e s = let f : a ≡ h = cc in in_first a p [] h (sym f)
  odd_pending (a ∷ b ∷ l) e s =
      in_rest a b (l ++ (p ∷ [])) h (single_has (λ r. r ≢ a) l e s.0.1) (single_has (λ r. r ≢ b) l e s.1.0) ∙ odd_pending l e s.1.1

  odd_new : (l : List ℕ) → single l ≡ h ∷ [] → Every (λ r. r ≢ p) l → partner_in (l ++ (p ∷ [])) p ≡ h
  odd_new [] e al = absurd (no_cons h [] (sym e))
  odd_new (a ∷ []) e al = let f : a ≡ h = cc in in_second a p [] p (λ x. al.0 (sym x)) refl ∙ f
  odd_new (a ∷ b ∷ l) e al = in_rest a b (l ++ (p ∷ [])) p (λ x. al.0 (sym x)) (λ x. al.1.0 (sym x)) ∙ odd_new l e al.1.1

-- ---- two made partners of each other
-- p and q have each other, and all others what they had
pub record Pairs (p q : ℕ) (mates new : ℕ → ℕ) : Type 0 where
  pub own : new p ≡ q
  pub other : new q ≡ p
  pub rest : (r : ℕ) → r ≢ p → r ≢ q → new r ≡ mates r

module _ (first p q : ℕ) (mates : List ℕ) (len : WideEnds mates) (most : first ≤ 528) (p_lt : p < 528) (q_lt : q < 528) where
  pub paired_length : WideEnds (paired first p q mates)
  paired_length = length-set (set mates (first + p) q) (first + q) p ∙ length-set mates (first + p) q ∙ len

  q_same : lookup (paired first p q mates) first q ≡ p
  q_same = get_or-set_same (set mates (first + p) q) (first + q) p 0 (omega (arith, length-set mates (first + p) q))

  pub paired_here : Pairs p q (lookup mates first) (lookup (paired first p q mates) first)
  paired_here =
      record {
        own = by_eq p q
            (λ e. ap (lookup (paired first p q mates) first) e ∙ q_same ∙ e)
            (λ n. get_or-set_other (set mates (first + p) q) (first + q) (first + p) p 0 (omega arith) ∙ get_or-set_same mates (first + p) q 0 (omega arith));
        other = q_same;
        rest = λ r n k. get_or-set_other (set mates (first + p) q) (first + q) (first + r) p 0 (omega arith) ∙ get_or-set_other mates (first + p) (first + r) q 0 (omega arith);
      }

  -- and nothing is changed at the other end
  pub paired_aside : (second : ℕ) → ((a b : ℕ) → a < 528 → b < 528 → second + a ≢ first + b) → (r : ℕ) → r < 528
      → lookup (paired first p q mates) second r ≡ lookup mates second r
  paired_aside second n r r_lt =
      get_or-set_other (set mates (first + p) q) (first + q) (second + r) p 0 (n r q r_lt q_lt) ∙ get_or-set_other mates (first + p) (second + r) q 0 (n r p r_lt p_lt)

-- ---- one more at its port
pub pends_next : (b : Bool) (h : ℕ) (l : List ℕ) (p : ℕ) → Pends b h l → Pends (not b) p (l ++ (p ∷ []))
pends_next true h l p o = odd_single p h l o
pends_next false h l p o = even_single l p o

module _ (port : ℕ → ℕ) (l : List ℕ) (p : ℕ) where
  abbrev here : List ℕ
  here = those_at port (port p) l

  same_port : those_at port (port p) (l ++ (p ∷ [])) ≡ here ++ (p ∷ [])
  same_port = keep_snoc (λ r. eqb (port r) (port p)) l p ∙ ap (λ (b : Bool). here ++ if b (p ∷ []) []) (eq-eqb (port p) (port p) refl)

  other_port : (y : ℕ) → port p ≢ y → those_at port y (l ++ (p ∷ [])) ≡ those_at port y l
  other_port y n =
      keep_snoc (λ r. eqb (port r) y) l p
      ∙ ap (λ (b : Bool). those_at port y l ++ if b (p ∷ []) []) (ne_eqb (port p) y n)
      ∙ append-nil (those_at port y l)

  mate_same : (r : ℕ) → port p ≡ port r → mate_among port (l ++ (p ∷ [])) r ≡ partner_in (here ++ (p ∷ [])) r
  mate_same r e = ap (λ (y : ℕ). partner_in (those_at port y (l ++ (p ∷ []))) r) (sym e) ∙ ap (λ (k : List ℕ). partner_in k r) same_port

  -- the partner of r stays, where p leaves it among those of the port of p
  mate_stays : (r : ℕ) → partner_in (here ++ (p ∷ [])) r ≡ partner_in here r → mate_among port l r ≡ mate_among port (l ++ (p ∷ [])) r
  mate_stays r e =
      by_eq (port p) (port r)
      (λ f. ap (λ (y : ℕ). partner_in (those_at port y l) r) (sym f) ∙ sym (mate_same r f ∙ e))
      (λ n. sym (ap (λ (k : List ℕ). partner_in k r) (other_port (port r) n)))

  module _ {before mates : ℕ → ℕ} (m : MatedIn port l before mates) (apart : Apart (l ++ (p ∷ []))) where
    old : Every (λ r. r ≢ p) l
    old = (apart_last l p apart).1

    here_every : (P : ℕ → Type 0) → Every P l → Every P here
    here_every P al = every_map (λ r. P r × (eqb (port r) (port p) ≡ true)) P (λ r a. a.0) here (every_keep P (λ r. eqb (port r) (port p)) l al)

    all_mated : (new : ℕ → ℕ) → ((r : ℕ) → r ≢ p → mates r ≡ mate_among port l r → new r ≡ mate_among port (l ++ (p ∷ [])) r) → new p ≡ mate_among port (l ++ (p ∷ [])) p
        → Every (λ r. new r ≡ mate_among port (l ++ (p ∷ [])) r) (l ++ (p ∷ []))
    all_mated new stays own =
        every_snoc (λ r. new r ≡ mate_among port (l ++ (p ∷ [])) r) l p
        (every_both (λ r. r ≢ p) (λ r. mates r ≡ mate_among port l r) (λ r. new r ≡ mate_among port (l ++ (p ∷ [])) r) stays l old m.same) own

    even_mated : (new : ℕ → ℕ) → single here ≡ [] → Pairs p p mates new → MatedIn port (l ++ (p ∷ [])) before new
    even_mated new e n =
        record {
          same = all_mated new (λ r k s. n.rest r k k ∙ s ∙ mate_stays r (even_in here p r e))
              (n.own ∙ sym (mate_same p refl ∙ even_in here p p e ∙ in_none here p (here_every (λ r. r ≢ p) old)));
          kept = λ r r_lt al.
              let a = every_last (λ q. q ≢ r) l p al in
              n.rest r (λ d. a.1 (sym d)) (λ d. a.1 (sym d)) ∙ m.kept r r_lt a.0;
        }

    odd_mated : (new : ℕ → ℕ) (h : ℕ) → single here ≡ h ∷ [] → Pairs p h mates new → MatedIn port (l ++ (p ∷ [])) before new
    odd_mated new h e n =
        record {
          same = all_mated new
              (λ r k s. by_eq r h (λ f. rw f pending) (λ g. n.rest r k g ∙ s ∙ mate_stays r (odd_in p h here r e g k)))
              (n.own ∙ sym (mate_same p refl ∙ odd_new p h here e (here_every (λ r. r ≢ p) old)));
          kept = λ r r_lt al.
              let a = every_last (λ q. q ≢ r) l p al in
              n.rest r (λ d. a.1 (sym d)) (λ d. single_has p h (λ q. q ≢ r) here e (here_every (λ q. q ≢ r) a.0) (sym d)) ∙ m.kept r r_lt a.0;
        }
      where
        at_port : port p ≡ port h
        at_port =
            let at = single_has p h (λ r. (r ≢ p) × (eqb (port r) (port p) ≡ true)) here e (every_keep (λ r. r ≢ p) (λ r. eqb (port r) (port p)) l old) in
            sym (eqb-true (port h) (port p) at.1)

        pending : new h ≡ mate_among port (l ++ (p ∷ [])) h
        pending = n.other ∙ sym (mate_same h at_port ∙ odd_pending p h here e (apart_keep (λ r. eqb (port r) (port p)) l (apart_last l p apart).0))

    pub mated_next : (new : ℕ → ℕ) (b : Bool) (h q : ℕ) → Pends b h here → q ≡ if b h p → Pairs p q mates new → MatedIn port (l ++ (p ∷ [])) before new
    mated_next new true h q w e n = odd_mated new h w (rw e at n)
    mated_next new false h q w e n = even_mated new w (rw e at n)

-- ---- who waits after one more
-- one waits after one more where none did, and the other way round
pends_flipped : (pending x next : ℕ) → FlippedAt pending x next → pends_at next x ≡ not (pends_at pending x)
pends_flipped pending x next t =
    by_eq (digit pending x) 1
    (λ e. ne_eqb (digit next x) 1 (omega (arith, t.here)) ∙ sym (ap not (eq-eqb (digit pending x) 1 e)))
    (λ n. eq-eqb (digit next x) 1 (omega (arith, t.here, digit_most pending x)) ∙ sym (ap not (ne_eqb (digit pending x) 1 n)))

pub choice_low : (b : Bool) (h p : ℕ) → h < 528 → p < 528 → if b h p < 528
choice_low true h p a c = a
choice_low false h p a c = c

latest_next : (latest : List ℕ) (x p : ℕ) → Latest latest → x < 64 → p < 528 → Latest (set latest x p)
latest_next latest x p w x_lt p_lt =
    record {
      ports_64 = length-set latest x p ∙ w.ports_64;
      low = λ y h. by_eq y x
          (λ e. rw e (omega (arith, get_or-set_same latest x p 0 (omega (arith, w.ports_64)))))
          (λ n. omega (arith, get_or-set_other latest x y p 0 n, w.low y h));
    }

-- the port of p, read at the place of p
pub port_at : (ends : List ℕ) (first : ℕ) {p a x : ℕ} → a ≡ p → x ≡ lookup ends first a → x ≡ lookup ends first p
port_at ends first e f = f ∙ ap (lookup ends first) e

-- p mated at port x with the one that waits there, or with itself
pub mates_at : {first p x pending port q after : ℕ} {b : Bool} {latest mates mates_after : List ℕ} → port ≡ x → b ≡ pends_at pending port → q ≡ if b (get_or latest port 0) p
    → mates_after ≡ paired first p q mates → FlippedAt pending port after → MatedAt first p x pending latest mates after (set latest port p) mates_after
mates_at {first} {p} {x} {pending} {port} {q} {after} {b} {latest} {mates} e f g h k =
    record { mated = h ∙ ap (λ (r : ℕ). paired first p r mates) (g ∙ rw (f, e)); came = rw e; flipped = rw e at k }

-- what one more leaves at its end, and at the other
record More (first : ℕ) (port : ℕ → ℕ) (l : List ℕ) (p : ℕ) (mates : List ℕ) (after : ℕ) (latest_after mates_after : List ℕ) : Type 0 where
  len : WideEnds mates_after
  pends : PendingBy port (l ++ (p ∷ [])) latest_after after
  mated : (before : ℕ → ℕ) → MatedIn port l before (lookup mates first) → MatedIn port (l ++ (p ∷ [])) before (lookup mates_after first)
  aside : (second : ℕ) → ((a b : ℕ) → a < 528 → b < 528 → second + a ≢ first + b) → (at : ℕ → ℕ) (k : List ℕ) (before : ℕ → ℕ) → Every (λ r. r < 528) k
      → MatedIn at k before (lookup mates second) → MatedIn at k before (lookup mates_after second)

one_more : (first : ℕ) (port : ℕ → ℕ) (l : List ℕ) (p pending : ℕ) (latest mates : List ℕ) (after : ℕ) (latest_after mates_after : List ℕ) → first ≤ 528 → p < 528 → port p < 64
    → Apart (l ++ (p ∷ [])) → WideEnds mates → PendingBy port l latest pending → MatedAt first p (port p) pending latest mates after latest_after mates_after
    → More first port l p mates after latest_after mates_after
one_more first port l p pending latest mates after latest_after mates_after most p_lt port-lt apart len w a =
    record {
      len = rw a.mated (paired_length first p q mates len most p_lt q_lt);
      pends = record {
        known = rw a.came (latest_next latest (port p) p w.known port-lt p_lt);
        ports = λ x h. rw a.came (by_eq x (port p) (λ e. rw e own) (λ n. other x h n));
      };
      mated = λ before m.
          rw a.mated (mated_next port l p m apart (lookup (paired first p q mates) first) (pends_at pending (port p)) (get_or latest (port p) 0) q (w.ports (port p) port-lt) refl
          (paired_here first p q mates len most p_lt q_lt));
      aside = λ second n at k before low m.
          let same = paired_aside first p q mates len most p_lt q_lt second n in
          rw a.mated (record {
            same = every_both (λ r. r < 528) (λ r. lookup mates second r ≡ mate_among at k r) (λ r. lookup (paired first p q mates) second r ≡ mate_among at k r) (λ r h e. same r h ∙ e) k low m.same;
            kept = λ r h al. same r h ∙ m.kept r h al;
          });
    }
  where
    q : ℕ
    q = if (pends_at pending (port p)) (get_or latest (port p) 0) p

    q_lt : q < 528
    q_lt = choice_low (pends_at pending (port p)) (get_or latest (port p) 0) p (w.known.low (port p) port-lt) p_lt

    own : Pends (pends_at after (port p)) (get_or (set latest (port p) p) (port p) 0) (those_at port (port p) (l ++ (p ∷ [])))
    own =
        rw (pends_flipped pending (port p) after a.flipped, get_or-set_same latest (port p) p 0 (omega (arith, w.known.ports_64)), same_port port l p)
        (pends_next (pends_at pending (port p)) (get_or latest (port p) 0) (those_at port (port p) l) p (w.ports (port p) port-lt))

    other : (x : ℕ) → x < 64 → x ≢ port p → Pends (pends_at after x) (get_or (set latest (port p) p) x 0) (those_at port x (l ++ (p ∷ [])))
    other x h n =
        let same : pends_at after x ≡ pends_at pending x = ap (λ (d : ℕ). eqb d 1) (a.flipped.others x n) in
        rw (same, get_or-set_other latest (port p) x p 0 n, other_port port l p x (λ e. n (sym e))) (w.ports x h)

-- ---- the state of the loop
pub record Mating (ends odds : List ℕ) (i : ℕ) (before mates at_inputs : List ℕ) (pending_at_inputs : ℕ) (latest : List ℕ) (pending : ℕ) : Type 0 where
  pub all : AllMated ends (take i odds) before mates latest pending
  pub pends_at_inputs : PendingBy (tabled ends inputs) (take i odds) at_inputs pending_at_inputs

none_pends : (port : ℕ → ℕ) (latest : List ℕ) → Latest latest → PendingBy port [] latest 0
none_pends port latest w = record { known = w; ports = λ x h. rw (ne_eqb (digit 0 x) 1 (omega (arith, digit_none x))) refl }

pub all_free : Latest (replicate 64 0)
all_free = record { ports_64 = length-replicate {A = ℕ} 64 0; low = λ x h. omega (arith, get_or-replicate {A = ℕ} 64 x 0 0 h) }

pub mating_start : {ends odds mates latest : List ℕ} → WideEnds mates → Latest latest → Mating ends odds 0 mates mates (replicate 64 0) 0 latest 0
mating_start {ends} {odds} {mates} {latest} l w =
    record {
      all = record { len = l; at = λ s. record { same = tt; kept = λ r h al. refl }; pends = none_pends (tabled ends links) latest w };
      pends_at_inputs = none_pends (tabled ends inputs) (replicate 64 0) all_free;
    }

-- one more of the odd counts
module _ {ends odds : List ℕ} {i p : ℕ} (o : Odds odds) (low : LowEnds ends odds) (i_in : i < length odds) (e : p ≡ get_or odds i 0) where
  pub next_low : p < 528
  next_low = rw e (every_at (λ r. r < 528) i odds o.below i_in)

  next_port : (s : End) → tabled ends s p < 64
  next_port = rw e (every_at (λ r. (s : End) → tabled ends s r < 64) i odds low.each i_in)

  pub next_at_inputs : tabled ends inputs p < 64
  next_at_inputs = next_port inputs

  pub next_at_links : tabled ends links p < 64
  next_at_links = next_port links

  more : take (i + 1) odds ≡ take i odds ++ (p ∷ [])
  more = rw (add-one, e) (take-suc odds i 0 i_in)

  apart_more : Apart (take i odds ++ (p ∷ []))
  apart_more = rw more at (apart_take (i + 1) odds o.apart)

  below_more : Every (λ r. r < 528) (take i odds ++ (p ∷ []))
  below_more = rw more at (every_take (λ r. r < 528) (i + 1) odds o.below)

  module _ {before mates at_inputs latest : List ℕ} {pending_at_inputs pending : ℕ} (w : Mating ends odds i before mates at_inputs pending_at_inputs latest pending) where
    pub mating_on : {a b : ℕ} {half all at_inputs_after latest_after : List ℕ}
        → MatedAt 0 p (tabled ends inputs p) pending_at_inputs at_inputs mates a at_inputs_after half
        → MatedAt 528 p (tabled ends links p) pending latest half b latest_after all
        → Mating ends odds (i + 1) before all at_inputs_after a latest_after b
    mating_on {a} {b} {half} {all} {at_inputs_after} {latest_after} m n =
        record { all = rw more (record { len = second.len; at = at; pends = second.pends }); pends_at_inputs = rw more first.pends }
      where
        first : More 0 (tabled ends inputs) (take i odds) p mates a at_inputs_after half
        first =
            one_more 0 (tabled ends inputs) (take i odds) p pending_at_inputs at_inputs mates a at_inputs_after half (omega arith) next_low next_at_inputs apart_more
            w.all.len w.pends_at_inputs m

        second : More 528 (tabled ends links) (take i odds) p half b latest_after all
        second =
            one_more 528 (tabled ends links) (take i odds) p pending latest half b latest_after all (omega arith) next_low next_at_links apart_more
            first.len w.all.pends n

        at : (s : End) → MatedIn (tabled ends s) (take i odds ++ (p ∷ [])) (tabled before s) (tabled all s)
        at inputs =
            second.aside 0 (λ x y g k. omega arith) (tabled ends inputs) (take i odds ++ (p ∷ [])) (tabled before inputs) below_more
            (first.mated (tabled before inputs) (w.all.at inputs))
        at links =
            second.mated (tabled before links)
            (first.aside 528 (λ x y g k. omega arith) (tabled ends links) (take i odds) (tabled before links) (every_last (λ r. r < 528) (take i odds) p below_more).0 (w.all.at links))

pub mating_end : {ends odds : List ℕ} {i : ℕ} {before mates at_inputs latest : List ℕ} {pending_at_inputs pending : ℕ}
    → Mating ends odds i before mates at_inputs pending_at_inputs latest pending → i ≡ length odds → AllMated ends odds before mates latest pending
mating_end {ends} {odds} {i} {before} {mates} {latest = latest} {pending = pending} w e =
    let all : take i odds ≡ odds = ap (λ (n : ℕ). take n odds) e ∙ take-length odds in
    subst (λ (l : List ℕ). AllMated ends l before mates latest pending) all w.all
