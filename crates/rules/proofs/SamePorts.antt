-- Ports that are the same for each flow of a block: each count then favours the same half, and the frame is the same.
use Prim.Native.Nat.{ℕ, suc, zero, ◌*◌, ◌≤◌, ◌<◌}
use mathlib.Core.Path.{◌≡◌, refl, sym, ap, ap₂, ◌∙◌, fun_ext}
use mathlib.Core.Logic.{◌≢◌}
use mathlib.Core.List.{List, [], ◌∷◌, ◌++◌}
use mathlib.Core.Bool.{true}
use native.Mathlib.Omega.{arith}
use lib.Dec.{eqb}
use lib.ListN.{length, set, replicate}
use Rattle.rules.specs.Words.{if, both, up_from, keep, Every}
use Rattle.rules.specs.Flows.{End, inputs, links, output_of}
use Rattle.rules.specs.Rules.{odd, odds_at, single, singles_of}
use Rattle.rules.specs.Schedule.{partner_in, partner, output_partner, favours_by, favours, half_by, half_of, put, slot_of, frame_of}
use Rattle.rules.proofs.Cases.{by_lt}
use Rattle.rules.proofs.Lists.{every_map}
use Rattle.rules.proofs.Kept.{keep_every, keep_same}
use Rattle.rules.proofs.Partners.{in_none, odd_lt, AtPort, odds_every}
use Rattle.rules.proofs.Singles.{Single, singles_every, output_single}
use Rattle.rules.proofs.Settled.{favours_law}
use Rattle.rules.proofs.Splits.{half_length}

module _ (m : List ℕ) (p : ℕ) (h : length m ≤ p) where
  odds_below : (port : ℕ → ℕ) (x : ℕ) → Every (λ q. q ≢ p) (odds_at port m x)
  odds_below port x =
      every_map (AtPort port m x) (λ q. q ≢ p) (λ q k. let l = odd_lt m q k.0 in omega arith) (odds_at port m x) (odds_every port m x)

  partner_none : (port : ℕ → ℕ) → partner port m p ≡ p
  partner_none port = in_none (odds_at port m (port p)) p (odds_below port (port p))

  output_none : (port : ℕ → ℕ) → output_partner port m p ≡ p
  output_none port =
      let x = output_of (port p) * 4 in
      output_single port m p (partner_none port)
      ∙ in_none (singles_of port m x 4) p
      (every_map (Single port m x 4) (λ q. q ≢ p) (λ q s. let l = odd_lt m q s.odd_count in omega arith) (singles_of port m x 4) (singles_every port m x 4))

module _ (f g : ℕ → ℕ) (m : List ℕ) (e : (p : ℕ) → p < length m → f p ≡ g p) where
  odds_same : (x : ℕ) → odds_at f m x ≡ odds_at g m x
  odds_same x = keep_same (λ q. both (odd m q) (eqb (f q) x)) (λ q. both (odd m q) (eqb (g q) x)) 0 (length m) (λ q k. rw (e q (omega arith)))

  partner_same : (p : ℕ) → partner f m p ≡ partner g m p
  partner_same p =
      by_lt p (length m)
      (λ h. ap (λ (x : ℕ). partner_in (odds_at f m x) p) (e p h) ∙ ap (λ (l : List ℕ). partner_in l p) (odds_same (g p)))
      (λ h. partner_none m p h f ∙ sym (partner_none m p h g))

  singles_same : (x n : ℕ) → singles_of f m x n ≡ singles_of g m x n
  singles_same x zero = refl
  singles_same x (suc n) = ap₂ (λ (l r : List ℕ). single l ++ r) (odds_same x) (singles_same (suc x) n)

  output_same : (p : ℕ) → output_partner f m p ≡ output_partner g m p
  output_same p =
      by_lt p (length m)
      (λ h. ap₂ (λ (q : ℕ) (l : List ℕ). if (eqb q p) (partner_in l p) q) (partner_same p)
      (ap (λ (y : ℕ). singles_of f m (output_of y * 4) 4) (e p h) ∙ singles_same (output_of (g p) * 4) 4))
      (λ h. output_none m p h f ∙ sym (output_none m p h g))

favours_same : (f g : End → ℕ → ℕ) (m : List ℕ) → ((s : End) (p : ℕ) → p < length m → f s p ≡ g s p) → favours f m ≡ favours g m
unfolding favours
favours_same f g m e =
    ap₂ (λ (i o : ℕ → ℕ). favours_by i o m)
    (fun_ext (partner_same (f inputs) (g inputs) m (e inputs))) (fun_ext (output_same (f links) (g links) m (e links)))

-- ---- the frame
put_same : (f g : End → ℕ → ℕ) (n : ℕ) → ((p : ℕ) → p < n → f inputs p ≡ g inputs p) → (l slot : List ℕ) → Every (λ p. p < n) l → put f l slot ≡ put g l slot
put_same f g n e [] slot al = refl
put_same f g n e (p ∷ l) slot al =
    ap (λ (x : ℕ). put f l (set slot x (suc p))) (e p al.0) ∙ put_same f g n e l (set slot (g inputs p) (suc p)) al.1

-- a slot is written by the inputs alone
slot_same : (ports : ℕ) (f g : End → ℕ → ℕ) (m : List ℕ) → ((p : ℕ) → p < length m → f inputs p ≡ g inputs p) → slot_of ports f m ≡ slot_of ports g m
unfolding slot_of
slot_same ports f g m e =
    put_same f g (length m) e (keep (odd m) (up_from 0 (length m))) (replicate ports 0)
    (every_map (λ p. (odd m p ≡ true) × (p < length m)) (λ p. p < length m) (λ p k. k.1) (keep (odd m) (up_from 0 (length m)))
    (keep_every (odd m) (length m) 0 (length m) (omega arith)))

pub frame_same : (ports : ℕ) (f g : End → ℕ → ℕ) (k : ℕ) (m : List ℕ) → ((s : End) (p : ℕ) → p < length m → f s p ≡ g s p)
    → frame_of ports f k m ≡ frame_of ports g k m
unfolding frame_of
frame_same ports f g zero m e = slot_same ports f g m (e inputs)
frame_same ports f g (suc k) m e =
    ap (λ (c : List ℕ). frame_of ports f k (half_by 1 m c) ++ frame_of ports f k (half_by 2 m c)) (favours_same f g m e)
    ∙ ap₂ ◌++◌ (frame_same ports f g k (half_of g 1 m) (half 1)) (frame_same ports f g k (half_of g 2 m) (half 2))
  where
    half : (h : ℕ) (s : End) (p : ℕ) → p < length (half_of g h m) → f s p ≡ g s p
    half h s p l = e s p (omega (arith, half_length h m (favours g m) (favours_law g m).len))
