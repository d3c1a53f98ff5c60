-- The steps of a split, as functions of the lists that they are lent.
use Rattle.std.specs.Prelude.{ℕ, suc, zero, ◌+◌, ◌%◌, ◌≤◌, ◌<◌, ◌≡◌, ◌≢◌, List, [], ◌∷◌, ◌++◌, Bool, true, false, eqb, length, get_or, set}
use Rattle.rules.specs.Words.{if, bit, up_from, keep, Every}
use Rattle.rules.specs.Flows.{End, inputs, links, output_of}
use Rattle.rules.specs.Rules.{odd, single}
use Rattle.rules.specs.Schedule.{partner_in, favours}
use Rattle.rules.proofs.Lists.{Apart}
use Rattle.rules.proofs.Singles.{mate}
use Rattle.bits.specs.Digits.{digit, FlippedAt}
use Rattle.planes.specs.Planes.{digit_at, counts_in, odds_in, words_of, Mask}
use Rattle.planes.specs.Steps.{Gathered}
use Rattle.planes.specs.Tables.{WideEnds, tabled}

-- ---- the ends of positions
-- The digits of a word that are 1 are those of outputs, of which there are 16.
abbrev pub Outputs : ℕ → Type 0
Outputs multi = (o : ℕ) → digit multi o ≡ 1 → o < 16

-- A table has inputs and links below 64 for the first n positions, and an output without its digit in a word has positions on its first
-- link alone.
pub record Sides (n multi : ℕ) (ends : List ℕ) : Type 0 where
  pub low : (s : End) (p : ℕ) → p < n → tabled ends s p < 64
  pub few : Outputs multi
  pub others : (p : ℕ) → p < n → digit multi (output_of (tabled ends links p)) ≡ 0 → tabled ends links p % 4 ≡ 0

-- A list has positions, none of them twice; and a table has inputs and links below 64 for them.
pub record Odds (odds : List ℕ) : Type 0 where
  pub below : Every (λ p. p < 528) odds
  pub apart : Apart odds

pub record LowEnds (ends l : List ℕ) : Type 0 where
  pub each : Every (λ p. (s : End) → tabled ends s p < 64) l

-- ---- partners
-- Those of a list at port x.
abbrev pub those_at : (ℕ → ℕ) → ℕ → List ℕ → List ℕ
those_at port x l = keep (λ p. eqb (port p) x) l

-- The partner of p among those of a list at its port.
abbrev pub mate_among : (ℕ → ℕ) → List ℕ → ℕ → ℕ
mate_among port l p = partner_in (those_at port (port p) l) p

-- Each of a list has its partner among them, and every other position what it had.
pub record MatedIn (port : ℕ → ℕ) (l : List ℕ) (before mates : ℕ → ℕ) : Type 0 where
  pub same : Every (λ p. mates p ≡ mate_among port l p) l
  pub kept : (r : ℕ) → r < 528 → Every (λ p. p ≢ r) l → mates r ≡ before r

-- h waits among those of a list, or none does.
abbrev pub Pends : Bool → ℕ → List ℕ → Type 0
Pends true h l = single l ≡ h ∷ []
Pends false h l = single l ≡ []

-- One waits at port x: a word has a digit for each port.
abbrev pub pends_at : ℕ → ℕ → Bool
pends_at pending x = eqb (digit pending x) 1

-- Whoever came latest to one of 64 ports is a position; and of a list, who waits at each.
pub record Latest (latest : List ℕ) : Type 0 where
  pub ports_64 : length latest ≡ 64
  pub low : (x : ℕ) → x < 64 → get_or latest x 0 < 528

pub record PendingBy (port : ℕ → ℕ) (l latest : List ℕ) (pending : ℕ) : Type 0 where
  pub known : Latest latest
  pub ports : (x : ℕ) → x < 64 → Pends (pends_at pending x) (get_or latest x 0) (those_at port x l)

-- Two are made partners of each other at an end; the two may be one.
abbrev pub paired : ℕ → ℕ → ℕ → List ℕ → List ℕ
paired first p q mates = set (set mates (first + p) q) (first + q) p

-- At an end p, which has port x there, is mated with the one that waits at x, or with itself; and has come latest.
pub record MatedAt (first p x pending : ℕ) (latest mates : List ℕ) (after : ℕ) (latest_after mates_after : List ℕ) : Type 0 where
  pub mated : mates_after ≡ paired first p (if (pends_at pending x) (get_or latest x 0) p) mates
  pub came : latest_after ≡ set latest x p
  pub flipped : FlippedAt pending x after

-- Each of a list is mated at both ends, and who waits at the links is known.
pub record AllMated (ends l before mates latest : List ℕ) (pending : ℕ) : Type 0 where
  pub len : WideEnds mates
  pub at : (s : End) → MatedIn (tabled ends s) l (tabled before s) (tabled mates s)
  pub pends : PendingBy (tabled ends links) l latest pending

-- Those that wait at n ports from x on, in their order.
abbrev pub pending_at : List ℕ → ℕ → ℕ → List ℕ
pending_at latest pending x = if (pends_at pending x) (get_or latest x 0 ∷ []) []

abbrev pub pending_from : List ℕ → ℕ → ℕ → ℕ → List ℕ
pending_from latest pending x zero = []
pending_from latest pending x (suc n) = pending_at latest pending x ++ pending_from latest pending (suc x) n

-- Those of a list without one twice are mated in it at their links, and nothing else is changed.
pub record Joins (l before mates : List ℕ) : Type 0 where
  pub len : WideEnds mates
  pub at_links : Apart l → MatedIn (λ p. 0) l (tabled before links) (tabled mates links)
  pub at_inputs : (r : ℕ) → r < 528 → tabled mates inputs r ≡ tabled before inputs r

-- A list has the odd counts of m, by rising position.
abbrev pub OddsOf : List ℕ → List ℕ → Type 0
OddsOf odds m = odds ≡ keep (odd m) (up_from 0 (length m))

-- Each odd count has its partner at its input and at its output, and every other count what it had.
pub record MatedBy (multi : ℕ) (ends odds before mates : List ℕ) : Type 0 where
  pub len : WideEnds mates
  pub same : (m : List ℕ) → OddsOf odds m → Sides (length m) multi ends → (s : End) (p : ℕ) → odd m p ≡ true
      → tabled mates s p ≡ mate (tabled ends) m s p
  pub kept : (m : List ℕ) → OddsOf odds m → (s : End) (p : ℕ) → p < 528 → odd m p ≡ false → tabled mates s p ≡ tabled before s p

-- ---- the split
-- A mask has the odd counts that favour half h by the rules, over the ends that a table has, however many planes are read.
pub record Favours (h n : ℕ) (planes ends mask : List ℕ) : Type 0 where
  pub odds : Mask n planes mask
  pub has : (m p : ℕ) → p < n → digit_at mask p ≡ bit (eqb (get_or (favours (tabled ends) (counts_in (suc m) planes n)) p 0) h)

-- What a split of the first n counts answers, r, and leaves in the three lists that it is lent.
pub record Splits (n : ℕ) (planes ends odds_before mates_before mask_before : List ℕ) (r : ℕ) (odds mates mask : List ℕ) : Type 0 where
  -- The answer is how many counts are odd, and the list has their positions in front and behind them what it had.
  pub listed : Gathered n planes odds_before odds r
  -- The table has a place for each end of each position.
  pub len : WideEnds mates
  -- Each odd count has its partner at its input and at its output, however many planes are read.
  pub mated : (m : ℕ) (s : End) → Every (λ p. tabled mates s p ≡ mate (tabled ends) (counts_in (suc m) planes n) s p) (odds_in n planes)
  -- Every other place of the table has what it had.
  pub kept : (s : End) (p : ℕ) → p < 528 → Every (λ q. q ≢ p) (odds_in n planes) → tabled mates s p ≡ tabled mates_before s p
  -- The mask has the odd counts that favour the first half.
  pub favoured : Favours 1 n planes ends mask
  -- Behind the words that n positions take the mask has what it had.
  pub behind : (w : ℕ) → words_of n ≤ w → get_or mask w 0 ≡ get_or mask_before w 0
