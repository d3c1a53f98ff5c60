-- Rules 2 to 6 of the splitting, as stated; rule 1 is `Block` of Frames.
use Rattle.std.specs.Prelude.{ℕ, suc, zero, ◌+◌, ◌*◌, ◌%◌, ◌≤◌, ◌<◌, ◌≡◌, List, [], ◌∷◌, ◌++◌, Bool, true, false, not, eqb, ltb, length, get_or}
use Rattle.rules.specs.Words.{both, bit, up_from, keep, Near}
use Rattle.rules.specs.Flows.{End, inputs, links, Class, flow, port_on, input, output, link, total, Fits}

-- A block has a count for each flow, of which the input and the link are given; an odd one is named by its flow.

abbrev pub odd : List ℕ → ℕ → Bool
odd m p = eqb (get_or m p 0 % 2) 1

-- The odd counts of an input or a link, by rising flow number.
abbrev pub odds_at : (ℕ → ℕ) → List ℕ → ℕ → List ℕ
odds_at port m x = keep (λ p. both (odd m p) (eqb (port p) x)) (up_from 0 (length m))

-- Rule 3: first with second, third with fourth, and so on. A last one may stay single.
pub data Partners : List ℕ → ℕ → ℕ → Type 0 where
  these : {p q : ℕ} {l : List ℕ} → Partners (p ∷ q ∷ l) p q
  later : {x y p q : ℕ} {l : List ℕ} → Partners l p q → Partners (x ∷ y ∷ l) p q

-- The last one, where it stays single.
abbrev pub single : List ℕ → List ℕ
single [] = []
single (p ∷ []) = p ∷ []
single (p ∷ q ∷ l) = single l

-- The single ones that n links from x on leave, by rising link.
abbrev pub singles_of : (ℕ → ℕ) → List ℕ → ℕ → ℕ → List ℕ
singles_of port m x zero = []
singles_of port m x (suc n) = single (odds_at port m x) ++ singles_of port m (suc x) n

-- The odd counts that are partnered, in their order. At an input all of them, by rising flow number. At an output first those of one
-- link, by rising flow number; then the single ones left, at most one a link, by rising link.
abbrev pub partnered : Class → (End → ℕ → ℕ) → List ℕ → List ℕ
partnered (flow f) port m = []
partnered (port_on input i) port m = odds_at (port inputs) m i
partnered (port_on output o) port m = singles_of (port links) m (o * 4) 4
partnered (link x) port m = odds_at (port links) m x
partnered total port m = []

-- Two odd counts are partners, at some input, link or output.
abbrev pub Partnered : (End → ℕ → ℕ) → List ℕ → ℕ → ℕ → Type 0
Partnered port m p q = (c : Class) × Partners (partnered c port m) p q

-- Rule 5: a group is all odd counts joined by partnership, directly or through others. Here and below P says which two are partners.
pub data Joined (P : ℕ → ℕ → Type 0) (p : ℕ) : ℕ → Type 0 where
  itself : Joined P p p
  onward : {q r : ℕ} → Joined P p q → P q r → Joined P p r
  backward : {q r : ℕ} → Joined P p q → P r q → Joined P p r

-- The list has the numbers below n of which H holds, rising, and no others. The test by which they are kept decides H of every number, of
-- those from n on too.
pub record Lists (n : ℕ) (H : ℕ → Type 0) (l : List ℕ) : Type 0 where
  pub test : ℕ → Bool
  pub yes : (q : ℕ) → test q ≡ true → H q
  pub no : (q : ℕ) → test q ≡ false → H q → ⊥
  pub listed : l ≡ keep test (up_from 0 n)

-- A group is taken by its first count in the order of the flows, p; these are its counts, rising.
pub record Group (P : ℕ → ℕ → Type 0) (m : List ℕ) (p : ℕ) (group : List ℕ) : Type 0 where
  pub odd_count : odd m p ≡ true
  pub first : (q : ℕ) → Joined P p q → p ≤ q
  pub counts : Lists (length m) (Joined P p) group

-- A group with an odd number of counts is taken by p.
pub record OddGroup (P : ℕ → ℕ → Type 0) (m : List ℕ) (p : ℕ) : Type 0 where
  pub group : List ℕ
  pub taken : Group P m p group
  pub odd_number : length group % 2 ≡ 1

-- A count favours the first half if that gets more of it.
abbrev pub favours_first : List ℕ → List ℕ → ℕ → Bool
favours_first a b p = ltb (get_or b p 0) (get_or a p 0)

-- The n-th group with an odd number of counts has so many in all, of which so many favour the first half: these are more than
-- half of it if n is 1, 3, 5, .., else less.
abbrev pub LargerShare : ℕ → ℕ → ℕ → Type 0
LargerShare n all firsts = (n % 2 ≡ 1 → all < 2 * firsts) × (n % 2 ≡ 0 → 2 * firsts < all)

-- The counts m of a block, shared between its halves, a and b.
pub record Split (P : ℕ → ℕ → Type 0) (m a b : List ℕ) : Type 0 where
  pub first_size : length a ≡ length m
  pub second_size : length b ≡ length m
  -- Rule 2: an even count gives half to each, an odd one gives one half one cell more than the other.
  pub shared : (p : ℕ) → get_or a p 0 + get_or b p 0 ≡ get_or m p 0
  pub evenly : (p : ℕ) → Near 1 (get_or a p 0) (get_or b p 0)
  -- Rule 4: partners favour opposite halves.
  pub opposite : (p q : ℕ) → P p q → favours_first a b p ≡ not (favours_first a b q)
  -- Rule 5, the tie rule: in a group with an even number of counts the first one gives its extra cell to the first half.
  pub even_group : (p : ℕ) (group : List ℕ) → Group P m p group → length group % 2 ≡ 0 → favours_first a b p ≡ true
  -- A group with an odd number gives its larger share to the first half if it is the first, third, fifth, .. of such groups in
  -- the block, else to the second. Its number among them is one more than of those taken before it.
  pub odd_group : (p : ℕ) (group before : List ℕ) → Group P m p group → length group % 2 ≡ 1 → Lists p (OddGroup P m) before
      → LargerShare (suc (length before)) (length group) (length (keep (favours_first a b) group))

-- Rule 6: a block of one slot has counts 0 and 1 only, at most one 1 at each input and at each output. Those are the slot's cells: an entry
-- that is not 0 is the number of a flow of its input, and a flow's count is 1 where its number stands, else 0.
pub record Slot (ports : ℕ) (port : End → ℕ → ℕ) (m entries : List ℕ) : Type 0 where
  pub size : length entries ≡ ports
  pub few : Fits ports 1 port m
  pub own : (i f : ℕ) → i < ports → get_or entries i 0 ≡ suc f → (f < length m) × (port inputs f ≡ i)
  pub same : (f : ℕ) → f < length m → bit (eqb (get_or entries (port inputs f) 0) (suc f)) ≡ get_or m f 0

-- A block that is halved: the rules on each half, which R says, give the entries end to end.
pub record Halved (P : ℕ → ℕ → Type 0) (R : List ℕ → List ℕ → Type 0) (m entries : List ℕ) : Type 0 where
  pub first : List ℕ
  pub second : List ℕ
  pub front : List ℕ
  pub back : List ℕ
  pub split : Split P m first second
  pub first_half : R first front
  pub second_half : R second back
  pub joined : entries ≡ front ++ back

-- The entries of a block of 2 ^ k slots meet rules 1 to 6 for the counts m. The recursion goes down to single slots.
unfoldable pub Scheduled : ℕ → (End → ℕ → ℕ) → ℕ → List ℕ → List ℕ → Type 0
Scheduled ports port zero m entries = Slot ports port m entries
Scheduled ports port (suc k) m entries = Halved (Partnered port m) (Scheduled ports port k) m entries
