-- Entries by words: a digit for each port that the flow of an entry has.
use Rattle.std.specs.Prelude.{ℕ, suc, zero, ◌+◌, ◌*◌, ◌^◌, ◌≤◌, ◌<◌, ◌≡◌, ◌≢◌, List, Bool, false, not, eqb, length, get_or}
use Rattle.std.specs.Int.Bits.{bit_or}
use Rattle.rules.specs.Words.{sum_to}
use Rattle.rules.specs.Flows.{flows, Side, other, on_side, port_of}
use Rattle.bits.specs.Digits.{digit}

-- An answer is true where a fact does not hold, and only there.
pub record Denies (Fact : Type 0) (answer : Bool) : Type 0 where
  pub known : answer ≡ false → Fact
  pub met : Fact → answer ≡ false

-- The word of an entry that is 0 or a flow: a digit for the flow's port of the other side, and one for its port of the frame's own, 16 above.
unfoldable pub word_of : Side → List ℕ → ℕ → ℕ
word_of side list zero = 0
word_of side list (suc f) = bit_or (2 ^ on_side (other side) (port_of list) f) (2 ^ (16 + on_side side (port_of list) f))

-- The words of entries up to the number of n flows.
pub record WordsTo (side : Side) (list : List ℕ) (n : ℕ) (words : List ℕ) : Type 0 where
  pub size : length words ≡ 513
  pub each : (e : ℕ) → e ≤ n → get_or words e 0 ≡ word_of side list e

abbrev pub Words : Side → List ℕ → List ℕ → Type 0
Words side list words = WordsTo side list (flows list) words

-- The word of the entry of port i in a slot.
unfoldable pub word_at : ℕ → List ℕ → List ℕ → ℕ → ℕ → ℕ
word_at ports words entries s i = get_or words (get_or entries (s * ports + i) 0) 0

-- n words together: each digit that one of them has.
unfoldable pub together : ℕ → (ℕ → ℕ) → ℕ
together zero word = 0
together (suc n) word = bit_or (together n word) (word n)

-- The words of a slot have no digit in common, read off their sum, which is above what they are together where two of them have.
abbrev pub Apart : ℕ → (ℕ → ℕ) → Type 0
Apart n word = sum_to n word ≡ together n word

-- `new` is `old`, columns of words, with the first n words of a slot put in.
pub record ColumnsRead (n : ℕ) (word : ℕ → ℕ) (old new : List ℕ) : Type 0 where
  pub size : length new ≡ 16
  pub each : (i : ℕ) → i < n → get_or new i 0 ≡ bit_or (get_or old i 0) (word i)
  pub others : (i : ℕ) → n ≤ i → get_or new i 0 ≡ get_or old i 0

-- A slot read: its words in their columns, and whether two of them have a digit in common.
pub record SlotRead (ports : ℕ) (words entries : List ℕ) (slot : ℕ) (old new : List ℕ) (answer : Bool) : Type 0 where
  pub columns : ColumnsRead ports (word_at ports words entries slot) old new
  pub told : answer ≡ not (eqb (sum_to ports (word_at ports words entries slot)) (together ports (word_at ports words entries slot)))

-- A word has a digit for no port of the frame's side but i.
abbrev pub OwnDigits : ℕ → ℕ → Type 0
OwnDigits word i = (y : ℕ) → y ≢ i → digit word (16 + y) ≡ 0

-- The word of each column has a digit for no port of the frame's side but its own.
abbrev pub ColumnsOwn : ℕ → List ℕ → Type 0
ColumnsOwn ports columns = (i : ℕ) → i < ports → OwnDigits (get_or columns i 0) i

-- The words of each slot have no digit in common, and none has one for a port of the frame's side but its own.
pub record FrameApart (ports slots : ℕ) (words entries : List ℕ) : Type 0 where
  pub apart : (s : ℕ) → s < slots → Apart ports (word_at ports words entries s)
  pub own : (s i : ℕ) → s < slots → i < ports → OwnDigits (word_at ports words entries s i) i
