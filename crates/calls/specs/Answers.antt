-- What each call answers, case by case, in document 01's order: a second reading of the calls. A case says what holds and what is answered
-- then; of each call some case holds, and what a case says is the answer.
use Rattle.std.specs.Prelude.{ℕ, suc, ◌+◌, ◌-◌, ◌*◌, ◌%◌, ◌^◌, ◌≤◌, ◌<◌, ◌≡◌, true, List, [], ◌∷◌, pos, negsuc, length, get_or, take, drop}
use Rattle.rules.specs.Words.{Near, Within}
use Rattle.rules.specs.Flows.{stride, flows, output_of, port_of, counts_of, Side, other, Class, flow, port_on, input, output, link, OnSwitch, load, Fits}
use Rattle.rules.specs.Frames.{right_on, cells_on, run_of, repeated, Power, LegalOn, Block, BalancedOn}
use Rattle.rules.specs.Rules.{Scheduled}
use Rattle.strays.specs.Stray.{earliest}
use Rattle.calls.specs.Refusals.{admitted}
use Rattle.calls.specs.Work.{work}
use Rattle.calls.specs.Build.{frame_after, built}
use Rattle.calls.specs.Demand2.{Ported, Linked, Light, Over, Allows, Past, WellFormed, Accepts}
use Rattle.calls.specs.Inspect.{inspected}
use Rattle.calls.specs.Depth.{depth}
use Rattle.calls.specs.Service.{view_number, view_start, view_size, viewed, Reply, service}
use Rattle.calls.specs.declared.Who.{Who}
use Rattle.calls.specs.declared.Who.TheVariants.{Flow, Input, Output}

-- Some case holds of the answer, and what any case says is the answer.
abbrev pub Exactly : {A : Type 0} → (A → Type 0) → A → Type 0
Exactly {A} cases answer = cases answer × ((given : A) → cases given → given ≡ answer)

-- ---- 1 to 4 and 11, which calls have in common
-- 1, 2: every call begins with these.
pub data RackRefused (ports slots : ℕ) : ℕ → Type 0 where
  ports_1 : (Within 1 16 ports → ⊥) → RackRefused ports slots 1
  slots_2 : Within 1 16 ports → (Power slots → ⊥) → RackRefused ports slots 2

-- 1, 2, 3, 21, 22, 23: a call that is lent a list.
pub data LoadRefused (ports slots : ℕ) (list : List ℕ) : ℕ → Type 0 where
  rack : {n : ℕ} → RackRefused ports slots n → LoadRefused ports slots list n
  list_3 : Within 1 16 ports → Power slots → (length list % stride ≡ 0 → ⊥) → LoadRefused ports slots list 3
  flows_21 : Within 1 16 ports → Power slots → length list % stride ≡ 0 → (flows list ≤ 512 → ⊥) → LoadRefused ports slots list 21
  flow_22 : Within 1 16 ports → Power slots → length list % stride ≡ 0 → flows list ≤ 512 → (Ported ports list → ⊥) → LoadRefused ports slots list 22
  link_23 : Within 1 16 ports → Power slots → length list % stride ≡ 0 → flows list ≤ 512 → Ported ports list → (Linked list → ⊥)
      → LoadRefused ports slots list 23

-- 1, 2, 3, 21, 22, 23, 4: one that is lent a list and a frame.
pub data FrameRefused (ports slots : ℕ) (list entries : List ℕ) : ℕ → Type 0 where
  load_refused : {n : ℕ} → LoadRefused ports slots list n → FrameRefused ports slots list entries n
  frame_4 : WellFormed ports slots list → (length entries ≡ slots * ports → ⊥) → FrameRefused ports slots list entries 4

-- 1, 2, 4, 11: one that is lent a frame and asked about a slot of it.
pub data SlotRefused (ports slots : ℕ) (entries : List ℕ) (slot : ℕ) : ℕ → Type 0 where
  rack : {n : ℕ} → RackRefused ports slots n → SlotRefused ports slots entries slot n
  frame_4 : Within 1 16 ports → Power slots → (length entries ≡ slots * ports → ⊥) → SlotRefused ports slots entries slot 4
  slot_11 : Within 1 16 ports → Power slots → length entries ≡ slots * ports → (Within 1 slots slot → ⊥) → SlotRefused ports slots entries slot 11

-- None of these: slot s + 1 is one of the frame's.
pub record SlotFound (ports slots : ℕ) (entries : List ℕ) (slot s : ℕ) : Type 0 where
  pub rack : Within 1 16 ports
  pub power : Power slots
  pub size : length entries ≡ slots * ports
  pub low : s < slots
  pub number : slot ≡ suc s

-- ---- Admit
-- 1, 2, 3, 21, 22, 23; 5 with the lowest input above slots and its load; 6 likewise with outputs; 24 with the lowest link above its limit,
-- by its output and its number there, and its load; or accepted, which is 0.
pub data Admits (ports slots : ℕ) (list limits : List ℕ) : List ℕ → Type 0 where
  refused : {n : ℕ} → LoadRefused ports slots list n → Admits ports slots list limits (n ∷ [])
  input_5 : WellFormed ports slots list → (x : ℕ) → Over (port_on input) ports slots list x
      → Admits ports slots list limits (5 ∷ suc x ∷ load (port_on input x) list ∷ [])
  output_6 : WellFormed ports slots list → Light (port_on input) ports slots list → (x : ℕ) → Over (port_on output) ports slots list x
      → Admits ports slots list limits (6 ∷ suc x ∷ load (port_on output x) list ∷ [])
  link_24 : WellFormed ports slots list → Light (port_on input) ports slots list → Light (port_on output) ports slots list → (x : ℕ) → Past ports list limits x
      → Admits ports slots list limits (24 ∷ suc (output_of x) ∷ suc (x % 4) ∷ load (link x) list ∷ [])
  accepted : WellFormed ports slots list → Fits ports slots (port_of list) (counts_of list) → Allows ports list limits
      → Admits ports slots list limits (0 ∷ [])

-- ---- Build
-- The same with 4, each refusal with the entries that were lent; or accepted, which is 0 and the odd counts settled, with the entries
-- that meet the rules.
pub data Builds (ports slots : ℕ) (list limits buffer : List ℕ) : List ℕ × List ℕ → Type 0 where
  refused : {n : ℕ} → FrameRefused ports slots list buffer n → Builds ports slots list limits buffer (n ∷ [], buffer)
  input_5 : WellFormed ports slots list → length buffer ≡ slots * ports → (x : ℕ) → Over (port_on input) ports slots list x
      → Builds ports slots list limits buffer (5 ∷ suc x ∷ load (port_on input x) list ∷ [], buffer)
  output_6 : WellFormed ports slots list → length buffer ≡ slots * ports → Light (port_on input) ports slots list → (x : ℕ) → Over (port_on output) ports slots list x
      → Builds ports slots list limits buffer (6 ∷ suc x ∷ load (port_on output x) list ∷ [], buffer)
  link_24 : WellFormed ports slots list → length buffer ≡ slots * ports → Light (port_on input) ports slots list → Light (port_on output) ports slots list
      → (x : ℕ) → Past ports list limits x
      → Builds ports slots list limits buffer (24 ∷ suc (output_of x) ∷ suc (x % 4) ∷ load (link x) list ∷ [], buffer)
  accepted : (a : Accepts ports slots list limits buffer) (entries : List ℕ)
      → Scheduled ports (port_of list) a.well.power.k (counts_of list) entries
      → Builds ports slots list limits buffer (0 ∷ work ports slots list entries ∷ [], entries)

-- ---- Inspect
-- A fact holds of each of n numbers, and x is the first of which it does not.
abbrev pub Each : ℕ → (ℕ → Type 0) → Type 0
Each n Fact = (x : ℕ) → x < n → Fact x

pub record FirstNot (n : ℕ) (Fact : ℕ → Type 0) (x : ℕ) : Type 0 where
  pub low : x < n
  pub wrong : Fact x → ⊥
  pub before : (y : ℕ) → y < x → Fact y

-- A fact holds at each of rows × width places.
abbrev pub Throughout : ℕ → ℕ → (ℕ → ℕ → Type 0) → Type 0
Throughout rows width Fact = (r c : ℕ) → r < rows → c < width → Fact r c

-- Row r, column c is the first place where it does not: lowest row, then column.
pub record FirstWrong (rows width : ℕ) (Fact : ℕ → ℕ → Type 0) (r c : ℕ) : Type 0 where
  pub row : r < rows
  pub column : c < width
  pub wrong : Fact r c → ⊥
  pub rows_before : (y z : ℕ) → y < r → z < width → Fact y z
  pub columns_before : (z : ℕ) → z < c → Fact r z

-- The halves, half slots each from slot start on, differ by at most 1 for each flow, input, output and link and in total.
abbrev pub HalvesNear : Side → ℕ → List ℕ → List ℕ → ℕ → ℕ → Type 0
HalvesNear side ports list entries start half =
    (c : Class) → OnSwitch ports c → Near 1 (cells_on side ports list c (run_of ports start half entries)) (cells_on side ports list c (run_of ports (start + half) half entries))

-- The block of twice half slots from slot start on is the largest that is not so, and of those the earliest.
pub record FirstUnbalanced (side : Side) (ports slots : ℕ) (list entries : List ℕ) (start half : ℕ) : Type 0 where
  pub block : Block slots start (2 * half)
  pub unbalanced : HalvesNear side ports list entries start half → ⊥
  pub larger : (a h : ℕ) → half < h → Block slots a (2 * h) → HalvesNear side ports list entries a h
  pub earlier : (a : ℕ) → a < start → Block slots a (2 * half) → HalvesNear side ports list entries a half

-- No entry is wrong, no slot uses a port of the other side twice, each flow is in its cells of slots: place by place, and flow by flow.
abbrev pub EntryRight : Side → ℕ → List ℕ → List ℕ → ℕ → ℕ → Type 0
EntryRight side ports list entries s i = right_on side list i (get_or entries (s * ports + i) 0) ≡ true

abbrev pub PortOnce : Side → ℕ → List ℕ → List ℕ → ℕ → ℕ → Type 0
PortOnce side ports list entries s x = cells_on side ports list (port_on (other side) x) (run_of ports s 1 entries) ≤ 1

abbrev pub CountRight : Side → ℕ → List ℕ → List ℕ → ℕ → Type 0
CountRight side ports list entries f = cells_on side ports list (flow f) entries ≡ load (flow f) list

-- The first fault, in their order over the whole frame, with its place by numbers from 1; or clean, which is 0.
pub data Finds (side : Side) (ports slots : ℕ) (list entries : List ℕ) : List ℕ → Type 0 where
  entry_101 : {s i : ℕ} → FirstWrong slots ports (EntryRight side ports list entries) s i → Finds side ports slots list entries (101 ∷ suc s ∷ suc i ∷ [])
  port_102 : {s x : ℕ} → Throughout slots ports (EntryRight side ports list entries) → FirstWrong slots ports (PortOnce side ports list entries) s x
      → Finds side ports slots list entries (102 ∷ suc s ∷ suc x ∷ [])
  flow_103 : {f : ℕ} → Throughout slots ports (EntryRight side ports list entries) → Throughout slots ports (PortOnce side ports list entries)
      → FirstNot (flows list) (CountRight side ports list entries) f → Finds side ports slots list entries (103 ∷ suc f ∷ [])
  block_104 : {start half : ℕ} → LegalOn side ports slots list entries → FirstUnbalanced side ports slots list entries start half
      → Finds side ports slots list entries (104 ∷ suc start ∷ 2 * half ∷ [])
  clean_0 : LegalOn side ports slots list entries → BalancedOn side ports slots list entries → Finds side ports slots list entries (0 ∷ [])

-- 1, 2, 3, 21, 22, 23, 4; or what is found in the frame: the first fault, or clean.
pub data Inspects (side : Side) (ports slots : ℕ) (list entries : List ℕ) : List ℕ → Type 0 where
  refused : {n : ℕ} → FrameRefused ports slots list entries n → Inspects side ports slots list entries (n ∷ [])
  found : {given : List ℕ} → WellFormed ports slots list → length entries ≡ slots * ports → Finds side ports slots list entries given → Inspects side ports slots list entries given

-- ---- Slot view
-- The number, where in the frame the part begins, how many entries it has, and the entries: none on refusal.
pub data Views (ports slots : ℕ) (entries : List ℕ) (slot : ℕ) : ℕ × ℕ × ℕ × List ℕ → Type 0 where
  refused : {n : ℕ} → SlotRefused ports slots entries slot n → Views ports slots entries slot (n, 0, 0, [])
  seen : (s : ℕ) → SlotFound ports slots entries slot s → Views ports slots entries slot (0, s * ports, ports, take ports (drop (s * ports) entries))

-- ---- Service count
-- Whom a count is for, by numbers from 1, and what is counted, by numbers from 0.
pub data Names (ports : ℕ) (list : List ℕ) : Who → Class → Type 0 where
  of_flow : {f : ℕ} → f < flows list → Names ports list (Flow (suc f)) (flow f)
  of_input : {i : ℕ} → i < ports → Names ports list (Input (suc i)) (port_on input i)
  of_output : {o : ℕ} → o < ports → Names ports list (Output (suc o)) (port_on output o)

-- A run of a frame of a list begins at slot s + 1.
pub record RunFound (ports slots : ℕ) (list entries : List ℕ) (start s : ℕ) : Type 0 where
  pub well : WellFormed ports slots list
  pub size : length entries ≡ slots * ports
  pub low : s < slots
  pub number : start ≡ suc s

-- 1, 2, 3, 21, 22, 23, 4; 11 of the start; 12 where no flow of the list and no port is named; 13; each with lead 0. Or 0 and the cells of
-- the run, and the lead: n where slots × cells is n more than length × the cells of the whole frame, and −(n + 1), which is negsuc n,
-- where it is n + 1 less.
pub data Counts (side : Side) (ports slots : ℕ) (list entries : List ℕ) (who : Who) (start len : ℕ) : Reply → Type 0 where
  refused : {n : ℕ} → FrameRefused ports slots list entries n → Counts side ports slots list entries who start len (record { numbers = n ∷ []; ahead = pos 0 })
  start_11 : WellFormed ports slots list → length entries ≡ slots * ports → (Within 1 slots start → ⊥)
      → Counts side ports slots list entries who start len (record { numbers = 11 ∷ []; ahead = pos 0 })
  who_12 : {s : ℕ} → RunFound ports slots list entries start s → ((c : Class) → Names ports list who c → ⊥)
      → Counts side ports slots list entries who start len (record { numbers = 12 ∷ []; ahead = pos 0 })
  length_13 : {s : ℕ} → RunFound ports slots list entries start s → {c : Class} → Names ports list who c → 1000000 < len
      → Counts side ports slots list entries who start len (record { numbers = 13 ∷ []; ahead = pos 0 })
  counted_ahead : {s : ℕ} → RunFound ports slots list entries start s → {c : Class} → Names ports list who c → len ≤ 1000000
      → (n : ℕ) → slots * cells_on side ports list c (repeated ports slots entries s len) ≡ len * cells_on side ports list c entries + n
      → Counts side ports slots list entries who start len (record { numbers = 0 ∷ cells_on side ports list c (repeated ports slots entries s len) ∷ []; ahead = pos n })
  counted_behind : {s : ℕ} → RunFound ports slots list entries start s → {c : Class} → Names ports list who c → len ≤ 1000000
      → (n : ℕ) → slots * cells_on side ports list c (repeated ports slots entries s len) + suc n ≡ len * cells_on side ports list c entries
      → Counts side ports slots list entries who start len (record { numbers = 0 ∷ cells_on side ports list c (repeated ports slots entries s len) ∷ []; ahead = negsuc n })

-- ---- Depth
-- The furthest that the earliest cells of some of the first slots get above their share, where 2 ^ k slots have m cells: none gets further,
-- and one gets as far.
pub record Furthest (k m far : ℕ) : Type 0 where
  pub none_further : (t : ℕ) → t ≤ 2 ^ k → 2 ^ k * earliest k m t ≤ t * m + far
  pub slots : ℕ
  pub inside : slots ≤ 2 ^ k
  pub as_far : 2 ^ k * earliest k m slots ≡ slots * m + far

-- 1, 2, 3, 21, 22, 23; 5 and 6 as in Admit; 12 where no flow of the list and no port is named. Or 0, twice the furthest, and the whole cells of
-- 1 / slots less than one cell, of that and of the load.
pub data Depths (ports slots : ℕ) (list : List ℕ) (who : Who) : List ℕ → Type 0 where
  refused : {n : ℕ} → LoadRefused ports slots list n → Depths ports slots list who (n ∷ [])
  input_5 : WellFormed ports slots list → (x : ℕ) → Over (port_on input) ports slots list x
      → Depths ports slots list who (5 ∷ suc x ∷ load (port_on input x) list ∷ [])
  output_6 : WellFormed ports slots list → Light (port_on input) ports slots list → (x : ℕ) → Over (port_on output) ports slots list x
      → Depths ports slots list who (6 ∷ suc x ∷ load (port_on output x) list ∷ [])
  who_12 : WellFormed ports slots list → Fits ports slots (port_of list) (counts_of list) → ((c : Class) → Names ports list who c → ⊥)
      → Depths ports slots list who (12 ∷ [])
  bound : (w : WellFormed ports slots list) → Fits ports slots (port_of list) (counts_of list) → {c : Class} → Names ports list who c
      → (far : ℕ) → Furthest w.power.k (load c list) far
      → (cells : ℕ) → cells * slots ≤ slots - 1 + 2 * far + load c list → slots - 1 + 2 * far + load c list < cells * slots + slots
      → Depths ports slots list who (0 ∷ 2 * far ∷ cells ∷ [])

-- ---- what is shown
-- Of each call: its definition's answer is that of a case, and what any case says is that answer.
pub record ByCases : Type 0 where
  pub admit : (ports slots : ℕ) (list limits : List ℕ) → Exactly (Admits ports slots list limits) (admitted ports slots list limits)
  pub build : (ports slots : ℕ) (list limits buffer : List ℕ)
      → Exactly (Builds ports slots list limits buffer) (built ports slots list limits buffer, frame_after ports slots list limits buffer)
  pub inspect : (side : Side) (ports slots : ℕ) (list entries : List ℕ)
      → Exactly (Inspects side ports slots list entries) (inspected side ports slots list entries)
  pub view : (ports slots : ℕ) (entries : List ℕ) (slot : ℕ)
      → Exactly (Views ports slots entries slot) (view_number ports slots entries slot, view_start ports slots entries slot, view_size ports slots entries slot, viewed ports slots entries slot)
  pub count : (side : Side) (ports slots : ℕ) (list entries : List ℕ) (who : Who) (start len : ℕ)
      → Exactly (Counts side ports slots list entries who start len) (service side ports slots list entries who start len)
  pub depth_of : (ports slots : ℕ) (list : List ℕ) (who : Who) → Exactly (Depths ports slots list who) (depth ports slots list who)
