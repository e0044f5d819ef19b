-- What holds of the block between any two steps: its words, and the views of its tokens, are those of a
-- state of the ring that has the invariant.
use Rattle.std.specs.Prelude.{◌≡◌, ◌⊎◌, ℕ, ◌+◌, ◌%◌, ◌^◌, ◌==◌, ◌<◌, ◌≤◌, Bool, true, false, List, [], ◌∷◌, ◌++◌, map, length, take, drop, slice_index_or, replicate, if◌then◌else◌}
use mathlib.Core.Logic.{inl, inr}
use base.Stored.{Coded, coded×, coded⊎, coded_ℕ, coded_list, coded_via}
use Rattle.ring_steps.specs.declared.views.Publisher.{Publisher}
use Rattle.ring_steps.specs.declared.views.PublisherPhase.{PublisherPhase}
use Rattle.ring_steps.specs.declared.views.PublisherPhase.TheVariants as publishing
use Rattle.ring_steps.specs.declared.views.Seat.{Seat}
use Rattle.ring_steps.specs.declared.views.SeatPhase.{SeatPhase}
use Rattle.ring_steps.specs.declared.views.SeatPhase.TheVariants as seating
use Rattle.ring_steps.specs.declared.words.Slot.{Slot}
use Rattle.ring_steps.specs.contracts.views.Publisher as publisher
use Rattle.ring_steps.specs.contracts.views.Seat as seat
use Rattle.ring_steps.specs.Bits.{head_bits, word_bits}
use Rattle.ring_steps.specs.Ring as Ring
use Rattle.ring_steps.specs.Ring.{cursor, new_publisher, new_seat, slot, word}
use Rattle.ring_steps.specs.Slots.{Invariant}
use Rattle.packet_ring.specs.Table.{Access, exclusive, readable, Me, right_coded, State}

-- what a token knows: the publisher its log and its view, and a seat its view
abbrev pub View : Type 0
View = (List (List ℕ) × Publisher) ⊎ Seat

abbrev pub packet_coded : Coded (List ℕ)
packet_coded = coded_list coded_ℕ

abbrev pub view_coded : Coded View
view_coded = coded⊎ (coded× (coded_list packet_coded) publisher.the_row.coded) seat.the_row.coded

-- a token's view, its right and what it has seen
abbrev pub Knows : Type 0
Knows = Me View (List ℕ)

abbrev pub knows_coded : Coded Knows
knows_coded = coded_via (coded× view_coded (coded× right_coded (coded_list packet_coded))) (λ (me : Knows). (me.view, (me.right, me.seen))) (λ x y e i. record { view = (e i).0; right = (e i).1.0; seen = (e i).1.1 })

abbrev pub publisher_view : Ring.State → View
publisher_view s = inl (s.log, s.publisher)

abbrev pub seat_view : Seat → View
seat_view x = inr x

abbrev pub views_of : Ring.State → List View
views_of s = publisher_view s ∷ map seat_view s.seats

-- the words of the block's units: the head's, and then the slots'
abbrev pub words_of : Ring.State → List ℕ
words_of s = head_bits s.head ∷ map (λ x. word_bits x.word) s.slots

-- how many cells a unit has
abbrev pub head_cells : ℕ
head_cells = 7

-- the bytes of a packet that a unit's contents have: the tag, which is a byte of the second cell, and those behind
-- the cells
abbrev pub bytes_of : List ℕ → List ℕ
bytes_of x = slice_index_or x 1 0 % 256 ∷ drop head_cells x

-- a unit's first cell is the slot's length cell, and its bytes are the slot's
abbrev pub HasCells : List ℕ → Slot → Type 0
HasCells x t = (t.len ≡ slice_index_or x 0 0) × (take t.len t.bytes ≡ take t.len (bytes_of x))

-- 1 where a seat in this phase, whose cursor's slot is at `at`, holds its packet at j
abbrev pub hold_of : SeatPhase → (at j : ℕ) → ℕ
hold_of seating.Holding at j = if at == j then 1 else 0
hold_of seating.Reading at j = if at == j then 1 else 0
hold_of phase at j = 0

-- how many of these seats hold their packet in the slot at place j
abbrev pub holders : (keep : ℕ) → List Seat → (j : ℕ) → ℕ
holders keep [] j = 0
holders keep (x ∷ xs) j = hold_of x.phase (cursor x % (keep + 1)) j + holders keep xs j

-- the access to the cells of the slot at place j is exclusive exactly while it is written; else as many parts of the right
-- to read them are out as seats hold their packet there
abbrev pub AccessFits : Ring.State → (place : ℕ) → Access → Type 0
AccessFits s j exclusive = (word s j).writing ≡ true
AccessFits s j (readable m x) = ((word s j).writing ≡ false) × (m ≡ holders s.keep s.seats j) × HasCells x (slot s j)

-- a packet has at least its tag, and with it at most so many bytes
abbrev pub IsSized : (most : ℕ) → List ℕ → Type 0
IsSized m p = (1 ≤ length p) × (length p ≤ m)

-- so has the packet that a publisher in this phase publishes
abbrev pub IsPending : (most : ℕ) → PublisherPhase → List ℕ → Type 0
IsPending m publishing.Between p = Unit {0}
IsPending m φ p = IsSized m p

-- how many seats a ring has, and how many bytes a packet has at most, with its tag
abbrev pub Limits : Type 0
Limits = ℕ × ℕ

-- the log as tokens know it: its packets, and after them, once it is closed, an empty one, as no packet is
abbrev pub with_end : (closed : Bool) → List (List ℕ) → List (List ℕ)
with_end false log = log
with_end true log = log ++ [] ∷ []

-- the block is in this state of the ring
pub record Fits (L : Limits) (s : Ring.State) (t : State View (List ℕ)) : Type 0 where
  pub sound : Invariant s
  pub few : length s.seats ≡ L.0
  pub many : L.0 ≤ 1024
  pub packets : (n : ℕ) → n < length s.log → IsSized L.1 (slice_index_or s.log n [])
  pub pending : IsPending L.1 s.publisher.phase s.publisher.packet
  pub short : length s.log ≤ 2 ^ 46
  pub words : t.words ≡ words_of s
  pub views : t.views ≡ views_of s
  pub log : t.log ≡ with_end s.head.closed s.log
  pub accesses : (j : ℕ) → j ≤ s.keep → AccessFits s j (slice_index_or t.accesses (Prim.Native.Nat.suc j) exclusive)

abbrev pub Holds : Limits → State View (List ℕ) → Type 0
Holds L t = (s : Ring.State) × Fits L s t

-- a block of fresh units, and the views of a publisher and of seats that did nothing yet
abbrev pub fresh_units : (keep width : ℕ) → List (ℕ × List ℕ)
fresh_units keep width = (0, replicate width 0) ∷ replicate (keep + 1) (0, replicate width 0)

abbrev pub seat_views : (seats : ℕ) → List View
seat_views n = replicate n (inr new_seat)

abbrev pub fresh_views : (seats : ℕ) → List View
fresh_views n = inl ([], new_publisher) ∷ seat_views n
