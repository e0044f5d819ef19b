-- What each kind of atomic step tells the token that makes it.
use Rattle.std.specs.Prelude.{◌≡◌, ◌≢◌, ℕ, ◌≤◌, ◌<◌, ◌+◌, ◌-◌, ◌^◌, ◌==◌, Bool, false, true, nat_lt, List, [], ◌∷◌, ◌++◌, length, take, Some, slice_get, slice_index_or, if◌then◌else◌}
use mathlib.Core.Logic.{inl, inr}
use mathlib.Core.List.{IsPrefix}
use Rattle.cursor.specs.Log.{back_from}
use Rattle.ring_steps.specs.declared.words.Head.{Head}
use Rattle.ring_steps.specs.declared.words.Word.{Word}
use Rattle.ring_steps.specs.declared.views.Publisher.{Publisher}
use Rattle.ring_steps.specs.declared.views.PublisherPhase.{PublisherPhase}
use Rattle.ring_steps.specs.declared.views.PublisherPhase.TheVariants as publishing
use Rattle.ring_steps.specs.declared.views.Seat.{Seat}
use Rattle.ring_steps.specs.declared.views.SeatPhase.{SeatPhase}
use Rattle.ring_steps.specs.declared.views.SeatPhase.TheVariants as seating
use Rattle.ring_steps.specs.Bits.{head_bits, word_bits}
use Rattle.ring_steps.specs.Ring.{cursor, new_publisher, new_seat}
use Rattle.ring_steps.specs.Step.{holds}
use Rattle.packet_ring.specs.Table.{Right, no_right, may_read, may_end, may_write}
use Rattle.packet_ring.specs.Rule.{IsSized, Knows, Limits, View, bytes_of, with_end}

-- a slot's word with the writing bit alone, and with the number 1 alone
abbrev pub writing_bit : ℕ
writing_bit = 65536

abbrev pub one_number : ℕ
one_number = 131072

-- a seat's view once it loaded this head
abbrev pub looked : Head → Seat → Seat
looked h x = record x { seen = h.length; saw_closed = h.closed; loads = x.loads + 1 }

-- its view once it is attached so many packets back, in a ring that keeps so many
abbrev pub attached : (keep back : ℕ) → Head → Seat → Seat
attached keep n h x = record (looked h x) { phase = seating.Between; account = record { start = back_from keep n h.length; taken = 0; lost = 0 } }

abbrev pub detached : Head → Seat → Seat
detached h x = record (looked h x) { phase = seating.Out }

-- a load of the head by a seat, in a ring that keeps so many packets: its view becomes `f` of the head that
-- it found, and it has seen the whole log of that length
pub record Loads (keep : ℕ) (f : Head → Seat → Seat) (x : Seat) (me : Knows) (found : ℕ) (next : Knows) : Type 0 where
  pub head : Head
  pub bits : found ≡ head_bits head
  pub short : head.length ≤ 2 ^ 46
  -- after a pin that failed, the packet at the cursor is no longer kept
  pub behind : x.phase ≡ seating.Missed → cursor x < head.length - keep
  pub view : next.view ≡ inr (f head x)
  pub right : next.right ≡ me.right
  pub log : List (List ℕ)
  pub size : length log ≡ head.length
  pub full : (n : ℕ) → n < length log → 1 ≤ length (slice_index_or log n [])
  pub seen : next.seen ≡ with_end head.closed log
  pub grows : IsPrefix me.seen next.seen

-- an append by the publisher: its log grows by the pending packet, and it has seen the whole of it
pub record Appends (log : List (List ℕ)) (p : Publisher) (me next : Knows) : Type 0 where
  pub view : next.view ≡ inl (log ++ p.packet ∷ [], record p { phase = publishing.Between; packet = [] })
  pub right : next.right ≡ me.right
  pub seen : next.seen ≡ log ++ p.packet ∷ []

-- a close by the publisher
pub record Closes (log : List (List ℕ)) (p : Publisher) (me next : Knows) : Type 0 where
  pub view : next.view ≡ inl (log, record p { closed = true })
  pub right : next.right ≡ me.right
  pub seen : next.seen ≡ log ++ [] ∷ []

-- so many packets were seen, none of which is empty
pub record HasSeen (count : ℕ) (seen : List (List ℕ)) : Type 0 where
  pub within : count ≤ length seen
  pub full : (n : ℕ) → n < count → 1 ≤ length (slice_index_or seen n [])

-- what was seen has the log's end after so many packets
abbrev pub ends_at : (seen : List (List ℕ)) → (count : ℕ) → Bool
ends_at [] k = false
ends_at ([] ∷ xs) Prim.Native.Nat.zero = true
ends_at ((b ∷ p) ∷ xs) Prim.Native.Nat.zero = false
ends_at (x ∷ xs) (Prim.Native.Nat.suc k) = ends_at xs k

-- the contents hold a packet: its length, and its bytes
pub record HasPacket (cells packet : List ℕ) : Type 0 where
  pub size : slice_index_or cells 0 0 ≡ length packet
  pub bytes : take (length packet) (bytes_of cells) ≡ packet

-- a pin by a seat: it saw this word, and where its pin holds it may read the cells, which hold the packet
-- at its cursor
pub record Pins (most unit : ℕ) (x : Seat) (me : Knows) (found : ℕ) (next : Knows) : Type 0 where
  pub word : Word
  pub bits : found ≡ word_bits word
  pub view : next.view ≡ inr (record x { phase = if holds word (cursor x) then seating.Holding else seating.Failed })
  pub held : holds word (cursor x) ≡ true → (cells : List ℕ) × (packet : List ℕ) × (next.right ≡ may_read unit cells) × (slice_get next.seen (cursor x) ≡ Some packet) × HasPacket cells packet × IsSized most packet
  pub failed : holds word (cursor x) ≡ false → next.right ≡ no_right
  pub few : word.pins ≤ 1024
  pub grows : IsPrefix me.seen next.seen

-- a seat's view, and a publisher's log and view
abbrev pub seat_of : View → Seat
seat_of (inl u) = new_seat
seat_of (inr x) = x

abbrev pub log_of : View → List (List ℕ)
log_of (inl u) = u.0
log_of (inr x) = []

abbrev pub publisher_of : View → Publisher
publisher_of (inl u) = u.1
publisher_of (inr x) = new_publisher

-- a token is the seat's with this number, which has this view; or the publisher's, with this log and view
pub record IsSeat (number : ℕ) (me : Knows) (phase : SeatPhase) : Type 0 where
  pub place : ℕ
  pub at : number ≡ Prim.Native.Nat.suc place
  pub seat : me.view ≡ inr (seat_of me.view)
  pub within : (seat_of me.view).phase ≡ phase

pub record IsPublisher (number : ℕ) (me : Knows) (phase : PublisherPhase) : Type 0 where
  pub at : number ≡ 0
  pub publisher : me.view ≡ inl (log_of me.view, publisher_of me.view)
  pub within : (publisher_of me.view).phase ≡ phase

-- a seat's view after the unpin of a pin that failed, and after the unpin with which it took this packet
abbrev pub missed : Seat → Seat
missed x = record x { phase = seating.Missed; misses = x.misses + 1 }

abbrev pub took : Seat → (packet : List ℕ) → Seat
took x p = record x { phase = seating.Between; account = record x.account { taken = x.account.taken + 1 }; length = length p; read = p }

-- an unpin by a seat, which leaves it this view
pub record Unpins (y : Seat) (me next : Knows) : Type 0 where
  pub view : next.view ≡ inr y
  pub right : next.right ≡ no_right
  pub grows : IsPrefix me.seen next.seen

-- a begin by the publisher, of this packet: it saw this word. Where it was the word that the publisher
-- knows, it may end the cells' round; else it keeps the pins that it saw, and that it was refused
pub record Begins (seats unit : ℕ) (log : List (List ℕ)) (p : Publisher) (packet : List ℕ) (known : ℕ) (me : Knows) (found : ℕ) (next : Knows) : Type 0 where
  pub word : Word
  pub bits : found ≡ word_bits word
  pub begun : found ≡ known → (cells : List ℕ) × (next.view ≡ inl (log, record p { phase = publishing.Begun; packet = packet; written = 0 })) × (next.right ≡ may_end unit cells)
  pub refused : found ≢ known → (next.view ≡ inl (log, record p { failed = p.failed + 1; pins = word.pins })) × (next.right ≡ no_right) × (1 ≤ word.pins) × (word.pins ≤ seats) × (seats ≤ 1024)
  pub grows : IsPrefix me.seen next.seen

-- a finish by the publisher
pub record Finishes (log : List (List ℕ)) (p : Publisher) (me next : Knows) : Type 0 where
  pub view : next.view ≡ inl (log, record p { phase = publishing.Finished; written = length p.packet })
  pub right : next.right ≡ no_right
  pub grows : IsPrefix me.seen next.seen

-- a seat's view after a load that lost so many packets; after a take's first load; and after its second, in
-- a ring that keeps so many packets
abbrev pub lost_to : Head → Seat → (count : ℕ) → Seat
lost_to h x k = record (looked h x) { phase = seating.Between; account = record x.account { lost = x.account.lost + k } }

abbrev pub first_seen : (keep : ℕ) → Head → Seat → Seat
first_seen keep h x =
    if h.length == cursor x then looked h x
    else (if nat_lt (cursor x) (h.length - keep) then lost_to h x (h.length - keep - cursor x) else record (looked h x) { phase = seating.Found })

abbrev pub second_seen : (keep : ℕ) → Head → Seat → Seat
second_seen keep h x = lost_to h x (h.length - keep - cursor x)

-- a step on a word: the ring's limits, how many units the block has, which unit's word it is, and the step's operands
pub record Step : Type 0 where
  pub limits : Limits
  pub units : ℕ
  pub unit : ℕ
  pub first : ℕ
  pub second : ℕ

abbrev pub step : Limits → (units unit first second : ℕ) → Step
step L n i a b = record { limits = L; units = n; unit = i; first = a; second = b }

-- a token may read the cells of this unit
abbrev pub MayRead : Right → (unit : ℕ) → Type 0
MayRead r u = (cells : List ℕ) × (r ≡ may_read u cells)

-- and it may write them
abbrev pub MayWrite : Right → (unit : ℕ) → Type 0
MayWrite r u = (cells : List ℕ) × (r ≡ may_write u cells)

-- a token may write the contents of this unit, which hold the packet
abbrev pub MayWritePacket : Right → (unit : ℕ) → (packet : List ℕ) → Type 0
MayWritePacket r u p = (cells : List ℕ) × (r ≡ may_write u cells) × HasPacket cells p

-- the packet at a seat's cursor, in the log that its token has seen
abbrev pub next_packet : Knows → List ℕ
next_packet me = slice_index_or me.seen (cursor (seat_of me.view)) []

-- a token may end the round of this unit's cells, which hold the packet
abbrev pub MayEnd : Right → (unit : ℕ) → (packet : List ℕ) → Type 0
MayEnd r u p = (cells : List ℕ) × (r ≡ may_end u cells) × HasPacket cells p
