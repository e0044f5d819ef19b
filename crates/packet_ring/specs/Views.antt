-- What contracts see of a ring's publisher, receipts, passes and subscribers, and what holds of each.
use Rattle.std.specs.Prelude.{◌≡◌, ℕ, ◌+◌, ◌-◌, ◌*◌, ◌/◌, ◌^◌, ◌<◌, ◌≤◌, Bool, false, List, [], ◌∷◌, map, length, take, if◌then◌else◌}
use mathlib.Core.List.{IsPrefix}
use Rattle.cursor.specs.declared.packets.Packet.{Packet}
use Rattle.cursor.specs.declared.takes.Account.{Account}
use Rattle.cursor.specs.Log.{packet_of}
use Rattle.cursor.specs.Account.{cursor_of}
use Rattle.ring_steps.specs.declared.words.Head.{Head}
use Rattle.ring_steps.specs.declared.views.PublisherPhase.TheVariants as publishing
use Rattle.ring_steps.specs.declared.views.SeatPhase.{SeatPhase}
use Rattle.ring_steps.specs.declared.views.SeatPhase.TheVariants as seating
use Rattle.packet_ring.specs.Table.{no_right}
use Rattle.packet_ring.specs.Lent.{BlockId, unit_at}
use Rattle.packet_ring.specs.Steps.{HasSeen, IsPublisher, IsSeat, ends_at, log_of, publisher_of, seat_of}
use Rattle.packet_ring.specs.declared.block.Token.{Token}

-- which ring it is
abbrev pub RingId : Type 0
RingId = BlockId

-- how many packets a ring keeps, how many seats it has, and how many bytes a packet has at most
abbrev pub keep_of : RingId → ℕ
keep_of z = z.units - 2

abbrev pub seats_of : RingId → ℕ
seats_of z = z.limits.0

abbrev pub packet_bytes_of : RingId → ℕ
packet_bytes_of z = z.limits.1 - 1

-- how many bytes a ring's block has: each unit is a word, its cells and its places for bytes, in eights of bytes
abbrev pub block_bytes : RingId → ℕ
block_bytes z = z.units * (8 * (z.width + 1 + z.room))

-- no two of a ring's words, the head's and the slots', share a cache line of 64 bytes, at whatever address its memory
-- begins
abbrev pub HasOwnLines : RingId → Type 0
HasOwnLines z = (address i j : ℕ) → i < j → (address + unit_at z i) / 64 < (address + unit_at z j) / 64

-- a packet as the ring has it: its tag, and then its bytes
abbrev pub packet_from : List ℕ → Packet
packet_from [] = packet_of 0 []
packet_from (tag ∷ bytes) = packet_of tag bytes

abbrev pub packets_from : List (List ℕ) → List Packet
packets_from ps = map packet_from ps

-- a publisher: its ring, the packets that it published, how many of its publishes were refused for pins, and
-- how many pins the last of these met
pub record Publishing : Type 0 where
  pub ring : RingId
  pub log : List Packet
  pub failed : ℕ
  pub pins : ℕ

abbrev pub publishing_of : Token → Publishing
publishing_of t = record {
  ring = t.id;
  log = packets_from (log_of t.me.view);
  failed = (publisher_of t.me.view).failed;
  pins = (publisher_of t.me.view).pins;
}

-- a receipt: its ring, and the log that ended with its packet, or the closed log
pub record Receipted : Type 0 where
  pub ring : RingId
  pub log : List Packet
  pub closed : Bool

abbrev pub receipted : RingId → (log : List Packet) → (closed : Bool) → Receipted
receipted z log closed = record { ring = z; log = log; closed = closed }

-- the number that a receipt tells: its packet's, or the length of the closed log
abbrev pub number_of : Receipted → ℕ
number_of r = if r.closed then length r.log else length r.log - 1

-- what was known of a ring's log: its first packets, and whether it was closed after them
pub record Known : Type 0 where
  pub ring : RingId
  pub log : List Packet
  pub closed : Bool

-- a pass: its ring, the longest log that it has seen or was told of, whether that is closed, how many loads
-- its seat made and how many pins of it failed, and the head that the last load found (before any, that of an
-- empty open log)
pub record Passing : Type 0 where
  pub ring : RingId
  pub seen : List Packet
  pub closed : Bool
  pub loads : ℕ
  pub misses : ℕ
  pub found : Head

-- a subscriber: the same, and its attachment's account
pub record Subscribing : Type 0 where
  pub ring : RingId
  pub seen : List Packet
  pub closed : Bool
  pub loads : ℕ
  pub misses : ℕ
  pub found : Head
  pub account : Account

-- the receipt of what was told: so many packets
abbrev pub receipt_of : RingId → (log : List (List ℕ)) → (count : ℕ) → (closed : Bool) → Receipted
receipt_of z log count closed = receipted z (packets_from (take count log)) closed

-- what was told of a log: its first `count` packets, and whether it ends there
abbrev pub known_of : RingId → (log : List (List ℕ)) → (count : ℕ) → Known
known_of z log count = record { ring = z; log = packets_from (take count log); closed = ends_at log count }

-- the first `known` packets that a token has seen
abbrev pub seen_by : Token → (known : ℕ) → List Packet
seen_by t known = packets_from (take known t.me.seen)

-- the head that its seat's last load found
abbrev pub found_by : Token → Head
found_by t = record { length = (seat_of t.me.view).seen; closed = (seat_of t.me.view).saw_closed }

abbrev pub passing_of : Token → (known : ℕ) → Passing
passing_of t known = record { ring = t.id; seen = seen_by t known; closed = ends_at t.me.seen known; loads = (seat_of t.me.view).loads; misses = (seat_of t.me.view).misses; found = found_by t }

abbrev pub subscribing_of : Token → (known : ℕ) → Account → Subscribing
subscribing_of t known a = record { ring = t.id; seen = seen_by t known; closed = ends_at t.me.seen known; loads = (seat_of t.me.view).loads; misses = (seat_of t.me.view).misses; found = found_by t; account = a }

-- a pass that did nothing yet
abbrev pub new_pass : RingId → Passing
new_pass z = record { ring = z; seen = []; closed = false; loads = 0; misses = 0; found = record { length = 0; closed = false } }

-- a token of this ring is its publisher's, between two calls, and so many packets were published
pub record IsPublishing (z : RingId) (t : Token) (count : ℕ) : Type 0 where
  pub same : t.id ≡ z
  pub publisher : IsPublisher t.number t.me publishing.Between
  pub free : t.me.right ≡ no_right
  pub goes_on : (publisher_of t.me.view).closed ≡ false
  pub counted : count ≡ length (log_of t.me.view)
  pub few : count ≤ 2 ^ 46
  pub full : HasSeen count (log_of t.me.view)
  pub tells : IsPrefix (log_of t.me.view) t.me.seen

-- a token of this ring is a seat's, in this phase, and knows of so many packets
pub record IsSeated (z : RingId) (t : Token) (phase : SeatPhase) (known : ℕ) : Type 0 where
  pub same : t.id ≡ z
  pub seat : IsSeat t.number t.me phase
  pub free : t.me.right ≡ no_right
  pub has : HasSeen known t.me.seen
  pub short : known ≤ 2 ^ 46

-- such a token is attached, with this account
pub record IsSubscribed (z : RingId) (t : Token) (known : ℕ) (a : Account) : Type 0 where
  pub seated : IsSeated z t seating.Between known
  pub account : (seat_of t.me.view).account ≡ a
  pub within : cursor_of a ≤ known

-- a log that was told has so many packets
pub record IsKnown (log : List (List ℕ)) (count : ℕ) : Type 0 where
  pub has : HasSeen count log
  pub few : count ≤ 2 ^ 46

-- the last of them is a receipt's, or the log is closed after them
pub record IsReceipted (log : List (List ℕ)) (count : ℕ) (closed : Bool) : Type 0 where
  pub has : HasSeen count log
  pub some : closed ≡ false → 1 ≤ count
  pub few : count ≤ 2 ^ 46
  pub mark : ends_at log count ≡ closed

-- a block's sizes: what it keeps, how many places for bytes a unit has, in eights, and how many bytes a packet at most
pub record HasSizes (z : RingId) (keep room packet_bytes : ℕ) : Type 0 where
  pub units : z.units ≡ keep + 2
  pub wide : z.width ≡ 7
  pub roomy : z.room ≡ room
  pub most : z.limits.1 ≡ packet_bytes + 1
  pub some : 1 ≤ keep
  pub few : keep ≤ 4095
  pub narrow : room ≤ 8192
  pub fits : packet_bytes ≤ 8 * room
  pub bound : packet_bytes ≤ 65535
