-- What a call leaves its token with.
use Rattle.std.specs.Prelude.{◌≡◌, ◌⊎◌, ℕ, ◌+◌, ◌-◌, ◌^◌, ◌<◌, ◌≤◌, Bool, true, false, List, [], ◌∷◌, ◌++◌, length, Some, slice_get}
use mathlib.Core.Logic.{inl, inr}
use mathlib.Core.List.{IsPrefix}
use Rattle.cursor.specs.declared.takes.Delivery.{Delivery}
use Rattle.cursor.specs.declared.takes.Delivery.TheVariants.{Got, Lost, Empty, Ended}
use Rattle.ring_steps.specs.declared.words.Head.{Head}
use Rattle.ring_steps.specs.declared.views.Seat.{Seat}
use Rattle.ring_steps.specs.Ring.{cursor}
use Rattle.ring_steps.specs.declared.views.PublisherPhase.TheVariants as publishing
use Rattle.packet_ring.specs.Table.{no_right}
use Rattle.packet_ring.specs.Rule.{Knows}
use Rattle.packet_ring.specs.Steps.{HasSeen, ends_at, log_of, publisher_of, seat_of, looked, lost_to, took}

-- a publish: the publisher's log has this packet more, of which it wrote each byte, and it is between calls
pub record Published (packet : List ℕ) (me next : Knows) : Type 0 where
  pub view : next.view ≡ inl (log_of me.view ++ packet ∷ [], record (publisher_of me.view) { phase = publishing.Between; packet = []; written = length packet })
  pub right : next.right ≡ no_right
  pub seen : next.seen ≡ log_of me.view ++ packet ∷ []

-- a publish that was refused for so many pins: the log is the same, and one begin more failed
pub record Pinned (seats pins : ℕ) (me next : Knows) : Type 0 where
  pub view : next.view ≡ inl (log_of me.view, record (publisher_of me.view) { failed = (publisher_of me.view).failed + 1; pins = pins })
  pub right : next.right ≡ no_right
  pub some : 1 ≤ pins
  pub few : pins ≤ seats
  pub grows : IsPrefix me.seen next.seen

-- a call of a seat whose last load saw this head, over a log of so many packets: no more were seen before,
-- and so many are seen now
pub record Looked (head : Head) (seen : ℕ) (me next : Knows) : Type 0 where
  pub size : head.length ≡ seen
  pub short : seen ≤ 2 ^ 46
  pub far : (k : ℕ) → HasSeen k me.seen → k ≤ seen
  pub has : HasSeen seen next.seen
  pub ended : head.closed ≡ true → ends_at next.seen seen ≡ true
  pub grows : IsPrefix me.seen next.seen

-- a take that gave this packet, of which the take's one load saw that it is there and is kept
pub record GotPacket (keep seen : ℕ) (x : Seat) (packet : List ℕ) (me next : Knows) : Type 0 where
  pub head : Head
  pub looked_at : Looked head seen me next
  pub kept : seen - keep ≤ cursor x
  pub there : cursor x < seen
  pub at : slice_get next.seen (cursor x) ≡ Some packet
  pub view : next.view ≡ inr (took (looked head x) packet)
  pub right : next.right ≡ no_right

-- a take that found no further packet in a log that was closed, or open
pub record FoundNone (closed : Bool) (seen : ℕ) (x : Seat) (me next : Knows) : Type 0 where
  pub head : Head
  pub looked_at : Looked head seen me next
  pub ends : seen ≡ cursor x
  pub saw : head.closed ≡ closed
  pub mark : ends_at next.seen seen ≡ closed
  pub view : next.view ≡ inr (looked head x)
  pub right : next.right ≡ no_right

-- a first load of a log of so many packets, no more than the second one found, which kept the packet at the cursor
pub record FirstKept (keep cursor seen : ℕ) (me : Knows) : Type 0 where
  pub first : ℕ
  pub far : (k : ℕ) → HasSeen k me.seen → k ≤ first
  pub before : first ≤ seen
  pub kept : first - keep ≤ cursor
  pub there : cursor < first

-- a take that lost so many packets, at least one: by its one load, or by its second one after a pin that failed
pub record LostSome (keep count seen : ℕ) (x : Seat) (me next : Knows) : Type 0 where
  pub head : Head
  pub looked_at : Looked head seen me next
  pub behind : cursor x < seen - keep
  pub lost : count ≡ seen - keep - cursor x
  pub mark : ends_at next.seen seen ≡ head.closed
  pub view : (next.view ≡ inr (lost_to head x count)) ⊎ ((next.view ≡ inr (lost_to head (record x { loads = x.loads + 1; misses = x.misses + 1 }) count)) × FirstKept keep (cursor x) seen me)
  pub right : next.right ≡ no_right

-- what a take gives, where the last of its loads saw a log of so many packets
abbrev pub Takes : (keep seen : ℕ) → (me : Knows) → Delivery → (next : Knows) → Type 0
Takes keep seen me (Got n p) next = (n ≡ cursor (seat_of me.view)) × GotPacket keep seen (seat_of me.view) (p.tag ∷ p.bytes) me next
Takes keep seen me (Lost k) next = LostSome keep k seen (seat_of me.view) me next
Takes keep seen me Empty next = FoundNone false seen (seat_of me.view) me next
Takes keep seen me Ended next = FoundNone true seen (seat_of me.view) me next
