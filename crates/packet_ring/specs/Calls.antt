-- What the ring's calls do, over what contracts see.
use Rattle.std.specs.Prelude.{◌≡◌, ◌⊎◌, ℕ, ◌+◌, ◌-◌, ◌^◌, ◌<◌, ◌≤◌, Bool, true, Some, Result, Ok, Err, List, [], ◌∷◌, ◌++◌, length}
use mathlib.Core.List.{IsPrefix}
use Rattle.cursor.specs.declared.packets.Packet.{Packet}
use Rattle.cursor.specs.declared.takes.Delivery.{Delivery}
use Rattle.cursor.specs.declared.takes.Delivery.TheVariants.{Got, Lost}
use Rattle.cursor.specs.declared.calls.Call.TheVariants.{Take}
use Rattle.cursor.specs.declared.calls.Answer.TheVariants.{Taken}
use Rattle.cursor.specs.Log.{Log, LogEvent}
use Rattle.cursor.specs.Account.{cursor_of}
use Rattle.cursor.specs.Taps.{Counts}
use Rattle.cursor.specs.declared.refusals.Refused as refusals
use Rattle.cursor.specs.declared.refusals.Refused.TheVariants as refusal
use Rattle.ring_steps.specs.declared.words.Head.{Head}
use Rattle.packet_ring.specs.Views.{Publishing, Subscribing, keep_of, packet_bytes_of, seats_of}

-- what was seen of a log before begins what is seen of it now, and is all of it if it was closed
pub record SeesOn (seen : List Packet) (closed : Bool) (seen' : List Packet) (closed' : Bool) : Type 0 where
  pub grows : IsPrefix seen seen'
  pub ended : closed ≡ true → (seen' ≡ seen) × (closed' ≡ true)

-- the broadcast log of these packets, with one seat, which is at this cursor
abbrev pub log_with : List Packet → (closed : Bool) → (cursor : ℕ) → Log
log_with packets closed c = record { packets = packets; closed = closed; cursors = Some c ∷ [] }

-- the head of the log of these packets
abbrev pub head_of : List Packet → (closed : Bool) → Head
head_of packets closed = record { length = length packets; closed = closed }

-- the head that a take's last load found is that of the log that is seen after it; but a packet's pin may have
-- shown, too, that this log was closed meanwhile
abbrev pub FindsLog : Delivery → (found : Head) → (seen : List Packet) → (closed : Bool) → Type 0
FindsLog (Got n p) h seen closed = (h.length ≡ length seen) × (h.closed ≡ true → closed ≡ true)
FindsLog d h seen closed = h ≡ head_of seen closed

-- a load of a log that kept the packet at the cursor, so that a pin was tried: it found no less than was known
-- before it, and no more than the next load found
pub record WasKept (keep known cursor seen : ℕ) : Type 0 where
  pub first : ℕ
  pub known_before : known ≤ first
  pub seen_later : first ≤ seen
  pub kept : first - keep ≤ cursor
  pub there : cursor < first

-- a take that made one load, and of which no pin failed
pub record LooksOnce (old new : Subscribing) : Type 0 where
  pub loads : new.loads ≡ old.loads + 1
  pub misses : new.misses ≡ old.misses

-- a take that made a second load, since one pin failed, of a packet that the first load found kept
pub record LooksTwice (old new : Subscribing) : Type 0 where
  pub loads : new.loads ≡ old.loads + 2
  pub misses : new.misses ≡ old.misses + 1
  pub first : WasKept (keep_of old.ring) (length old.seen) (cursor_of old.account) (length new.seen)

-- a take looks once, or, where it lost packets, perhaps twice
abbrev pub LooksFor : Delivery → (old new : Subscribing) → Type 0
LooksFor (Lost k) old new = LooksOnce old new ⊎ LooksTwice old new
LooksFor d old new = LooksOnce old new

-- a take of a subscriber: its answer is the broadcast log's at what its last load saw
pub record TakesNext (old : Subscribing) (answer : Delivery) (new : Subscribing) : Type 0 where
  pub event : LogEvent (keep_of old.ring) (log_with new.seen new.closed (cursor_of old.account)) (Take 0) (Taken answer) (log_with new.seen new.closed (cursor_of new.account))
  pub counts : Counts old.account answer new.account
  pub sees : SeesOn old.seen old.closed new.seen new.closed
  pub found : FindsLog answer new.found new.seen new.closed
  pub looks : LooksFor answer old new
  pub ring : new.ring ≡ old.ring

-- a publish that appended this packet, which is no longer than the ring takes, after fewer than 2 ^ 46 others
pub record AppendsTo (old : Publishing) (packet : Packet) (new : Publishing) : Type 0 where
  pub fits : length packet.bytes ≤ packet_bytes_of old.ring
  pub few : length old.log < 2 ^ 46
  pub after : new ≡ record old { log = old.log ++ packet ∷ [] }

-- a publish that was refused: for the packet's length; else because 2 ^ 46 packets were published; else for
-- the pins that its begin met in the packet's slot, which was one failed begin more
abbrev pub Refuses : (old : Publishing) → Packet → refusals.Refused → (new : Publishing) → Type 0
Refuses old p refusal.TooLong new = (packet_bytes_of old.ring < length p.bytes) × (new ≡ old)
Refuses old p refusal.Worn new = (length p.bytes ≤ packet_bytes_of old.ring) × (length old.log ≡ 2 ^ 46) × (new ≡ old)
Refuses old p (refusal.Pinned pins) new =
    (length p.bytes ≤ packet_bytes_of old.ring) × (length old.log < 2 ^ 46) × (1 ≤ pins) × (pins ≤ seats_of old.ring)
    × (new ≡ record old { failed = old.failed + 1; pins = pins })
Refuses old p refusal.OutOfMemory new = ⊥

-- a publish, as a feed tells it: by the packet's number, or a refusal
abbrev pub PublishesNext : (old : Publishing) → Packet → Result ℕ refusals.Refused → (new : Publishing) → Type 0
PublishesNext old p (Ok n) new = (n ≡ length old.log) × AppendsTo old p new
PublishesNext old p (Err refused) new = Refuses old p refused new

-- the refusals that a ring gives
abbrev pub RingMayRefuse : refusals.Refused → Type 0
RingMayRefuse (refusal.Pinned pins) = 1 ≤ pins
RingMayRefuse refusal.TooLong = Unit {0}
RingMayRefuse refusal.Worn = Unit {0}
RingMayRefuse refusal.OutOfMemory = ⊥

-- those that it gives while its one seat is at hand and reads nothing
abbrev pub NeverPinned : refusals.Refused → Type 0
NeverPinned (refusal.Pinned pins) = ⊥
NeverPinned refusal.TooLong = Unit {0}
NeverPinned refusal.Worn = Unit {0}
NeverPinned refusal.OutOfMemory = ⊥
