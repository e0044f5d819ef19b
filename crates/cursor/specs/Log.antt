-- The broadcast log: its state, which answers it may give to each call, and its legal histories.
use Rattle.std.specs.Prelude.{◌≡◌, ℕ, ◌+◌, ◌-◌, ◌<◌, ◌≤◌, Bool, true, false, Option, Some, None, List, [], ◌∷◌, ◌++◌, length, min, slice_get, slice_set, replicate}
use Rattle.cursor.specs.declared.packets.Packet.{Packet}
use Rattle.cursor.specs.declared.takes.Delivery.TheVariants.{Got, Lost, Empty, Ended}
use Rattle.cursor.specs.declared.takes.Left.{Left}
use Rattle.cursor.specs.declared.calls.Call.{Call}
use Rattle.cursor.specs.declared.calls.Call.TheVariants.{Publish, Close, Attach, Take, Detach}
use Rattle.cursor.specs.declared.calls.Answer.{Answer}
use Rattle.cursor.specs.declared.calls.Answer.TheVariants.{Appended, Refused, Closed, Attached, Taken, Detached}

-- a packet with this tag and these bytes
abbrev pub packet_of : (tag : ℕ) → (bytes : List ℕ) → Packet
packet_of tag bytes = record { tag = tag; bytes = bytes }

-- the broadcast log: all packets in order, whether it is closed, and each seat's cursor, the number
-- of the next packet for it, or None where the seat isn't attached
pub record Log : Type 0 where
  pub packets : List Packet
  pub closed : Bool
  pub cursors : List (Option ℕ)

-- the log that nobody used yet, with so many seats
abbrev pub empty_log : (seats : ℕ) → Log
empty_log seats = record { packets = []; closed = false; cursors = replicate seats None }

-- the log with a seat's cursor changed
abbrev pub with_cursor : Log → (seat : ℕ) → Option ℕ → Log
with_cursor log seat cursor = record log { cursors = slice_set log.cursors seat cursor }

-- the number of the oldest packet that is kept: the last `keep` of them are
abbrev pub floor : (keep : ℕ) → Log → ℕ
floor keep log = length log.packets - keep

-- the number from which a seat reads that asks for so many packets back from the end of a log of this
-- length: it is given what it asks for, but no more than are kept, and no more than there are
abbrev pub back_from : (keep back count : ℕ) → ℕ
back_from keep back count = count - min back (min keep count)

-- a log that keeps so many packets may answer this to the call, and go on from old to new
abbrev pub LogEvent : (keep : ℕ) → (old : Log) → Call → Answer → (new : Log) → Type 0
LogEvent keep old (Publish p) (Appended n) new =
    (old.closed ≡ false) × (n ≡ length old.packets) × (new ≡ record old { packets = old.packets ++ p ∷ [] })
LogEvent keep old (Publish p) Refused new = (old.closed ≡ false) × (new ≡ old)
LogEvent keep old Close Closed new = (old.closed ≡ false) × (new ≡ record old { closed = true })
LogEvent keep old (Attach s n) (Attached c) new =
    (slice_get old.cursors s ≡ Some None) × (c ≡ back_from keep n (length old.packets)) × (new ≡ with_cursor old s (Some c))
LogEvent keep old (Take s) (Taken (Got n p)) new =
    (slice_get old.cursors s ≡ Some (Some n)) × (floor keep old ≤ n) × (slice_get old.packets n ≡ Some p)
    × (new ≡ with_cursor old s (Some (n + 1)))
LogEvent keep old (Take s) (Taken (Lost k)) new =
    (c : ℕ) × (slice_get old.cursors s ≡ Some (Some c)) × (c < floor keep old) × (k ≡ floor keep old - c)
    × (new ≡ with_cursor old s (Some (c + k)))
LogEvent keep old (Take s) (Taken Empty) new =
    (slice_get old.cursors s ≡ Some (Some (length old.packets))) × (old.closed ≡ false) × (new ≡ old)
LogEvent keep old (Take s) (Taken Ended) new =
    (slice_get old.cursors s ≡ Some (Some (length old.packets))) × (old.closed ≡ true) × (new ≡ old)
LogEvent keep old (Detach s) (Detached l) new =
    (c : ℕ) × (slice_get old.cursors s ≡ Some (Some c)) × (l.left ≡ length old.packets - c)
    × (new ≡ with_cursor old s None)
-- no other answer is given to a call
LogEvent keep old call answer new = ⊥

-- a call and its answer
pub record Event : Type 0 where
  pub call : Call
  pub answer : Answer

-- a seat was attached, asked for so many packets back, and reads from this number on
abbrev pub attached_at : (seat back start : ℕ) → Event
attached_at seat back start = record { call = Attach seat back; answer = Attached start }

-- a seat was detached, and was told this
abbrev pub detached_with : (seat : ℕ) → Left → Event
detached_with seat left = record { call = Detach seat; answer = Detached left }

-- these events may follow one another, from old to new
abbrev pub Run : (keep : ℕ) → (old : Log) → List Event → (new : Log) → Type 0
Run keep old [] new = new ≡ old
Run keep old (e ∷ es) new = (mid : Log) × LogEvent keep old e.call e.answer mid × Run keep mid es new

-- a legal history: events from the empty open log on, which lead to this log
abbrev pub LegalHistory : (keep : ℕ) → (seats : ℕ) → List Event → Log → Type 0
LegalHistory keep seats events log = Run keep (empty_log seats) events log
