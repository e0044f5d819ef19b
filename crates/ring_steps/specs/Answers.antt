-- The broadcast log that a ring is now and the one that a seat's last load saw, and which answered step is an event of which.
use Rattle.std.specs.Prelude.{◌≡◌, ℕ, Option, Some, None, List, map, slice_get, take}
use Rattle.cursor.specs.declared.packets.Packet.{Packet}
use Rattle.cursor.specs.declared.calls.Call.{Call}
use Rattle.cursor.specs.declared.calls.Call.TheVariants as calls
use Rattle.cursor.specs.declared.calls.Answer.{Answer}
use Rattle.cursor.specs.Log.{Log, LogEvent}
use Rattle.ring_steps.specs.declared.calls.PublisherCall.{PublisherCall}
use Rattle.ring_steps.specs.declared.calls.PublisherCall.TheVariants.{Publish, Close}
use Rattle.ring_steps.specs.declared.calls.SeatCall.{SeatCall}
use Rattle.ring_steps.specs.declared.calls.SeatCall.TheVariants.{Attach, Take, Detach}
use Rattle.ring_steps.specs.declared.views.Seat.{Seat}
use Rattle.ring_steps.specs.declared.views.SeatPhase.{SeatPhase}
use Rattle.ring_steps.specs.declared.views.SeatPhase.TheVariants as seating
use Rattle.ring_steps.specs.Ring.{State, cursor}

-- the call, by the name that it has in the history of the log. Packets have tag 0
abbrev pub publisher_call : PublisherCall → Call
publisher_call (Publish p) = calls.Publish (record { tag = 0; bytes = p })
publisher_call Close = calls.Close

abbrev pub seat_call : (seat : ℕ) → SeatCall → Call
seat_call i (Attach n) = calls.Attach i n
seat_call i Take = calls.Take i
seat_call i Detach = calls.Detach i

-- the bytes as a packet of the log
abbrev pub packet_of : List ℕ → Packet
packet_of bytes = record { tag = 0; bytes = bytes }

-- a seat's cursor in the log, by its phase: None where it is detached
abbrev pub cursor_in : SeatPhase → (cursor : ℕ) → Option ℕ
cursor_in seating.Out c = None
cursor_in seating.Between c = Some c
cursor_in seating.Found c = Some c
cursor_in seating.Holding c = Some c
cursor_in seating.Reading c = Some c
cursor_in seating.Failed c = Some c
cursor_in seating.Missed c = Some c

abbrev pub seat_cursor : Seat → Option ℕ
seat_cursor x = cursor_in x.phase (cursor x)

-- the broadcast log that the ring is now
abbrev pub log_now : State → Log
log_now s = record { packets = map packet_of s.log; closed = s.publisher.closed; cursors = map seat_cursor s.seats }

-- the broadcast log as the last load of a seat with this view saw it, with the cursors of now
abbrev pub log_seen : State → Seat → Log
log_seen s x = record { packets = map packet_of (take x.seen s.log); closed = x.saw_closed; cursors = map seat_cursor s.seats }

-- an answered step of the publisher is an event of the log that the ring is; a step without an answer
-- leaves that log as it is
abbrev pub PublisherTells : State → PublisherCall → Option Answer → State → Type 0
PublisherTells s call None t = log_now t ≡ log_now s
PublisherTells s call (Some a) t = LogEvent s.keep (log_now s) (publisher_call call) a (log_now t)

-- an answered step of a seat is an event of the log as the seat's last load saw it: a packet acts at
-- the take's first load, and every other answer at this step's own; a step without an answer moves no
-- cursor
abbrev pub SeatTells : State → (seat : ℕ) → SeatCall → Option Answer → State → Type 0
SeatTells s i call None t = log_now t ≡ log_now s
SeatTells s i call (Some a) t =
    (y : Seat) × (slice_get t.seats i ≡ Some y) × LogEvent s.keep (log_seen s y) (seat_call i call) a (log_seen t y)
