-- A plain log, which keeps an account for each attached seat: its state, its events, which calls may be made, and the replies to
-- a list of calls.
use Rattle.std.specs.Prelude.{◌≡◌, ℕ, ◌≤◌, Bool, false, Option, Some, None, Result, Ok, Err, List, [], ◌∷◌, length, map, option_map, slice_get, slice_set, slice_index_or, replicate, unwrap_or}
use Rattle.cursor.specs.declared.packets.Packet.{Packet}
use Rattle.cursor.specs.declared.takes.Account.{Account}
use Rattle.cursor.specs.declared.takes.Delivery.{Delivery}
use Rattle.cursor.specs.declared.calls.Call.{Call}
use Rattle.cursor.specs.declared.calls.Call.TheVariants.{Publish, Close, Attach, Take, Detach}
use Rattle.cursor.specs.declared.calls.Answer.{Answer}
use Rattle.cursor.specs.declared.calls.Answer.TheVariants.{Appended, Attached, Taken, Detached}
use Rattle.cursor.specs.declared.refusals.Refused as refusals
use Rattle.cursor.specs.declared.refusals.Refused.TheVariants as refusal
use Rattle.cursor.specs.Log.{Log, LogEvent, Event}
use Rattle.cursor.specs.Account.{counted, cursor_of}
use Rattle.cursor.specs.Taps.{Counts}

-- a plain log: what it keeps for its seats, the longest packet that it takes, all packets in order,
-- whether it is closed, and each seat's account, or None where the seat isn't attached
pub record Plain : Type 0 where
  pub keep : ℕ
  pub packet_bytes : ℕ
  pub packets : List Packet
  pub closed : Bool
  pub seats : List (Option Account)

abbrev pub plain_of : (keep packet_bytes : ℕ) → List Packet → Bool → List (Option Account) → Plain
plain_of keep packet_bytes packets closed seats =
    record { keep = keep; packet_bytes = packet_bytes; packets = packets; closed = closed; seats = seats }

-- the plain log that nobody used yet, with so many seats
abbrev pub empty_plain : (keep seats packet_bytes : ℕ) → Plain
empty_plain keep seats packet_bytes = plain_of keep packet_bytes [] false (replicate seats None)

-- the broadcast log that a plain log is
abbrev pub log_of : Plain → Log
log_of plain = record { packets = plain.packets; closed = plain.closed; cursors = map (option_map cursor_of) plain.seats }

-- the seat is there, and isn't attached
abbrev pub IsFree : Plain → (seat : ℕ) → Type 0
IsFree plain s = slice_get plain.seats s ≡ Some None

-- the seat is attached, with this account
abbrev pub HasAccount : Plain → (seat : ℕ) → Account → Type 0
HasAccount plain s a = slice_get plain.seats s ≡ Some (Some a)

-- the seat is there, and is attached
abbrev pub IsAttached : Plain → (seat : ℕ) → Type 0
IsAttached plain s = (a : Account) × HasAccount plain s a

-- the accounts after a call and its answer
abbrev pub accounts_after : List (Option Account) → Call → Answer → List (Option Account)
accounts_after seats (Attach s n) (Attached c) = slice_set seats s (Some (record { start = c; taken = 0; lost = 0 }))
accounts_after seats (Take s) (Taken d) = slice_set seats s (option_map (counted d) (slice_index_or seats s None))
accounts_after seats (Detach s) (Detached l) = slice_set seats s None
accounts_after seats call answer = seats

-- a detachment tells the packets taken and lost of the seat's account
abbrev pub TellsAccount : Plain → Call → Answer → Type 0
TellsAccount plain (Detach s) (Detached l) = (a : Account) × HasAccount plain s a × (l.taken ≡ a.taken) × (l.lost ≡ a.lost)
TellsAccount plain call answer = Unit {0}

-- the plain log may answer this to the call, and go on from old to new: one log event, by which the
-- accounts go on, and a detachment tells its account
pub record PlainEvent (old : Plain) (call : Call) (answer : Answer) (new : Plain) : Type 0 where
  pub event : LogEvent old.keep (log_of old) call answer (log_of new)
  pub accounts : new.seats ≡ accounts_after old.seats call answer
  pub told : TellsAccount old call answer
  pub keep : new.keep ≡ old.keep
  pub packet_bytes : new.packet_bytes ≡ old.packet_bytes

-- a take of a seat may give this, and lead from old to new
abbrev pub TakesAt : (seat : ℕ) → (old : Plain) → Delivery → (new : Plain) → Type 0
TakesAt seat old answer new = PlainEvent old (Take seat) (Taken answer) new

-- the refusals that a plain log gives
abbrev pub PlainMayRefuse : refusals.Refused → Type 0
PlainMayRefuse (refusal.Pinned pins) = ⊥
PlainMayRefuse refusal.TooLong = Unit {0}
PlainMayRefuse refusal.Worn = ⊥
PlainMayRefuse refusal.OutOfMemory = Unit {0}

-- a publish at a plain log is the log's event; a refused one leaves all as it is
abbrev pub Publishes : (old : Plain) → Packet → Result ℕ refusals.Refused → (new : Plain) → Type 0
Publishes old packet (Ok number) new = PlainEvent old (Publish packet) (Appended number) new
Publishes old packet (Err refusal) new = new ≡ old

-- what is true of each plain log: packets have at most `packet_bytes` bytes, which are at most 65,535,
-- and no seat is past the end of the log
pub record IsSound (plain : Plain) : Type 0 where
  pub bound : plain.packet_bytes ≤ 65535
  pub fits : (n : ℕ) (p : Packet) → slice_get plain.packets n ≡ Some p → length p.bytes ≤ plain.packet_bytes
  pub within : (s : ℕ) (a : Account) → HasAccount plain s a → cursor_of a ≤ length plain.packets

-- a plain log with the seat that a tap reads for
pub record Tapped : Type 0 where
  pub log : Plain
  pub seat : ℕ

-- the account of that seat
abbrev pub tapped_account : Tapped → Account
tapped_account tap = unwrap_or (slice_index_or tap.log.seats tap.seat None) (record { start = 0; taken = 0; lost = 0 })

-- a take of the tap is a take of its seat, whose account goes on by the answer
pub record TakesFrom (old : Tapped) (answer : Delivery) (new : Tapped) : Type 0 where
  pub event : PlainEvent old.log (Take old.seat) (Taken answer) new.log
  pub seat : new.seat ≡ old.seat
  pub counts : Counts (tapped_account old) answer (tapped_account new)

-- these events of a plain log may follow one another, from old to new
abbrev pub PlainRun : (old : Plain) → List Event → (new : Plain) → Type 0
PlainRun old [] new = new ≡ old
PlainRun old (e ∷ es) new = (mid : Plain) × PlainEvent old e.call e.answer mid × PlainRun mid es new

-- the call may be made now: nothing is published or closed after the end, no longer packet than the
-- log takes is published, and each seat attaches and detaches in turn
abbrev pub MayMake : Plain → Call → Type 0
MayMake plain (Publish p) = (plain.closed ≡ false) × (length p.bytes ≤ plain.packet_bytes)
MayMake plain Close = plain.closed ≡ false
MayMake plain (Attach s n) = IsFree plain s
MayMake plain (Take s) = IsAttached plain s
MayMake plain (Detach s) = IsAttached plain s

-- a call is answered, by an event, if it may be made, and else isn't and changes nothing
abbrev pub Replied : (old : Plain) → Call → Option Answer → (new : Plain) → Type 0
Replied old call (Some answer) new = MayMake old call × PlainEvent old call answer new
Replied old call None new = ¬ MayMake old call × (new ≡ old)

-- each call has its reply, one after another
abbrev pub Replies : (old : Plain) → List Call → List (Option Answer) → (new : Plain) → Type 0
Replies old [] [] new = new ≡ old
Replies old (call ∷ calls) (reply ∷ replies) new = (mid : Plain) × Replied old call reply mid × Replies mid calls replies new
Replies old [] (reply ∷ replies) new = ⊥
Replies old (call ∷ calls) [] new = ⊥

-- the events that these calls made: those that were answered
abbrev pub made : List Call → List (Option Answer) → List Event
made [] replies = []
made (call ∷ calls) [] = []
made (call ∷ calls) (Some answer ∷ replies) = record { call = call; answer = answer } ∷ made calls replies
made (call ∷ calls) (None ∷ replies) = made calls replies
