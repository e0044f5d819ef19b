-- An attachment, a detachment and a take of a plain log are events of it; what a look at one of its accounts or packets tells.
use Rattle.std.proofs.Common.{◌≡◌, ℕ, ◌+◌, ◌-◌, ◌<◌, ◌≤◌, true, false, Option, Some, None, List, length, refl, sym, ◌∙◌, ap, arith, slice_get, slice_set, slice_index_or, is_some, IsTrue, inl, inr, ◌⊎◌}
use Rattle.std.specs.Prelude.{option_map}
use Rattle.std.proofs.lemmas.Bool.{false≢true}
use Rattle.std.proofs.lemmas.List.{map-set, set-get_or}
use Rattle.std.proofs.lemmas.Option.{slice_get-map, get_or_from_slice_get, slice_get_read}
use Rattle.cursor.specs.declared.packets.Packet.{Packet}
use Rattle.cursor.specs.declared.takes.Account.{Account}
use Rattle.cursor.specs.declared.takes.Delivery.{Delivery}
use Rattle.cursor.specs.declared.takes.Delivery.TheVariants.{Got, Lost, Empty, Ended}
use Rattle.cursor.specs.declared.calls.Call.TheVariants.{Attach, Take, Detach}
use Rattle.cursor.specs.declared.calls.Answer.TheVariants.{Attached, Taken, Detached}
use Rattle.cursor.specs.Log.{Log, back_from, with_cursor, floor}
use Rattle.cursor.specs.Account.{counted, cursor_of}
use Rattle.cursor.specs.Plain.{Plain, PlainEvent, IsFree, IsSound, HasAccount, log_of}

-- a plain log with one seat's place changed
abbrev pub with_place : Plain → ℕ → Option Account → Plain
with_place plain s place = record plain { seats = slice_set plain.seats s place }

-- the cursor that the log has for a seat with an account
pub cursor_at : (plain : Plain) (s : ℕ) (a : Account) → HasAccount plain s a → slice_get (log_of plain).cursors s ≡ Some (Some (cursor_of a))
cursor_at plain s a h = slice_get-map (option_map cursor_of) plain.seats s ∙ ap (option_map (option_map cursor_of)) h

-- the log has none for a free seat
pub free_at : (plain : Plain) (s : ℕ) → IsFree plain s → slice_get (log_of plain).cursors s ≡ Some None
free_at plain s h = slice_get-map (option_map cursor_of) plain.seats s ∙ ap (option_map (option_map cursor_of)) h

-- a place that is written is a cursor that is written
pub log_of-with_place : (plain : Plain) (s : ℕ) (place : Option Account) → log_of (with_place plain s place) ≡ with_cursor (log_of plain) s (option_map cursor_of place)
log_of-with_place plain s place =
    ap (λ (cs : List (Option ℕ)). let log : Log = record { packets = plain.packets; closed = plain.closed; cursors = cs } in log)
    (map-set (option_map cursor_of) plain.seats s place)

-- writing an account where it stands changes nothing
pub same_place : (plain : Plain) (s : ℕ) (a : Account) → HasAccount plain s a → slice_set plain.seats s (Some a) ≡ plain.seats
same_place plain s a h = rw (← get_or_from_slice_get plain.seats s (Some a) None h) (set-get_or plain.seats s None)

pub attach_event : (plain : Plain) (s back : ℕ) → IsFree plain s
    → let start = back_from plain.keep back (length plain.packets) in
    PlainEvent plain (Attach s back) (Attached start) (with_place plain s (Some (record { start = start; taken = 0; lost = 0 })))
attach_event plain s back free =
    let start = back_from plain.keep back (length plain.packets) in
    let at : start + 0 + 0 ≡ start = omega arith in
    record {
      event = (free_at plain s free, refl, log_of-with_place plain s _ ∙ ap (λ c. with_cursor (log_of plain) s (Some c)) at);
      accounts = refl;
      told = tt;
      keep = refl;
      packet_bytes = refl;
    }

pub detach_event : (plain : Plain) (s : ℕ) (a : Account) → HasAccount plain s a
    → PlainEvent plain (Detach s) (Detached (record { taken = a.taken; lost = a.lost; left = length plain.packets - cursor_of a })) (with_place plain s None)
detach_event plain s a has =
    record {
      event = (cursor_of a, cursor_at plain s a has, refl, log_of-with_place plain s None);
      accounts = refl;
      told = (a, has, refl, refl);
      keep = refl;
      packet_bytes = refl;
    }

-- what a take may answer at this account
abbrev pub MayAnswer : Plain → Account → Delivery → Type 0
MayAnswer plain a (Got n p) = (n ≡ cursor_of a) × (floor plain.keep (log_of plain) ≤ n) × (slice_get plain.packets n ≡ Some p)
MayAnswer plain a (Lost k) = (cursor_of a < floor plain.keep (log_of plain)) × (k ≡ floor plain.keep (log_of plain) - cursor_of a)
MayAnswer plain a Empty = (cursor_of a ≡ length plain.packets) × (plain.closed ≡ false)
MayAnswer plain a Ended = (cursor_of a ≡ length plain.packets) × (plain.closed ≡ true)

-- the account that a take leaves is the old one, with its answer counted
pub counted_place : (plain : Plain) (s : ℕ) (a : Account) (d : Delivery) → HasAccount plain s a
    → slice_set plain.seats s (Some (counted d a)) ≡ slice_set plain.seats s (option_map (counted d) (slice_index_or plain.seats s None))
counted_place plain s a d has = rw (get_or_from_slice_get plain.seats s (Some a) None has)

pub take_event : (plain : Plain) (s : ℕ) (a : Account) (d : Delivery) → HasAccount plain s a → MayAnswer plain a d
    → PlainEvent plain (Take s) (Taken d) (with_place plain s (Some (counted d a)))
take_event plain s a (Got n p) has may =
    let at : a.start + (a.taken + 1) + a.lost ≡ n + 1 = omega (arith, may.0) in
    record {
      event = (
        cursor_at plain s a has ∙ ap (λ c. Some (Some c)) (sym may.0),
        may.1,
        may.2,
        log_of-with_place plain s _ ∙ ap (λ c. with_cursor (log_of plain) s (Some c)) at,
      );
      accounts = counted_place plain s a (Got n p) has;
      told = tt;
      keep = refl;
      packet_bytes = refl;
    }
take_event plain s a (Lost k) has may =
    let at : a.start + a.taken + (a.lost + k) ≡ cursor_of a + k = omega arith in
    record {
      event = (
        cursor_of a,
        cursor_at plain s a has,
        may.0,
        may.1,
        log_of-with_place plain s _ ∙ ap (λ c. with_cursor (log_of plain) s (Some c)) at,
      );
      accounts = counted_place plain s a (Lost k) has;
      told = tt;
      keep = refl;
      packet_bytes = refl;
    }
take_event plain s a Empty has may =
    record {
      event = (cursor_at plain s a has ∙ ap (λ c. Some (Some c)) may.0, may.1, ap (λ seats. log_of (record plain { seats = seats })) (same_place plain s a has));
      accounts = counted_place plain s a Empty has;
      told = tt;
      keep = refl;
      packet_bytes = refl;
    }
take_event plain s a Ended has may =
    record {
      event = (cursor_at plain s a has ∙ ap (λ c. Some (Some c)) may.0, may.1, ap (λ seats. log_of (record plain { seats = seats })) (same_place plain s a has));
      accounts = counted_place plain s a Ended has;
      told = tt;
      keep = refl;
      packet_bytes = refl;
    }

-- the packet that was read at an index, with its bytes as they were copied
pub read_packet : (packets : List Packet) (n : ℕ) (p : Packet) (bytes : List ℕ) → n < length packets → p ≡ slice_index_or packets n p → bytes ≡ p.bytes
    → slice_get packets n ≡ Some (record { tag = p.tag; bytes = bytes })
read_packet packets n p bytes below read same =
    slice_get_read packets (length packets) n p refl below read
    ∙ sym (ap (λ (b : List ℕ). let q : Packet = record { tag = p.tag; bytes = b } in Some q) same)

-- a packet of the log has at most as many bytes as its packets may
pub fits_at : (plain : Plain) (n : ℕ) (p : Packet) → IsSound plain → n < length plain.packets → p ≡ slice_index_or plain.packets n p → length p.bytes ≤ plain.packet_bytes
fits_at plain n p sound below read = sound.fits n p (slice_get_read plain.packets (length plain.packets) n p refl below read)

-- a place that holds something is an attached seat's
pub place_attached : (seats : List (Option Account)) (s : ℕ) (place : Option Account) → slice_get seats s ≡ Some place
    → (IsTrue (is_some place) → (a : Account) × (slice_get seats s ≡ Some (Some a)))
    × (((a : Account) × (slice_get seats s ≡ Some (Some a))) → IsTrue (is_some place))
place_attached seats s None at = (λ t. absurd (false≢true t), λ has. let e = has.1 in cc)
place_attached seats s (Some a) at = (λ t. (a, at), λ has. refl)

-- another one is a free seat's
pub place_free : (seats : List (Option Account)) (s : ℕ) (place : Option Account) → slice_get seats s ≡ Some place
    → IsTrue (is_some place) ⊎ (slice_get seats s ≡ Some None)
place_free seats s None at = inr at
place_free seats s (Some a) at = inl refl
