-- What a subscriber does between its attachment and its detachment, and what it was given.
use Rattle.std.specs.Prelude.{◌≡◌, ◌⊎◌, ℕ, false, Option, Some, slice_get, Result, Ok, Err, List, [], ◌∷◌}
use mathlib.Core.List.{IsPrefix}
use Rattle.cursor.specs.declared.packets.Packet.{Packet}
use Rattle.cursor.specs.declared.refusals.Refused.{Refused}
use Rattle.cursor.specs.declared.takes.Delivery.{Delivery}
use Rattle.cursor.specs.declared.takes.Delivery.TheVariants.{Got, Lost, Empty, Ended}
use Rattle.cursor.specs.Account.{cursor_of, with_answers}
use Rattle.cursor.specs.Player.{ReceivedFrom}
use Rattle.packet_ring.specs.Calls.{PublishesNext, SeesOn, TakesNext}
use Rattle.packet_ring.specs.Views.{Publishing, Subscribing}

-- one call of a subscriber: a take that was answered so, or a call that tells the seat of the log and takes nothing
pub data SubscriberCall : Type 0 where
  takes : (answer : Delivery) → SubscriberCall
  learns : SubscriberCall

-- a call that takes nothing: the seat may know of a longer log, and whether it is closed; nothing else changes
pub record Learns (old new : Subscribing) : Type 0 where
  pub same : new ≡ record old { seen = new.seen; closed = new.closed }
  pub sees : SeesOn old.seen old.closed new.seen new.closed

-- these calls, one after another, lead from old to new
abbrev pub DoesCalls : (old : Subscribing) → List SubscriberCall → (new : Subscribing) → Type 0
DoesCalls old [] new = new ≡ old
DoesCalls old (takes d ∷ calls) new = (mid : Subscribing) × TakesNext old d mid × DoesCalls mid calls new
DoesCalls old (learns ∷ calls) new = (mid : Subscribing) × Learns old mid × DoesCalls mid calls new

-- what the takes among these calls were answered, in order
abbrev pub answers_of : List SubscriberCall → List Delivery
answers_of [] = []
answers_of (takes d ∷ calls) = d ∷ answers_of calls
answers_of (learns ∷ calls) = answers_of calls

-- an answer that gives a packet gives the one at its number in this log
abbrev pub IsNumbered : List Packet → Delivery → Type 0
IsNumbered log (Got n p) = slice_get log n ≡ Some p
IsNumbered log (Lost k) = Unit {0}
IsNumbered log Empty = Unit {0}
IsNumbered log Ended = Unit {0}

-- each of these answers does
abbrev pub AreNumbered : List Packet → List Delivery → Type 0
AreNumbered log [] = Unit {0}
AreNumbered log (d ∷ ds) = IsNumbered log d × AreNumbered log ds

-- With these answers a subscriber received, from its cursor on and in order, the packets of the log that it has seen by now, each
-- at its number, less exactly the losses among the answers. Its account counts each answer. What it had seen before begins what it has seen now.
pub record WasGiven (old : Subscribing) (answers : List Delivery) (new : Subscribing) : Type 0 where
  pub received : ReceivedFrom new.seen (cursor_of old.account) answers
  pub numbered : AreNumbered new.seen answers
  pub account : new.account ≡ with_answers old.account answers
  pub grows : IsPrefix old.seen new.seen

-- what a seat knows after a publish that was answered so: of a packet that was appended it learns, with the whole log up to it;
-- a refusal leaves it as it is
abbrev pub LearnsOf : (old : Subscribing) → Result ℕ Refused → Publishing → (new : Subscribing) → Type 0
LearnsOf old (Ok n) publisher new = Learns old new × SeesOn publisher.log false new.seen new.closed × ((new.seen ≡ old.seen) ⊎ (new.seen ≡ publisher.log))
LearnsOf old (Err refused) publisher new = new ≡ old

-- a publish of this packet while the ring's one seat is at hand
pub record PublishesBeside (publisher : Publishing) (seat : Subscribing) (packet : Packet) (answer : Result ℕ Refused) (publisher' : Publishing) (seat' : Subscribing) : Type 0 where
  pub publishes : PublishesNext publisher packet answer publisher'
  pub learns : LearnsOf seat answer publisher' seat'
