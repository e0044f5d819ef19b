-- What a seat's takes were answered: the packets and the losses among these answers, the account that counts them, and a seat's
-- attachment in a legal history.
use Rattle.std.specs.Prelude.{◌≢◌, ℕ, ◌+◌, ◌==◌, ◌&&◌, nat_lt, nat_le, Bool, List, [], ◌∷◌, ◌++◌, length, if◌then◌else◌}
use Rattle.std.specs.List.{list_any}
use Rattle.cursor.specs.declared.packets.Packet.{Packet}
use Rattle.cursor.specs.declared.takes.Account.{Account}
use Rattle.cursor.specs.declared.takes.Delivery.{Delivery}
use Rattle.cursor.specs.declared.takes.Delivery.TheVariants.{Got, Lost, Empty, Ended}
use Rattle.cursor.specs.declared.calls.Call.{Call}
use Rattle.cursor.specs.declared.calls.Call.TheVariants.{Take, Detach}
use Rattle.cursor.specs.declared.calls.Answer.{Answer}
use Rattle.cursor.specs.declared.calls.Answer.TheVariants.{Taken}
use Rattle.cursor.specs.Log.{attached_at, Log, Event, LegalHistory}

-- what the call and its answer give a seat: the answer, if it is a take of that seat
abbrev pub take_of : (seat : ℕ) → Call → Answer → List Delivery
take_of s (Take t) (Taken d) = if t == s then d ∷ [] else []
take_of s call answer = []

-- what a seat's takes were answered, in order
abbrev pub takes_of : (seat : ℕ) → List Event → List Delivery
takes_of s [] = []
takes_of s (e ∷ es) = take_of s e.call e.answer ++ takes_of s es

-- the packets of these answers, in order
abbrev pub received : List Delivery → List Packet
received [] = []
received (Got n p ∷ ds) = p ∷ received ds
received (Lost k ∷ ds) = received ds
received (Empty ∷ ds) = received ds
received (Ended ∷ ds) = received ds

-- the numbers of those packets, in order
abbrev pub positions : List Delivery → List ℕ
positions [] = []
positions (Got n p ∷ ds) = n ∷ positions ds
positions (Lost k ∷ ds) = positions ds
positions (Empty ∷ ds) = positions ds
positions (Ended ∷ ds) = positions ds

-- how many packets these answers say were lost
abbrev pub lost : List Delivery → ℕ
lost [] = 0
lost (Got n p ∷ ds) = lost ds
lost (Lost k ∷ ds) = k + lost ds
lost (Empty ∷ ds) = lost ds
lost (Ended ∷ ds) = lost ds

-- the account of an attachment that began at `start` and had these answers
abbrev pub account_of : (start : ℕ) → List Delivery → Account
account_of start ds = record { start = start; taken = length (received ds); lost = lost ds }

-- an account with one more answer counted
abbrev pub counted : Delivery → Account → Account
counted (Got n p) a = record a { taken = a.taken + 1 }
counted (Lost k) a = record a { lost = a.lost + k }
counted Empty a = a
counted Ended a = a

-- an account with these answers counted
abbrev pub with_answers : Account → List Delivery → Account
with_answers a ds = record { start = a.start; taken = a.taken + length (received ds); lost = a.lost + lost ds }

-- where an attachment with this account is in the log
abbrev pub cursor_of : Account → ℕ
cursor_of a = a.start + a.taken + a.lost

-- one loss: `count` packets, from the number `first` on
pub record Loss : Type 0 where
  pub first : ℕ
  pub count : ℕ

-- the losses among the answers that come from a cursor on
abbrev pub losses : (cursor : ℕ) → List Delivery → List Loss
losses c [] = []
losses c (Got n p ∷ ds) = losses (c + 1) ds
losses c (Lost k ∷ ds) = record { first = c; count = k } ∷ losses (c + k) ds
losses c (Empty ∷ ds) = losses c ds
losses c (Ended ∷ ds) = losses c ds

-- whether a number lies in a loss
abbrev pub lies_in : ℕ → Loss → Bool
lies_in n l = nat_le l.first n && nat_lt n (l.first + l.count)

-- these packets, numbered from `first` on, but for those whose number lies in one of the losses
abbrev pub without : List Loss → (first : ℕ) → List Packet → List Packet
without ls n [] = []
without ls n (p ∷ ps) = if list_any (lies_in n) ls then without ls (n + 1) ps else p ∷ without ls (n + 1) ps

-- the seat isn't detached in these events
abbrev pub StaysAttached : (seat : ℕ) → List Event → Type 0
StaysAttached s [] = Unit {0}
StaysAttached s (e ∷ es) = (e.call ≢ Detach s) × StaysAttached s es

-- a legal history that leads to this log, in whose course the seat was attached at `start`, as it asked
-- for `back` packets back, and has been attached since: `during` is what came after that
pub record Attachment (keep seats seat back start : ℕ) (before during : List Event) (log : Log) : Type 0 where
  pub legal : LegalHistory keep seats (before ++ attached_at seat back start ∷ during) log
  pub stays : StaysAttached seat during
