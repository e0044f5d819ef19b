-- A seat that a connection is attached to.
use Rattle.relay_fanout.specs.declared.sending.seat_hold.Sender.{Sender}
use Rattle.relay_fanout.specs.declared.sending.seat_hold.Sender.TheVariants.{Nobody, Thread, Writer}
use Rattle.relay_fanout.specs.declared.sending.seat_hold.SeatHold.{SeatHold}

-- a thread of the connection's own was started to send
abbrev pub IsThread : Sender → Type 0
IsThread Nobody = ⊥
IsThread (Thread handle) = Unit {0}
IsThread (Writer place) = ⊥

-- a thread was started for the seat, and isn't joined
abbrev pub HasThread : SeatHold → Type 0
HasThread hold = IsThread hold.sender
