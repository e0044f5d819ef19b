-- Runs in which items are put only while the queue isn't full.
use Rattle.std.specs.Prelude.{◌<◌, ◌≤◌, List, [], ◌∷◌, length}
use Rattle.outgoing.specs.Queues.{IsEmptyQueue, Queue, bytes_waiting}
use Rattle.outgoing.specs.Runs.{Event, Goes, puts, swaps, takes}

-- what is put finds fewer than 262,144 bytes waiting, and a block that is taken has at most the room that is promised
abbrev pub IsInTime : Event → Queue → Type 0
IsInTime (puts item) queue = length (bytes_waiting queue) < 262_144
IsInTime (takes bytes frames) queue = Unit {0}
IsInTime (swaps room) queue = room ≤ 819_196

-- A queue is this after these events, of which the last one is the first of the list. It began with memory for at most 819,196 bytes.
abbrev pub HasGoneWithin : List Event → Queue → Type 0
HasGoneWithin [] queue = IsEmptyQueue queue × (queue.room ≤ 819_196)
HasGoneWithin (event ∷ before) queue = (earlier : Queue) × HasGoneWithin before earlier × IsInTime event earlier × Goes event earlier queue
