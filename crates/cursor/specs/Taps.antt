-- What a take of a tap gives, how an account goes on by it, and which answers takes give until there is no more to take now.
use Rattle.std.specs.Prelude.{◌≡◌, ℕ, ◌≤◌, ◌⊎◌, List, [], ◌∷◌, ◌++◌, length, take}
use Rattle.cursor.specs.declared.takes.Account.{Account}
use Rattle.cursor.specs.declared.takes.Taken.{Taken}
use Rattle.cursor.specs.declared.takes.Taken.TheVariants as taken
use Rattle.cursor.specs.declared.takes.Delivery.{Delivery}
use Rattle.cursor.specs.declared.takes.Delivery.TheVariants.{Got, Lost, Empty, Ended}
use Rattle.cursor.specs.Log.{packet_of}
use Rattle.cursor.specs.Account.{counted, cursor_of}

-- what a take gave: its answer, with the packet that stands at the front of the buffer
abbrev pub delivery_of : Taken → (buf : List ℕ) → Delivery
delivery_of (taken.Packet n tag len) buf = Got n (packet_of tag (take len buf))
delivery_of (taken.Lost k) buf = Lost k
delivery_of taken.Empty buf = Empty
delivery_of taken.Ended buf = Ended

-- a packet's bytes are within the buffer
abbrev pub FitsBuffer : Taken → ℕ → Type 0
FitsBuffer (taken.Packet n tag len) room = len ≤ room
FitsBuffer (taken.Lost k) room = Unit {0}
FitsBuffer taken.Empty room = Unit {0}
FitsBuffer taken.Ended room = Unit {0}

-- an account goes on by an answer: a packet is the one at the cursor, and counts as taken; a loss
-- counts as lost; nothing else changes it
abbrev pub Counts : (old : Account) → Delivery → (new : Account) → Type 0
Counts old (Got n p) new = (n ≡ cursor_of old) × (new ≡ counted (Got n p) old)
Counts old (Lost k) new = new ≡ counted (Lost k) old
Counts old Empty new = new ≡ counted Empty old
Counts old Ended new = new ≡ counted Ended old

-- takes may give these answers, one after another, and lead from old to new
abbrev pub Takes : {S : Type 0} → (S → Delivery → S → Type 0) → (old : S) → List Delivery → (new : S) → Type 0
Takes {S} gives old [] new = new ≡ old
Takes {S} gives old (d ∷ ds) new = (mid : S) × gives old d mid × Takes gives mid ds new

-- after this answer there may be more to take now
abbrev pub GoesOn : Delivery → Type 0
GoesOn (Got n p) = Unit {0}
GoesOn (Lost k) = Unit {0}
GoesOn Empty = ⊥
GoesOn Ended = ⊥

-- there is nothing more to take now
abbrev pub Stops : Delivery → Type 0
Stops (Got n p) = ⊥
Stops (Lost k) = ⊥
Stops Empty = Unit {0}
Stops Ended = Unit {0}

-- each of these answers goes on
abbrev pub AllGoOn : List Delivery → Type 0
AllGoOn [] = Unit {0}
AllGoOn (d ∷ ds) = GoesOn d × AllGoOn ds

-- n answers that go on, or at most n of which the last one stops and no other
abbrev pub IsUpTo : (n : ℕ) → List Delivery → Type 0
IsUpTo n ds = ((length ds ≡ n) × AllGoOn ds)
    ⊎ ((front : List Delivery) × (last : Delivery) × (ds ≡ front ++ last ∷ []) × AllGoOn front × Stops last × (length ds ≤ n))
