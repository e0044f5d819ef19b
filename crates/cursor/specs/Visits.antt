-- What a take shows a visitor.
use Rattle.std.specs.Prelude.{◌≡◌, ℕ, List, length, take}
use Rattle.cursor.specs.declared.packets.Packet.{Packet}
use Rattle.cursor.specs.declared.takes.Taken.{Taken}
use Rattle.cursor.specs.declared.takes.Taken.TheVariants as taken
use Rattle.cursor.specs.declared.takes.Delivery.{Delivery}
use Rattle.cursor.specs.declared.takes.Delivery.TheVariants.{Got, Lost, Empty, Ended}

-- what is answered to a take that gave this: of a packet its number, its tag and how many bytes it has
abbrev pub answer_of : Delivery → Taken
answer_of (Got n p) = taken.Packet n p.tag (length p.bytes)
answer_of (Lost k) = taken.Lost k
answer_of Empty = taken.Empty
answer_of Ended = taken.Ended

-- what a visitor saw of a take that gave this: the packet, once, or nothing where there was none
abbrev pub Sees : {V : Type 0} → (sees : V → Packet → V → Type 0) → (old : V) → Delivery → (new : V) → Type 0
Sees sees old (Got n p) new = sees old p new
Sees sees old (Lost k) new = new ≡ old
Sees sees old Empty new = new ≡ old
Sees sees old Ended new = new ≡ old

-- a take that shows its packet: what the tap gave by its own relation, how it was answered, and what the visitor saw
pub record TakesWith {S V : Type 0} (takes : S → Delivery → S → Type 0) (sees : V → Packet → V → Type 0) (old : S) (visitor : V) (answer : Taken) (new : S) (visited : V) : Type 0 where
  pub delivery : Delivery
  pub answered : answer ≡ answer_of delivery
  pub given : takes old delivery new
  pub seen : Sees sees visitor delivery visited

-- the packet's bytes are at the front of the buffer, which is as long as it was
pub record IsCopied (packet : Packet) (old new : List ℕ) : Type 0 where
  pub front : take (length packet.bytes) new ≡ packet.bytes
  pub size : length new ≡ length old
