-- A feed that tries again what was refused as pinned.
use Rattle.std.specs.Prelude.{◌≡◌, ℕ, ◌≤◌, zero, suc, Bool, true, false, Result, Ok, Err}
use Rattle.cursor.specs.declared.packets.Packet.{Packet}
use Rattle.cursor.specs.declared.refusals.Refused.{Refused as Refusal}
use Rattle.cursor.specs.declared.refusals.Refused.TheVariants as refused

-- a feed, and whether the last publish was refused as pinned though it was tried to the end
pub record Retried (F : Type 0) : Type 0 where
  pub feed : F
  pub gave_up : Bool

-- whether this is a refusal as pinned
abbrev pub is_pinned : Result ℕ Refusal → Bool
is_pinned (Err (refused.Pinned pins)) = true
is_pinned (Err refused.TooLong) = false
is_pinned (Err refused.Worn) = false
is_pinned (Err refused.OutOfMemory) = false
is_pinned (Ok number) = false

-- whether the last publish was given up, after this answer: as pinned it was, and made it wasn't; another refusal never
-- reached the place
abbrev pub given_up_after : (gave_up : Bool) → Result ℕ Refusal → Bool
given_up_after gave_up (Ok number) = false
given_up_after gave_up (Err (refused.Pinned pins)) = true
given_up_after gave_up (Err refused.TooLong) = gave_up
given_up_after gave_up (Err refused.Worn) = gave_up
given_up_after gave_up (Err refused.OutOfMemory) = gave_up

-- how often a publish that was refused as pinned is tried again, at most: never where the one before was given up
abbrev pub most_tries : (gave_up : Bool) → ℕ
most_tries true = 0
most_tries false = 40

module _ {F : Type 0} (gives : F → Packet → Result ℕ Refusal → F → Type 0) where
  -- a packet was refused as pinned so many times, one after another
  abbrev pub PinnedTimes : (tries : ℕ) → (old : F) → Packet → (new : F) → Type 0
  PinnedTimes zero old packet new = new ≡ old
  PinnedTimes (suc tries) old packet new = (mid : F) × (pins : ℕ) × PinnedTimes tries old packet mid × gives mid packet (Err (refused.Pinned pins)) new

  -- A publish of a feed that tries again: the inner feed's answer after so many refusals as pinned, which is itself one only
  -- after as many as may be.
  pub record PublishesAtLast (old : Retried F) (packet : Packet) (answer : Result ℕ Refusal) (new : Retried F) : Type 0 where
    pub tries : ℕ
    pub few : tries ≤ most_tries old.gave_up
    pub mid : F
    pub pinned : PinnedTimes tries old.feed packet mid
    pub answered : gives mid packet answer new.feed
    pub given_up : is_pinned answer ≡ true → tries ≡ most_tries old.gave_up
    pub gave_up : new.gave_up ≡ given_up_after old.gave_up answer
