-- Rounds: a publisher waits until the players that keep up have taken so many packets.
use Rattle.std.specs.Prelude.{ℕ, Bool, true, false, List, nat_le, nat_lt, min, if◌then◌else◌, get_or, count_by, fold}
use Rattle.pacing.specs.declared.standing.Standing.{Standing}
use Rattle.pacing.specs.declared.standing.Standing.TheVariants.{Absent, Behind, Level, Awaited}

-- what a round is seen as: the standing of each seat, and how many packets those that are awaited have to take
pub record Paced : Type 0 where
  pub players : List Standing
  pub target : ℕ

-- whether the publisher waits for a player that stands so
abbrev pub is_awaited : Standing → Bool
is_awaited Absent = false
is_awaited Behind = false
is_awaited (Level at) = false
is_awaited Awaited = true

-- a player keeps up, and nobody waits for it
abbrev pub IsLevel : Standing → Type 0
IsLevel Absent = ⊥
IsLevel Behind = ⊥
IsLevel (Level at) = Unit {0}
IsLevel Awaited = ⊥

-- how many players the publisher waits for
abbrev pub awaited : List Standing → ℕ
awaited players = count_by is_awaited players

-- how the player of a seat stands; a seat that isn't there is nobody's
abbrev pub standing_of : List Standing → (seat : ℕ) → Standing
standing_of players seat = get_or players seat Absent

-- how a player stands once it has taken so many packets: one that is awaited is so no more from the round's target on
abbrev pub reached : (target at : ℕ) → Standing → Standing
reached target at Absent = Absent
reached target at Behind = Behind
reached target at (Level before) = Level at
reached target at Awaited = if nat_le target at then Level at else Awaited

-- how a player stands once it has taken all that was published: one that was behind keeps up again
abbrev pub levelled : (target at : ℕ) → Standing → Standing
levelled target at Absent = Absent
levelled target at Behind = Level at
levelled target at (Level before) = Level at
levelled target at Awaited = if nat_le target at then Level at else Awaited

-- how a player stands that was seen to have taken so many; only of one that keeps up, and isn't awaited, it is looked at
abbrev pub followed : (at : ℕ) → Standing → Standing
followed at Absent = Absent
followed at Behind = Behind
followed at (Level before) = Level at
followed at Awaited = Awaited

-- how a player stands when a round is opened: one that keeps up and hasn't taken so many is awaited
abbrev pub asked : (target : ℕ) → Standing → Standing
asked target Absent = Absent
asked target Behind = Behind
asked target (Level at) = if nat_lt at target then Awaited else Level at
asked target Awaited = Awaited

-- how a player stands when a round has lasted as long as it may: one that is awaited yet is behind
abbrev pub given_up : Standing → Standing
given_up Absent = Absent
given_up Behind = Behind
given_up (Level at) = Level at
given_up Awaited = Behind

-- the lesser of this number and of what the player has taken, if it keeps up
abbrev pub lesser : Standing → ℕ → ℕ
lesser Absent n = n
lesser Behind n = n
lesser (Level at) n = min at n
lesser Awaited n = n

-- what the last of the players has taken of those that keep up and that nobody waits for; else this number
abbrev pub slowest : List Standing → ℕ → ℕ
slowest players n = fold (λ (least : ℕ) (player : Standing). lesser player least) n players
