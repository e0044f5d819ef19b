-- Sums by the name of a mount.
use Rattle.std.specs.Prelude.{◌≡◌, ◌≢◌, ◌≤◌, ℕ, ◌+◌, ◌-◌, Bool, List, All, Option, IsSomeAnd, slice_get, slice_set}
use Rattle.std.specs.List.{position}
use Rattle.std.specs.Str.{bytes_eq}
use Rattle.relay_accounts.specs.declared.mount_tally.MountTally.{MountTally}
use Rattle.relay_accounts.specs.declared.seat_account.SeatAccount.{SeatAccount}
use Rattle.relay_accounts.specs.Capped.{capped}
use Rattle.mount_series.specs.declared.sums.MountSums.{MountSums}
use Rattle.mount_series.specs.declared.named_sums.NamedSums.{NamedSums}
use Rattle.mount_series.specs.Sums.{nothing, with_mount, with_player}

-- the sums of each name, those of all names that there ever were, and how many mounts have ended
pub record Series : Type 0 where
  pub named : List NamedSums
  pub totals : MountSums
  pub ends : ℕ

-- the two are sums of different names
abbrev pub HaveOtherNames : (a b : NamedSums) → Type 0
HaveOtherNames a b = a.name ≢ b.name

-- whether these are the sums of a name
abbrev pub is_of : (name : List ℕ) → NamedSums → Bool
is_of name sums = bytes_eq sums.name name

-- where the sums of a name are
abbrev pub place_of : (name : List ℕ) → List NamedSums → Option ℕ
place_of name named = position (is_of name) named

-- the sums of a name of which one mount is recorded, and nothing has ended yet
abbrev pub begun : (name : List ℕ) → NamedSums
begun name = record { name = name; recorded = 1; ended = 0; last = 0; sums = nothing }

-- one more mount of the name is recorded
abbrev pub one_more : NamedSums → NamedSums
one_more sums = record sums { recorded = capped (sums.recorded + 1) }

-- A mount of the name has ended, to which this came. `ends` mounts of the server had ended before it, and its last packet came at this
-- moment.
abbrev pub ended : (came : MountTally) → (ends last : ℕ) → NamedSums → NamedSums
ended came ends last sums = record sums { recorded = sums.recorded - 1; ended = ends; last = last; sums = with_mount sums.sums came }

-- a player of a mount of the name has left, with this account
abbrev pub left : (account : SeatAccount) → NamedSums → NamedSums
left account sums = record sums { sums = with_player sums.sums account }

-- a mount of the name is recorded
abbrev pub IsRecorded : NamedSums → Type 0
IsRecorded sums = 1 ≤ sums.recorded

-- these mounts have all ended, the last of them no later than that of any such name
abbrev pub EndedBefore : List NamedSums → NamedSums → Type 0
EndedBefore named sums = (sums.recorded ≡ 0) × All (λ other. other.recorded ≡ 0 → sums.ended ≤ other.ended) named

-- the name at this place is the first whose mounts have ended
abbrev pub IsFirstEnded : List NamedSums → (place : ℕ) → Type 0
IsFirstEnded named place = IsSomeAnd (slice_get named place) (EndedBefore named)

-- the name whose mounts have ended first has given its place to this one, and the others stay as they were
abbrev pub IsInPlaceOfFirstEnded : (old new : List NamedSums) → NamedSums → Type 0
IsInPlaceOfFirstEnded old new sums = (place : ℕ) × IsFirstEnded old place × (new ≡ slice_set old place sums)
