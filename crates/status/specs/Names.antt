-- What has come to the mounts of a name, and what became of their players' packets.
use Rattle.std.specs.Prelude.{ℕ, ◌-◌, Bool, not, ◌&&◌, if◌then◌else◌, List, count_by, filter, fold, max, nat_lt}
use Rattle.std.specs.Str.{bytes_eq}
use Rattle.relay_accounts.specs.declared.seat_account.SeatAccount.{SeatAccount}
use Rattle.mount_series.specs.declared.sums.MountSums.{MountSums}
use Rattle.mount_series.specs.declared.named_sums.NamedSums.{NamedSums}
use Rattle.mount_series.specs.Sums.{with_mount, with_player}
use Rattle.status.specs.declared.mount_status.MountStatus.{MountStatus}
use Rattle.status.specs.declared.player_status.PlayerStatus.{PlayerStatus}
use Rattle.status.specs.declared.snapshot.Snapshot.{Snapshot}

-- the mount is recorded under this name
abbrev pub goes_on_as : (name : List ℕ) → MountStatus → Bool
goes_on_as name mount = not mount.has_ended && bytes_eq mount.name name

-- the player has a seat of a mount of this name
abbrev pub plays_from : (name : List ℕ) → PlayerStatus → Bool
plays_from name player = not player.has_left && bytes_eq player.mount name

-- what has become of a player's packets so far
abbrev pub account_so_far : PlayerStatus → SeatAccount
account_so_far player = record { sent = player.sent; skipped = player.skipped; lost = player.lost; unsent = 0; bytes = player.bytes }

-- how many of the packets that were published since a player took its seat were neither sent, skipped nor lost
abbrev pub waiting_for : PlayerStatus → ℕ
waiting_for player = player.published - player.sent - player.skipped - player.lost

-- the sums with what has come to these mounts
abbrev pub with_mounts : MountSums → List MountStatus → MountSums
with_mounts sums mounts = fold (λ sums mount. with_mount sums mount.tally) sums mounts

-- the sums with what has become of the packets of these players
abbrev pub with_players : MountSums → List PlayerStatus → MountSums
with_players sums players = fold (λ sums player. with_player sums (account_so_far player)) sums players

-- what has ended of a name, with its mounts that are recorded and the players that have a seat there
abbrev pub sums_of : Snapshot → NamedSums → MountSums
sums_of snapshot named =
    with_players (with_mounts named.sums (filter (goes_on_as named.name) snapshot.mounts.items)) (filter (plays_from named.name) snapshot.players.items)

-- what has ended of all names, with the mounts that are recorded and the players that have a seat
abbrev pub sums_of_all : Snapshot → MountSums
sums_of_all snapshot =
    with_players (with_mounts snapshot.ended (filter (λ mount. not mount.has_ended) snapshot.mounts.items)) (filter (λ player. not player.has_left) snapshot.players.items)

-- how many packets the player is behind that is furthest behind, of those that have a seat of a mount of this name
abbrev pub behind_of : (name : List ℕ) → List PlayerStatus → ℕ
behind_of name players = fold (λ most player. max player.behind most) 0 (filter (plays_from name) players)

-- the latest moment at which a packet came to one of these mounts; of one to which none came, its first RECORD
abbrev pub latest : (now : ℕ) → List MountStatus → ℕ
latest now mounts = fold (λ last mount. max (now - mount.silence) last) 0 mounts

-- when the last packet of a name came: to its mounts that are recorded, or if there are none, to those that have ended
abbrev pub last_of : Snapshot → NamedSums → ℕ
last_of snapshot named =
    if nat_lt 0 (count_by (goes_on_as named.name) snapshot.mounts.items)
    then latest snapshot.made (filter (goes_on_as named.name) snapshot.mounts.items)
    else named.last
