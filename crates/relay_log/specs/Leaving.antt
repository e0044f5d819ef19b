-- Mounts and players of reports that end and leave.
use Rattle.std.specs.Prelude.{◌≡◌, ℕ, ◌-◌, Bool, not, ◌&&◌, nat_eq, List, count_by, slice_get, slice_set, Option, None, is_some, IfSome, IsSomeAnd}
use Rattle.std.specs.List.{position}
use Rattle.relay_accounts.specs.declared.seat_account.SeatAccount.{SeatAccount}
use Rattle.mount_series.specs.declared.named_sums.NamedSums.{NamedSums}
use Rattle.mount_series.specs.Series.{left, place_of}
use Rattle.relay_log.specs.declared.reports.reported_mount.Mount.{Mount}
use Rattle.relay_log.specs.declared.reports.reported_player.Player.{Player}

-- the place of the mount that a connection records
abbrev pub recorded_in : (conn : ℕ) → List Mount → Option ℕ
recorded_in conn mounts = position (λ mount. nat_eq mount.conn conn && not mount.has_ended) mounts

-- the place of a connection's player that has its seat
abbrev pub seated_in : (conn : ℕ) → List Player → Option ℕ
seated_in conn players = position (λ player. nat_eq player.conn conn && not (is_some player.left)) players

-- whether a player has a seat of this mount
abbrev pub plays_on : (mount : ℕ) → Player → Bool
plays_on mount player = nat_eq player.mount mount && not (is_some player.left)

-- how many of these players have
abbrev pub players_of : (mount : ℕ) → List Player → ℕ
players_of mount players = count_by (plays_on mount) players

-- what is known of a seat's account when the seat is left: what isn't sent then may still be
abbrev pub at_its_end : SeatAccount → SeatAccount
at_its_end account = record account { unsent = 0 }

-- what a seat's account has once it is closed, beside the account as it was when the seat was left
abbrev pub rest_of : (left account : SeatAccount) → SeatAccount
rest_of left account = record {
  sent = account.sent - left.sent;
  skipped = 0;
  lost = 0;
  unsent = account.unsent;
  bytes = account.bytes - left.bytes;
}

-- The sums of a name have a player's account more, and those of the other names stay as they were. A name that has no sums gets none.
abbrev pub HasLeft : (name : List ℕ) → (account : SeatAccount) → (old new : List NamedSums) → Type 0
HasLeft name account old new =
    IfSome (place_of name old) (λ place. IsSomeAnd (slice_get old place) (λ sums. new ≡ slice_set old place (left account sums)))
    × (place_of name old ≡ None → new ≡ old)
