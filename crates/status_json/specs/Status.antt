-- The text of `/status.json`.
use Rattle.std.specs.Prelude.{ℕ, Bool, not, nat_lt, List, ◌++◌, codes, count_by, decimal, filter, map}
use Rattle.relay_accounts.specs.declared.mount_tally.MountTally.{MountTally}
use Rattle.relay_accounts.specs.declared.seat_account.SeatAccount.{SeatAccount}
use Rattle.mount_series.specs.declared.sums.MountSums.{MountSums}
use Rattle.mount_series.specs.declared.named_sums.NamedSums.{NamedSums}
use Rattle.status.specs.declared.mount_status.MountStatus.{MountStatus}
use Rattle.status.specs.declared.player_status.PlayerStatus.{PlayerStatus}
use Rattle.status.specs.declared.snapshot.Snapshot.{Snapshot}
use Rattle.status.specs.Names.{behind_of, plays_from, sums_of, sums_of_all, waiting_for}
use Rattle.status_json.specs.declared.key.Key.TheVariants as keys
use Rattle.status_json.specs.declared.key.PacketKey.TheVariants as packets
use Rattle.status_json.specs.Json.{addr_text, keyed, list_text, string_text, truth_text}
use Rattle.status_json.specs.Serving.{server_text}
use Rattle.status_json.specs.declared.tracks.CountedTrack.{CountedTrack}
use Rattle.status_json.specs.Tracks.{counted_track_text, described_text, tracks_in}

-- what became of the frames that came to mounts
unfoldable pub came_front : MountTally → List ℕ
came_front came =
    keyed (keys.Packet packets.Published) (decimal came.packets)
    ++ keyed (keys.Packet packets.Pinned) (decimal came.pinned)
    ++ keyed (keys.Packet packets.TooLong) (decimal came.oversize)

unfoldable pub came_back : MountTally → List ℕ
came_back came =
    keyed (keys.Packet packets.BadRtp) (decimal came.bad_rtp)
    ++ keyed (keys.Packet packets.UnknownChannel) (decimal came.unknown_channel)
    ++ keyed (keys.Packet packets.NoMemory) (decimal came.unkept)
    ++ codes "}"

abbrev pub came_text : MountTally → List ℕ
came_text came = came_front came ++ came_back came

-- what became of the packets for players
unfoldable pub account_text : SeatAccount → List ℕ
account_text players =
    keyed (keys.Packet packets.FirstSent) (decimal players.sent)
    ++ keyed (keys.Packet packets.Skipped) (decimal players.skipped)
    ++ keyed (keys.Packet packets.Lost) (decimal players.lost)
    ++ keyed (keys.Packet packets.Unsent) (decimal players.unsent)
    ++ codes "}"

-- the figures of a name
pub record Figures : Type 0 where
  pub name : List ℕ
  pub is_live : Bool
  pub players : ℕ
  pub sums : MountSums
  pub tracks : List CountedTrack
  pub behind : ℕ

unfoldable pub figures_in : Snapshot → NamedSums → Figures
figures_in snapshot named = record {
  name = named.name;
  is_live = nat_lt 0 named.recorded;
  players = count_by (plays_from named.name) snapshot.players.items;
  sums = sums_of snapshot named;
  tracks = tracks_in (sums_of snapshot named).came.tracks;
  behind = behind_of named.name snapshot.players.items;
}

unfoldable pub figures_front : Figures → List ℕ
figures_front f =
    keyed keys.Name (string_text f.name)
    ++ keyed keys.Live (truth_text f.is_live)
    ++ keyed keys.Players (decimal f.players)

unfoldable pub figures_in_text : Figures → List ℕ
figures_in_text f =
    keyed keys.Packets (came_text f.sums.came)
    ++ keyed keys.BytesIn (decimal f.sums.came.bytes)
    ++ keyed keys.SlowedMs (decimal f.sums.came.slowed)
    ++ keyed keys.Tracks (list_text counted_track_text f.tracks)

unfoldable pub figures_out_text : Figures → List ℕ
figures_out_text f =
    keyed keys.PlayerPackets (account_text f.sums.players)
    ++ keyed keys.BytesOut (decimal f.sums.players.bytes)
    ++ keyed keys.BehindMax (decimal f.behind)
    ++ codes "}"

abbrev pub figures_text : Figures → List ℕ
figures_text f = figures_front f ++ (figures_in_text f ++ figures_out_text f)

-- a mount that is recorded
unfoldable pub recorded_front : MountStatus → List ℕ
recorded_front mount =
    keyed keys.Name (string_text mount.name)
    ++ keyed keys.Publisher (addr_text mount.publisher)
    ++ keyed keys.Tracks (list_text described_text mount.tracks.items)

unfoldable pub recorded_back : MountStatus → List ℕ
recorded_back mount =
    keyed keys.AgeMs (decimal mount.age)
    ++ keyed keys.SilenceMs (decimal mount.silence)
    ++ keyed keys.Players (decimal mount.players)
    ++ codes "}"

abbrev pub recorded_text : MountStatus → List ℕ
recorded_text mount = recorded_front mount ++ recorded_back mount

-- a player that has a seat
unfoldable pub player_front : PlayerStatus → List ℕ
player_front player =
    keyed keys.Mount (string_text player.mount)
    ++ keyed keys.Seat (decimal player.seat)
    ++ keyed keys.Peer (addr_text player.peer)
    ++ keyed keys.AgeMs (decimal player.age)

unfoldable pub player_middle : PlayerStatus → List ℕ
player_middle player =
    keyed (keys.Packet packets.Sent) (decimal player.sent)
    ++ keyed (keys.Packet packets.Skipped) (decimal player.skipped)
    ++ keyed (keys.Packet packets.Lost) (decimal player.lost)

unfoldable pub player_back : PlayerStatus → List ℕ
player_back player =
    keyed keys.Bytes (decimal player.bytes)
    ++ keyed keys.Behind (decimal player.behind)
    ++ keyed keys.Waiting (decimal (waiting_for player))
    ++ codes "}"

abbrev pub player_text : PlayerStatus → List ℕ
player_text player = player_front player ++ (player_middle player ++ player_back player)

-- the sums of all names
unfoldable pub totals_text : MountSums → List ℕ
totals_text sums =
    keyed keys.FirstPackets (came_text sums.came)
    ++ keyed keys.BytesIn (decimal sums.came.bytes)
    ++ keyed keys.PlayerPackets (account_text sums.players)
    ++ keyed keys.BytesOut (decimal sums.players.bytes)
    ++ codes "}"

-- the mounts that are recorded, and the players that have a seat
abbrev pub recorded_in : Snapshot → List MountStatus
recorded_in snapshot = filter (λ mount. not mount.has_ended) snapshot.mounts.items

abbrev pub seated_in : Snapshot → List PlayerStatus
seated_in snapshot = filter (λ player. not player.has_left) snapshot.players.items

-- the lists
unfoldable pub lists_text : Snapshot → List ℕ
lists_text snapshot =
    keyed keys.Mounts (list_text figures_text (map (figures_in snapshot) snapshot.named.items))
    ++ keyed keys.Recorded (list_text recorded_text (recorded_in snapshot))
    ++ keyed keys.Players (list_text player_text (seated_in snapshot))

-- what is of the whole server
unfoldable pub whole_text : Snapshot → List ℕ
whole_text snapshot =
    keyed keys.Totals (totals_text (sums_of_all snapshot))
    ++ keyed keys.Server (server_text snapshot.server)
    ++ codes "}"

-- all of it
unfoldable pub status_text : Snapshot → List ℕ
status_text snapshot = lists_text snapshot ++ whole_text snapshot
