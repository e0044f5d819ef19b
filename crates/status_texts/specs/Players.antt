-- The samples of each player.
use Rattle.std.specs.Prelude.{ℕ, Bool, not, ◌&&◌, nat_eq, nat_lt, List, [], ◌∷◌, ◌++◌, count_by, filter, map, codes, decimal}
use Rattle.std.specs.List.{flat_map}
use Rattle.std.specs.Str.{bytes_eq}
use Rattle.std.specs.Net.Text.{socket_text}
use Rattle.exposition.specs.Exposition.{LabelPair, sample_text}
use Rattle.status.specs.declared.player_status.PlayerStatus.{PlayerStatus}
use Rattle.status.specs.Names.{waiting_for}
use Rattle.status_texts.specs.Seat.{Seat}
use Rattle.status_texts.specs.declared.player_family.PlayerFamily.{PlayerFamily}
use Rattle.status_texts.specs.declared.player_family.PlayerFamily.TheVariants.{Packets, Bytes, Behind, Waiting, Info}
use Rattle.status_texts.specs.Families.{counter, gauge, head_text}
use Rattle.status_texts.specs.Heads.{Head}
use Rattle.status_texts.specs.Labels.{mount_label, result_label}
use Rattle.status_texts.specs.Numbers.{NamedNumber, called}

-- The other player took the same seat later, of a mount of the same name: that of a mount which ended may still be taken when its name
-- is recorded again.
abbrev pub takes_over : (player other : PlayerStatus) → Bool
takes_over player other =
    not other.has_left && nat_lt other.age player.age && nat_eq other.seat player.seat && bytes_eq other.mount player.mount

-- the player has a seat, and the last one of its name and number
abbrev pub is_shown : List PlayerStatus → PlayerStatus → Bool
is_shown players player = not player.has_left && nat_eq (count_by (takes_over player) players) 0

abbrev pub player_head : PlayerFamily → Head
player_head Packets = counter (codes "vasklun_seat_packets_total") (codes "Packets for the player in the seat since it took it, by what became of them.")
player_head Bytes = counter (codes "vasklun_seat_bytes_total") (codes "Bytes of the packets that were sent to the player in the seat since it took it.")
player_head Behind = gauge (codes "vasklun_seat_behind_packets") (codes "Packets that the player in the seat is behind.")
player_head Waiting =
    gauge (codes "vasklun_seat_waiting_packets") (codes "Packets since the player took the seat that were neither sent, skipped nor lost yet.")
player_head Info = gauge (codes "vasklun_player_info") (codes "1 for each player that has a seat, with its address.")

-- what is shown of a player
abbrev pub seat_of : PlayerStatus → Seat
seat_of player = record {
  mount = player.mount;
  seat = decimal player.seat;
  peer = socket_text player.peer;
  sent = player.sent;
  bytes = player.bytes;
  skipped = player.skipped;
  lost = player.lost;
  behind = player.behind;
  waiting = waiting_for player;
}

-- the players that are shown
abbrev pub seats_of : List PlayerStatus → List Seat
seats_of players = map seat_of (filter (is_shown players) players)

abbrev pub seat_label : Seat → LabelPair
seat_label seat = record { name = codes "seat"; value = seat.seat }

abbrev pub peer_label : Seat → LabelPair
peer_label seat = record { name = codes "peer"; value = seat.peer }

-- what became of the packets for a player
abbrev pub seat_counts : Seat → List NamedNumber
seat_counts seat = called (codes "sent") seat.sent ∷ called (codes "skipped") seat.skipped ∷ called (codes "lost") seat.lost ∷ []

-- a sample of a player for a result
abbrev pub seat_count : (metric : List ℕ) → Seat → NamedNumber → List ℕ
seat_count metric seat count =
    sample_text metric (mount_label seat.mount ∷ seat_label seat ∷ result_label count.name ∷ []) (decimal count.value)

-- a sample of a player
abbrev pub seat_sample : (metric : List ℕ) → Seat → (value : List ℕ) → List ℕ
seat_sample metric seat value = sample_text metric (mount_label seat.mount ∷ seat_label seat ∷ []) value

-- a family's samples for a player
abbrev pub player_samples : (metric : List ℕ) → PlayerFamily → Seat → List ℕ
player_samples metric Packets seat = flat_map (seat_count metric seat) (seat_counts seat)
player_samples metric Bytes seat = seat_sample metric seat (decimal seat.bytes)
player_samples metric Behind seat = seat_sample metric seat (decimal seat.behind)
player_samples metric Waiting seat = seat_sample metric seat (decimal seat.waiting)
player_samples metric Info seat = sample_text metric (mount_label seat.mount ∷ seat_label seat ∷ peer_label seat ∷ []) (decimal 1)

-- a family: its head, and its samples for each player that is shown
unfoldable pub player_family : List Seat → PlayerFamily → List ℕ
player_family seats family = head_text (player_head family) ++ flat_map (player_samples (player_head family).name family) seats

-- the families in their order
abbrev pub players_text : List PlayerStatus → List ℕ
players_text players = flat_map (player_family (seats_of players)) (Packets ∷ Bytes ∷ Behind ∷ Waiting ∷ Info ∷ [])
