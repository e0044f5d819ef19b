-- The families of metrics: names, kinds and help texts.
use Rattle.std.specs.Prelude.{ℕ, List, codes}
use Rattle.exposition.specs.declared.kind.MetricKind.TheVariants.{Counter, Gauge}
use Rattle.exposition.specs.Exposition.{family_head}
use Rattle.status_texts.specs.declared.family.MountFamily.{MountFamily}
use Rattle.status_texts.specs.declared.family.MountFamily.TheVariants.{Packets, BytesIn, PlayerPackets, PlayerBytes, Slowed, Live, Players, BehindMax}
use Rattle.status_texts.specs.declared.family.ServerFamily.{ServerFamily}
use Rattle.status_texts.specs.declared.family.ServerFamily.TheVariants.{AllPackets, AllBytesIn, AllPlayerPackets, AllPlayerBytes, ConnectionsMax, MountsMax, SeatsMax, BuildInfo}
use Rattle.status_texts.specs.declared.family.ProcessFamily.{ProcessFamily}
use Rattle.status_texts.specs.declared.family.ProcessFamily.TheVariants.{StartTime, CpuSeconds, ResidentMemory, OpenFds, MaxFds}
use Rattle.status_texts.specs.Heads.{Head}

abbrev pub counter : (name help : List ℕ) → Head
counter name help = record { name = name; kind = Counter; help = help }

abbrev pub gauge : (name help : List ℕ) → Head
gauge name help = record { name = name; kind = Gauge; help = help }

-- the two lines of a head
unfoldable pub head_text : Head → List ℕ
head_text head = family_head head.name head.kind head.help

abbrev pub mount_head : MountFamily → Head
mount_head Packets = counter (codes "vasklun_mount_packets_total") (codes "Frames that came to the mounts of the name, by what became of them.")
mount_head BytesIn = counter (codes "vasklun_mount_bytes_in_total") (codes "Bytes of the packets that were published to the mounts of the name.")
mount_head PlayerPackets = counter (codes "vasklun_mount_player_packets_total") (codes "Packets for the players of the name's mounts, by what became of them.")
mount_head PlayerBytes = counter (codes "vasklun_mount_player_bytes_total") (codes "Bytes of the packets that were sent to the players of the name's mounts.")
mount_head Slowed = counter (codes "vasklun_mount_slowed_seconds_total") (codes "Seconds that packets of the name's mounts waited for players.")
mount_head Live = gauge (codes "vasklun_mount_live") (codes "1 if a mount of the name is recorded, 0 if its last mount has ended.")
mount_head Players = gauge (codes "vasklun_mount_players") (codes "Players that have a seat of a mount of the name.")
mount_head BehindMax = gauge (codes "vasklun_mount_behind_packets_max") (codes "Packets that the slowest player of the name's mounts is behind.")

abbrev pub server_head : ServerFamily → Head
server_head AllPackets = counter (codes "vasklun_packets_total") (codes "Frames that came to all mounts since the server started, by what became of them.")
server_head AllBytesIn = counter (codes "vasklun_bytes_in_total") (codes "Bytes of the packets that were published to all mounts since the server started.")
server_head AllPlayerPackets = counter (codes "vasklun_player_packets_total") (codes "Packets for all players since the server started, by what became of them.")
server_head AllPlayerBytes = counter (codes "vasklun_player_bytes_total") (codes "Bytes of the packets that were sent to all players since the server started.")
server_head ConnectionsMax = gauge (codes "vasklun_connections_max") (codes "The limit of connections.")
server_head MountsMax = gauge (codes "vasklun_mounts_max") (codes "The limit of mounts.")
server_head SeatsMax = gauge (codes "vasklun_seats_max") (codes "The limit of players of a mount.")
server_head BuildInfo = gauge (codes "vasklun_build_info") (codes "1, with the version of the server.")

abbrev pub process_head : ProcessFamily → Head
process_head StartTime = gauge (codes "process_start_time_seconds") (codes "Start time of the process since the Unix epoch in seconds.")
process_head CpuSeconds = counter (codes "process_cpu_seconds_total") (codes "Total user and system CPU time spent in seconds.")
process_head ResidentMemory = gauge (codes "process_resident_memory_bytes") (codes "Resident memory size in bytes.")
process_head OpenFds = gauge (codes "process_open_fds") (codes "Number of open file descriptors.")
process_head MaxFds = gauge (codes "process_max_fds") (codes "Maximum number of open file descriptors.")
