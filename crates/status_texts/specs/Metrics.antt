-- The text of `/metrics`.
use Rattle.std.specs.Prelude.{ℕ, Bool, if◌then◌else◌, List, [], ◌∷◌, ◌++◌, map, Option, codes, decimal, string_bytes}
use Rattle.std.specs.List.{flat_map}
use Rattle.mount_series.specs.declared.sums.MountSums.{MountSums}
use Rattle.status.specs.declared.snapshot.Snapshot.{Snapshot}
use Rattle.status.specs.Names.{sums_of_all}
use Rattle.process_figures.specs.declared.figures.ProcessFigures.{ProcessFigures}
use Rattle.exposition.specs.Exposition.{sample_text, seconds_text}
use Rattle.server_counts.specs.declared.figures.ServerFigures.{ServerFigures}
use Rattle.status_texts.specs.declared.family.MountFamily.{MountFamily}
use Rattle.status_texts.specs.declared.family.MountFamily.TheVariants.{Packets, BytesIn, PlayerPackets, PlayerBytes, Slowed, Live, Players, BehindMax}
use Rattle.status_texts.specs.declared.family.ServerFamily.{ServerFamily}
use Rattle.status_texts.specs.declared.family.ServerFamily.TheVariants.{AllPackets, AllBytesIn, AllPlayerPackets, AllPlayerBytes, ConnectionsMax, MountsMax, SeatsMax, BuildInfo}
use Rattle.status_texts.specs.declared.server_metrics.ServerFacts.{ServerFacts}
use Rattle.status_texts.specs.Families.{head_text, mount_head, server_head}
use Rattle.status_texts.specs.Figures.{figures_of}
use Rattle.status_texts.specs.Labels.{mount_label, named_count, result_label, version_label}
use Rattle.status_texts.specs.LastPackets.{last_family}
use Rattle.status_texts.specs.Name.{Figures}
use Rattle.status_texts.specs.Numbers.{NamedNumber, packet_counts, player_counts}
use Rattle.status_texts.specs.Process.{process_families}
use Rattle.status_texts.specs.Serving.{serving_families}
use Rattle.status_texts.specs.Tracks.{track_families}

-- a sample of a mount
abbrev pub mount_sample : (metric mount value : List ℕ) → List ℕ
mount_sample metric mount value = sample_text metric (mount_label mount ∷ []) value

-- a sample of a mount for a result
abbrev pub mount_count : (metric mount : List ℕ) → NamedNumber → List ℕ
mount_count metric mount count = sample_text metric (mount_label mount ∷ result_label count.name ∷ []) (decimal count.value)

-- 1 for yes, 0 for no
abbrev pub yes_or_no : Bool → ℕ
yes_or_no is = if is then 1 else 0

-- a family's samples for a name
abbrev pub mount_samples : (metric : List ℕ) → MountFamily → Figures → List ℕ
mount_samples metric Packets f = flat_map (mount_count metric f.name) (packet_counts f.sums.came)
mount_samples metric BytesIn f = mount_sample metric f.name (decimal f.sums.came.bytes)
mount_samples metric PlayerPackets f = flat_map (mount_count metric f.name) (player_counts f.sums.players)
mount_samples metric PlayerBytes f = mount_sample metric f.name (decimal f.sums.players.bytes)
mount_samples metric Slowed f = mount_sample metric f.name (seconds_text f.sums.came.slowed)
mount_samples metric Live f = mount_sample metric f.name (decimal (yes_or_no f.is_live))
mount_samples metric Players f = mount_sample metric f.name (decimal f.players)
mount_samples metric BehindMax f = mount_sample metric f.name (decimal f.behind)

-- a family's samples for the server: its sums, its limits and its version
abbrev pub server_samples : (metric : List ℕ) → ServerFamily → MountSums → ServerFacts → List ℕ
server_samples metric AllPackets sums server = flat_map (named_count metric (codes "result")) (packet_counts sums.came)
server_samples metric AllBytesIn sums server = sample_text metric [] (decimal sums.came.bytes)
server_samples metric AllPlayerPackets sums server = flat_map (named_count metric (codes "result")) (player_counts sums.players)
server_samples metric AllPlayerBytes sums server = sample_text metric [] (decimal sums.players.bytes)
server_samples metric ConnectionsMax sums server = sample_text metric [] (decimal server.connections)
server_samples metric MountsMax sums server = sample_text metric [] (decimal server.mounts)
server_samples metric SeatsMax sums server = sample_text metric [] (decimal server.seats)
server_samples metric BuildInfo sums server = sample_text metric (version_label (string_bytes server.version) ∷ []) (decimal 1)

-- a family: its head, and its samples for each name
unfoldable pub mount_family : List Figures → MountFamily → List ℕ
mount_family figures family = head_text (mount_head family) ++ flat_map (mount_samples (mount_head family).name family) figures

unfoldable pub server_family : MountSums → ServerFacts → ServerFamily → List ℕ
server_family sums server family = head_text (server_head family) ++ server_samples (server_head family).name family sums server

-- the families in their order
unfoldable pub mount_counters : List Figures → List ℕ
mount_counters figures = flat_map (mount_family figures) (Packets ∷ BytesIn ∷ PlayerPackets ∷ PlayerBytes ∷ Slowed ∷ [])

unfoldable pub mount_gauges : List Figures → List ℕ
mount_gauges figures = flat_map (mount_family figures) (Live ∷ Players ∷ BehindMax ∷ [])

unfoldable pub mount_families : (wall : Option ℕ) → List Figures → List ℕ
mount_families wall figures = mount_counters figures ++ track_families figures ++ mount_gauges figures ++ last_family wall figures

unfoldable pub server_counters : MountSums → ServerFacts → List ℕ
server_counters sums server = flat_map (server_family sums server) (AllPackets ∷ AllBytesIn ∷ AllPlayerPackets ∷ AllPlayerBytes ∷ [])

unfoldable pub server_limits : MountSums → ServerFacts → List ℕ
server_limits sums server = flat_map (server_family sums server) (ConnectionsMax ∷ MountsMax ∷ SeatsMax ∷ BuildInfo ∷ [])

abbrev pub server_families : MountSums → ServerFacts → List ℕ
server_families sums server = server_counters sums server ++ server_limits sums server

-- what is said of the server by itself, and of its process
unfoldable pub facts_text : MountSums → ServerFigures → ServerFacts → ProcessFigures → List ℕ
facts_text sums figures server process = server_families sums server ++ serving_families figures ++ process_families process

-- all of it, of a snapshot that was made so many milliseconds after the beginning of 1970, if that is known
abbrev pub metrics_text : Snapshot → (wall : Option ℕ) → ServerFacts → ProcessFigures → List ℕ
metrics_text snapshot wall server process =
    mount_families wall (map (figures_of snapshot) snapshot.named.items) ++ facts_text (sums_of_all snapshot) snapshot.server server process
