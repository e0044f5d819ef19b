-- The figures of each name of a snapshot.
use Rattle.std.specs.Prelude.{◌-◌, count_by, nat_lt}
use Rattle.mount_series.specs.declared.named_sums.NamedSums.{NamedSums}
use Rattle.status.specs.declared.snapshot.Snapshot.{Snapshot}
use Rattle.status.specs.Names.{behind_of, last_of, plays_from, sums_of}
use Rattle.status_texts.specs.Name.{Figures}
use Rattle.status_texts.specs.Shown.{tracks_in}

-- what ended of the name with what goes on, whether a mount of it is recorded, how many players have a seat of one,
-- how many packets the last of these is behind, and how long ago the last packet came
unfoldable pub figures_of : Snapshot → NamedSums → Figures
figures_of snapshot named = record {
  name = named.name;
  sums = sums_of snapshot named;
  tracks = tracks_in (sums_of snapshot named).came.tracks;
  is_live = nat_lt 0 named.recorded;
  players = count_by (plays_from named.name) snapshot.players.items;
  behind = behind_of named.name snapshot.players.items;
  silence = snapshot.made - last_of snapshot named;
}
