-- The tracks of a mount that are shown.
use Rattle.std.specs.Prelude.{ℕ, List, Option}
use Rattle.std.specs.List.{filter_map, range_with_len}
use Rattle.std.specs.Option.{option_map}
use Rattle.sequence_counts.specs.Tracks.{Tracks, at}
use Rattle.status_texts.specs.declared.track_figures.TrackFigures.{TrackFigures}

-- a track's counts with its number, if it has counts
abbrev pub track_in : Tracks → (track : ℕ) → Option TrackFigures
track_in tracks track = option_map (λ counts. record { track = track; counts = counts }) (at tracks track)

-- those of each track that has counts, in the order of the tracks
unfoldable pub tracks_in : Tracks → List TrackFigures
tracks_in tracks = filter_map (track_in tracks) (range_with_len 0 16)
