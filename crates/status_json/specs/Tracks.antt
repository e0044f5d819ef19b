-- The tracks of a mount: those that have counts, and those of its description.
use Rattle.std.specs.Prelude.{ℕ, List, ◌++◌, Option, codes, decimal}
use Rattle.std.specs.List.{filter_map, range_with_len}
use Rattle.std.specs.Option.{option_map}
use Rattle.sequence_counts.specs.Tracks.{Tracks, at}
use Rattle.status.specs.declared.mount_status.TrackStatus.{TrackStatus}
use Rattle.status_json.specs.declared.key.Key.TheVariants as keys
use Rattle.status_json.specs.declared.key.TrackKey.TheVariants as tracks
use Rattle.status_json.specs.declared.tracks.CountedTrack.{CountedTrack}
use Rattle.status_json.specs.Json.{keyed, string_text}

-- a track's counts with its number, if it has counts
abbrev pub track_in : Tracks → (track : ℕ) → Option CountedTrack
track_in counts track = option_map (λ counts. record { track = track; counts = counts }) (at counts track)

-- those of each track that has counts, in the order of the tracks
unfoldable pub tracks_in : Tracks → List CountedTrack
tracks_in counts = filter_map (track_in counts) (range_with_len 0 16)

-- the object of a track
unfoldable pub counted_track_text : CountedTrack → List ℕ
counted_track_text track =
    keyed (keys.OfTrack tracks.Track) (decimal track.track)
    ++ keyed (keys.OfTrack tracks.Missing) (decimal track.counts.missing)
    ++ keyed (keys.OfTrack tracks.Late) (decimal track.counts.late)
    ++ keyed (keys.OfTrack tracks.Restarts) (decimal track.counts.restarts)
    ++ codes "}"

-- the object of a track of a description: its media and its first payload format
unfoldable pub described_text : TrackStatus → List ℕ
described_text track =
    keyed (keys.OfTrack tracks.Media) (string_text track.media)
    ++ keyed (keys.OfTrack tracks.Format) (string_text track.format)
    ++ codes "}"
