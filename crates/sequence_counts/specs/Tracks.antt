-- The counts of the tracks of a mount.
use Rattle.std.specs.Prelude.{◌≡◌, ◌≢◌, ℕ, ◌<◌, List, ◌∷◌, ◌++◌, [], Option, None, Some, fold, length, map, slice_index_or}
use Rattle.std.specs.List.{range_with_len}
use Rattle.sequence_counts.specs.Counting.{AreCountsOf, Event, Packet}
use Rattle.sequence_counts.specs.Counts.{Counts, both_counts, counted_since, nothing_counted}

-- the counts of each track, none for a track of which no RTP packet was offered
abbrev pub Tracks : Type 0
Tracks = List (Option Counts)

-- a track's counts
abbrev pub counts_of : Option Counts → Counts
counts_of None = nothing_counted
counts_of (Some counts) = counts

-- those of the track with this number
abbrev pub at : Tracks → (track : ℕ) → Option Counts
at tracks track = slice_index_or tracks track None

-- after a RECORD the next packet of a track is a first one
abbrev pub after_record : Option Counts → Option Counts
after_record None = None
after_record (Some counts) = Some (record counts { highest = None })

-- what was counted since, of a track that was not there before or of one that was
abbrev pub since_of : (counts earlier : Option Counts) → Option Counts
since_of None earlier = None
since_of (Some counts) None = Some counts
since_of (Some counts) (Some earlier) = Some (counted_since counts earlier)

-- what was counted of two tracks with the same number in two mounts
abbrev pub both_of : (one other : Option Counts) → Option Counts
both_of None other = other
both_of (Some one) None = Some one
both_of (Some one) (Some other) = Some (both_counts one other)

-- what was counted, with the counts of one track more
abbrev pub with_track : (total : Counts) → Option Counts → Counts
with_track total None = total
with_track total (Some counts) = both_counts total counts

-- what was counted of all tracks
abbrev pub total_of : Tracks → Counts
total_of tracks = fold with_track nothing_counted tracks

-- what this gives of each of the sixteen tracks
unfoldable pub each_track : ((track : ℕ) → Option Counts) → Tracks
each_track counts = map counts (range_with_len 0 16)

-- each of the sixteen tracks has the counts that this gives of it
pub record AreEach (tracks : Tracks) (counts : (track : ℕ) → Option Counts) : Type 0 where
  pub long : length tracks ≡ 16
  pub at : (track : ℕ) → track < 16 → slice_index_or tracks track None ≡ counts track

-- each track after a RECORD
abbrev pub recorded_tracks : Tracks → Tracks
recorded_tracks tracks = each_track (λ track. after_record (at tracks track))

-- what was counted since of each track
abbrev pub tracks_since : (tracks earlier : Tracks) → Tracks
tracks_since tracks earlier = each_track (λ track. since_of (at tracks track) (at earlier track))

-- what was counted of two mounts, track by track
abbrev pub both_tracks : (one other : Tracks) → Tracks
both_tracks one other = each_track (λ track. both_of (at one track) (at other track))

-- these counts are those of one packet more
unfoldable pub CountsPacket : (old new : Counts) → (number ssrc : ℕ) → Type 0
CountsPacket old new number ssrc = (events : List Event) → AreCountsOf events old → AreCountsOf (events ++ Packet number ssrc ∷ []) new
