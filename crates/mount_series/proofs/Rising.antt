-- Counts of tracks, none of which falls.
use Rattle.std.proofs.Common.{◌≡◌, ℕ, ◌+◌, ◌<◌, Option, None, Some, arith, subst, sym}
use Rattle.std.proofs.lemmas.List.FromFn.{get_or-map-range_with_len}
use Rattle.sequence_counts.specs.Counts.{Counts}
use Rattle.sequence_counts.specs.Tracks.{Tracks, at, both_of, both_tracks, counts_of, each_track}
use Rattle.mount_series.specs.Sums.{AreTracksFrom, IsTrackFrom}

-- what is counted of two tracks is at least what was counted of one
both_rise : (one other : Option Counts) → IsTrackFrom (counts_of one) (counts_of (both_of one other))
both_rise None other = record { missing = omega arith; late = omega arith; restarts = omega arith }
both_rise (Some one) None = record { missing = omega arith; late = omega arith; restarts = omega arith }
both_rise (Some one) (Some other) = record { missing = omega arith; late = omega arith; restarts = omega arith }

-- a track of what this gives of each
at_each : (counts : (track : ℕ) → Option Counts) (track : ℕ) → track < 16 → at (each_track counts) track ≡ counts track
unfolding each_track
at_each counts track below =
    let place : 0 + track ≡ track = omega arith in
    get_or-map-range_with_len counts 0 16 track track None below place

pub tracks_rise : (one other : Tracks) → AreTracksFrom one (both_tracks one other)
tracks_rise one other track below =
    subst (λ both. IsTrackFrom (counts_of (at one track)) (counts_of both)) (sym (at_each (λ track. both_of (at one track) (at other track)) track below)) (both_rise (at one track) (at other track))
