-- Which tracks go on: those that the source has set up.
use Rattle.std.specs.Prelude.{ℕ, Bool, if◌then◌else◌, List, [], ◌∷◌, take, count_by}
use Rattle.source_sdp.specs.declared.track.SourceTrack.{SourceTrack}

-- the tracks whose flag is true, in their order. A track without a flag doesn't go on.
abbrev pub kept_among : List SourceTrack → (kept : List Bool) → List SourceTrack
kept_among [] kept = []
kept_among (track ∷ tracks) [] = []
kept_among (track ∷ tracks) (goes_on ∷ kept) = if goes_on then track ∷ kept_among tracks kept else kept_among tracks kept

-- how many tracks go on by these flags
abbrev pub kept_count : (kept : List Bool) → ℕ
kept_count kept = count_by (λ goes_on. goes_on) kept

-- the number of the track with this place among those that go on, counted from 0: how many go on before it
abbrev pub number_of : (place : ℕ) → (kept : List Bool) → ℕ
number_of place kept = kept_count (take place kept)
