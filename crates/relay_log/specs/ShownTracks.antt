-- What is shown of the tracks of a description.
use Rattle.std.specs.Prelude.{◌≡◌, ◌⊎◌, ℕ, List, [], ◌∷◌, map, take}
use Rattle.sdp.specs.declared.track.Track.{Track}
use Rattle.sdp.specs.Readings.{IsRefused, Reads}
use Rattle.sdp.specs.declared.fault.SdpFault.{SdpFault}
use Rattle.sdp.specs.declared.sections.Sections.{Sections}
use Rattle.status.specs.declared.mount_status.TrackStatus.{TrackStatus}

-- the first of these texts
abbrev pub first_of : List (List ℕ) → List ℕ
first_of [] = []
first_of (text ∷ more) = text

-- a track as it is shown: of its media and of its first payload format (RFC 4566, 5.14) at most 64 bytes each
abbrev pub shown_track : Track → TrackStatus
shown_track track = record { media = take 64 track.media; format = take 64 (first_of track.formats) }

-- These are the tracks of the description that the text is, as they are shown; none if it is no description.
abbrev pub ShowsTracks : (text : List ℕ) → List TrackStatus → Type 0
ShowsTracks text shown =
    ((sections : Sections) × Reads text sections × (shown ≡ map shown_track sections.tracks))
    ⊎ ((fault : SdpFault) × IsRefused text fault × (shown ≡ []))
