-- The order in which a client asks (RFC 2326, A.1).
use Rattle.std.specs.Prelude.{◌≡◌, ℕ, ◌+◌, ◌<◌, ◌≤◌, Bool, true, false, if◌then◌else◌, nat_lt, Option, Some, None}
use Rattle.rtsp_client.specs.declared.asked.Asked.{Asked}
use Rattle.rtsp_client.specs.declared.asked.Asked.TheVariants as asks
use Rattle.rtsp_client.specs.declared.asked.Side.{Side}
use Rattle.rtsp_client.specs.declared.asked.Side.TheVariants.{Source, Target}
use Rattle.rtsp_client.specs.declared.step.Step.{Step}
use Rattle.rtsp_client.specs.declared.step.Step.TheVariants.{Options, Describe, SetUp, Announce, SetUpTarget, Record, Play, Passing}

-- how far a client has come, how many tracks can be used, and how many of them are set up
pub record Place : Type 0 where
  pub step : Step
  pub tracks : ℕ
  pub kept : ℕ

-- The numbers of a place fit its step: a track is one of those that there are, and once the target is asked at least one is set up.
abbrev pub FitsStep : Step → (tracks kept : ℕ) → Type 0
FitsStep Options tracks kept = kept ≡ 0
FitsStep Describe tracks kept = kept ≡ 0
FitsStep (SetUp track) tracks kept = (track < tracks) × (kept ≤ track)
FitsStep Announce tracks kept = 0 < kept
FitsStep (SetUpTarget track) tracks kept = track < kept
FitsStep Record tracks kept = 0 < kept
FitsStep Play tracks kept = 0 < kept
FitsStep Passing tracks kept = 0 < kept

abbrev pub IsPlace : Step → (tracks kept : ℕ) → Type 0
IsPlace step tracks kept = (tracks ≤ 16) × (kept ≤ tracks) × FitsStep step tracks kept

-- nothing was asked for yet
abbrev pub start : Place
start = record { step = Options; tracks = 0; kept = 0 }

-- what a step asks for
abbrev pub asked_in : Step → Option Asked
asked_in Options = Some asks.Options
asked_in Describe = Some asks.Describe
asked_in (SetUp track) = Some asks.SetUp
asked_in Announce = Some asks.Announce
asked_in (SetUpTarget track) = Some asks.SetUpTarget
asked_in Record = Some asks.Record
asked_in Play = Some asks.Play
asked_in Passing = None

-- what a step asks a side for
abbrev pub asked_at : Side → Step → Option Asked
asked_at Source Options = Some asks.Options
asked_at Source Describe = Some asks.Describe
asked_at Source (SetUp track) = Some asks.SetUp
asked_at Source Announce = None
asked_at Source (SetUpTarget track) = None
asked_at Source Record = None
asked_at Source Play = Some asks.Play
asked_at Source Passing = None
asked_at Target Options = None
asked_at Target Describe = None
asked_at Target (SetUp track) = None
asked_at Target Announce = Some asks.Announce
asked_at Target (SetUpTarget track) = Some asks.SetUpTarget
asked_at Target Record = Some asks.Record
asked_at Target Play = None
asked_at Target Passing = None

-- the track that a step sets up
abbrev pub track_in : Step → ℕ
track_in Options = 0
track_in Describe = 0
track_in (SetUp track) = track
track_in Announce = 0
track_in (SetUpTarget track) = track
track_in Record = 0
track_in Play = 0
track_in Passing = 0

-- the place that it has, or will have, among those that are set up: at the source the next one, at the target its own
abbrev pub place_at : Step → (kept : ℕ) → ℕ
place_at Options kept = 0
place_at Describe kept = 0
place_at (SetUp track) kept = kept
place_at Announce kept = 0
place_at (SetUpTarget track) kept = track
place_at Record kept = 0
place_at Play kept = 0
place_at Passing kept = 0

abbrev pub place_in : Place → ℕ
place_in place = place_at place.step place.kept

-- RECORD succeeded
abbrev pub is_recording : Step → Bool
is_recording Options = false
is_recording Describe = false
is_recording (SetUp track) = false
is_recording Announce = false
is_recording (SetUpTarget track) = false
is_recording Record = false
is_recording Play = true
is_recording Passing = true

-- a track of the source is asked for
abbrev pub IsSetUp : Step → Type 0
IsSetUp Options = ⊥
IsSetUp Describe = ⊥
IsSetUp (SetUp track) = Unit {0}
IsSetUp Announce = ⊥
IsSetUp (SetUpTarget track) = ⊥
IsSetUp Record = ⊥
IsSetUp Play = ⊥
IsSetUp Passing = ⊥

-- the step after a track of the source: the next one, or the mount
abbrev pub behind_track : (track tracks : ℕ) → Step
behind_track track tracks = if nat_lt (track + 1) tracks then SetUp (track + 1) else Announce

-- the step after a track of the target: the next one, or RECORD
abbrev pub behind_target : (track kept : ℕ) → Step
behind_target track kept = if nat_lt (track + 1) kept then SetUpTarget (track + 1) else Record

-- the description has so many tracks that can be used
abbrev pub described_from : (tracks : ℕ) → Place → Place
described_from tracks place = record place { step = SetUp 0; tracks = tracks }

-- what was asked for is done
abbrev pub done_at : Step → Place → Place
done_at Options place = record place { step = Describe }
done_at Describe place = place
done_at (SetUp track) place = record place { step = behind_track track place.tracks; kept = place.kept + 1 }
done_at Announce place = record place { step = SetUpTarget 0 }
done_at (SetUpTarget track) place = record place { step = behind_target track place.kept }
done_at Record place = record place { step = Play }
done_at Play place = record place { step = Passing }
done_at Passing place = place

abbrev pub done_from : Place → Place
done_from place = done_at place.step place

-- the track that was asked for is left out
abbrev pub left_out_at : Step → Place → Place
left_out_at Options place = place
left_out_at Describe place = place
left_out_at (SetUp track) place = record place { step = behind_track track place.tracks }
left_out_at Announce place = place
left_out_at (SetUpTarget track) place = place
left_out_at Record place = place
left_out_at Play place = place
left_out_at Passing place = place

abbrev pub left_out_from : Place → Place
left_out_from place = left_out_at place.step place
