-- The frames of a stream: its messages are skipped.
use Rattle.std.specs.Prelude.{◌≡◌, ℕ, Bool, List, [], ◌∷◌, Option}
use Rattle.std.specs.List.{flat_map}
use Rattle.interleaved.specs.declared.frame.Frame.{Frame}
use Rattle.rtsp_message.specs.declared.unit.Unit.{Unit as StreamUnit}
use Rattle.rtsp_message.specs.declared.unit.Unit.TheVariants as content
use Rattle.rtsp_message.specs.Intakes.{IntakeState, HandsOut, Tells, Lasts}
use Rattle.relay_pass.specs.declared.report.StreamEnd.{StreamEnd}
use Rattle.relay_pass.specs.declared.frames.Incoming.{Incoming}
use Rattle.relay_pass.specs.declared.frames.Incoming.TheVariants as incoming
use Rattle.relay_pass.specs.Counts.{answer_of}

-- the frame that a unit is; none if it is a message
abbrev pub frame_in : StreamUnit → List Frame
frame_in (content.Frame frame) = frame ∷ []
frame_in (content.Message request) = []

-- the frames among these units, in order
abbrev pub frames_among : List StreamUnit → List Frame
frames_among units = flat_map frame_in units

-- the frame that came, if one did
abbrev pub frames_of_incoming : Incoming → List Frame
frames_of_incoming (incoming.Frame frame) = frame ∷ []
frames_of_incoming (incoming.Ended end) = []

module _ {S : Type 0} (of_source : S → Option (List ℕ)) (failed : S → Bool) where
  -- the stream has ended so, and stays ended unless memory was refused
  abbrev pub HasEnded : IntakeState S → StreamEnd → Type 0
  HasEnded intake end = Tells of_source failed intake (answer_of end) × Lasts failed intake (answer_of end)

  -- if no frame came, the stream has ended
  abbrev pub EndsWith : IntakeState S → Incoming → Type 0
  EndsWith intake (incoming.Frame frame) = Unit {0}
  EndsWith intake (incoming.Ended end) = HasEnded intake end

  -- from the old state to the new one the intake handed out messages and then this frame, or messages until the stream ended
  pub record Comes (old new : IntakeState S) (came : Incoming) : Type 0 where
    pub units : List StreamUnit
    pub hands_out : HandsOut of_source old new units
    pub frames : frames_among units ≡ frames_of_incoming came
    pub ended : EndsWith new came
