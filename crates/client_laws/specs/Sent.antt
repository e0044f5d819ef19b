-- The frames among what a client sends, and what is read of a beginning of its bytes (RFC 2326, 10.12).
use Rattle.std.specs.Prelude.{◌≡◌, ℕ, List, [], ◌∷◌, ◌++◌, map}
use Rattle.std.specs.List.{flat_map}
use Rattle.interleaved.specs.declared.frame.Frame.{Frame}
use Rattle.rtsp_message.specs.declared.unit.Unit.{Unit as StreamUnit}
use Rattle.rtsp_message.specs.Stream.{Ending, Reads, Waits}
use Rattle.request_text.specs.Sending.{Asking, Framed, Sent, sent_unit}

-- the frame that is sent; none if it is a request
abbrev pub frame_sent : Sent → List Frame
frame_sent (Asking request) = []
frame_sent (Framed frame) = frame ∷ []

-- the frames among what is sent, in order
abbrev pub frames_sent : List Sent → List Frame
frames_sent items = flat_map frame_sent items

-- The units are the first of those that are sent, and the bytes after them wait: there is no fault.
pub record IsBeginning (items : List Sent) (units : List StreamUnit) (ending : Ending) : Type 0 where
  pub later : List StreamUnit
  pub first : units ++ later ≡ map sent_unit items
  pub rest : List ℕ
  pub waits : ending ≡ Waits rest

-- These bytes are read as a beginning of what is sent.
pub record ReadsBeginning (items : List Sent) (front : List ℕ) : Type 0 where
  pub units : List StreamUnit
  pub ending : Ending
  pub reads : Reads front units ending
  pub begins : IsBeginning items units ending
