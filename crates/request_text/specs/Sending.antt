-- What a client sends on a connection: requests, and frames between them (RFC 2326, 10.12).
use Rattle.std.specs.Prelude.{◌<◌, ◌^◌, ℕ, List, length}
use Rattle.interleaved.specs.declared.frame.Frame.{Frame as Block}
use Rattle.interleaved.specs.Frame.{frame_of}
use Rattle.rtsp_message.specs.declared.unit.Unit.{Unit as StreamUnit}
use Rattle.rtsp_message.specs.declared.unit.Unit.TheVariants.{Frame, Message}
use Rattle.request_text.specs.declared.request_text.RequestText.{RequestText}
use Rattle.request_text.specs.Faults.{IsSendable}
use Rattle.request_text.specs.Texts.{message_text, request_of}

pub data Sent : Type 0 where
  Asking : (request : RequestText) → Sent
  Framed : (frame : Block) → Sent

-- the bytes that are sent
abbrev pub sent_text : Sent → List ℕ
sent_text (Asking request) = message_text (request_of request)
sent_text (Framed frame) = frame_of frame.channel frame.payload

-- what their reader is to read
abbrev pub sent_unit : Sent → StreamUnit
sent_unit (Asking request) = Message (request_of request)
sent_unit (Framed frame) = Frame frame

-- the length of a frame's data is sent in two bytes
abbrev pub CanSend : Sent → Type 0
CanSend (Asking request) = (request.number < 2 ^ 32) × IsSendable request
CanSend (Framed frame) = length frame.payload < 2 ^ 16
