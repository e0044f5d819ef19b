-- What is put: requests, replies to a server's requests, and frames (RFC 2326, 6, 7 and 10.12).
use Rattle.std.specs.Prelude.{◌≤◌, ℕ, Bool, true, false, List, Option, length}
use Rattle.rtsp_message.specs.Reply.{plain_text}
use Rattle.rtsp_message.specs.declared.status.Status.{Status}
use Rattle.request_text.specs.Sending.{Asking, CanSend, Framed, Sent, sent_text}

pub data Item : Type 0 where
  -- a request or a frame
  Sends : (sent : Sent) → Item
  -- a reply that has no field but CSeq, if that
  Replies : (status : Status) (cseq : Option ℕ) → Item

-- the bytes that it is on a connection
abbrev pub item_text : Item → List ℕ
item_text (Sends sent) = sent_text sent
item_text (Replies status cseq) = plain_text status cseq

abbrev pub is_frame : Item → Bool
is_frame (Sends (Asking request)) = false
is_frame (Sends (Framed frame)) = true
is_frame (Replies status cseq) = false

-- a request that can be sent, a frame whose length can be sent, or a reply of at most 128 bytes
abbrev pub CanPut : Item → Type 0
CanPut (Sends sent) = CanSend sent
CanPut (Replies status cseq) = length (plain_text status cseq) ≤ 128
