-- Why a media section is left out.
use Rattle.std.specs.Prelude.{ℕ, List, codes}
use Rattle.source_sdp.specs.declared.reason.Reason.{Reason}
use Rattle.source_sdp.specs.declared.reason.Reason.TheVariants.{Unreadable, OtherMedia, OtherProtocol, SendOnly, NoControl, TooManyTracks}

-- the words that a reason prints
abbrev pub reason_text : Reason → List ℕ
reason_text Unreadable = codes "unreadable media line"
reason_text OtherMedia = codes "neither audio nor video"
reason_text OtherProtocol = codes "not RTP/AVP"
reason_text SendOnly = codes "for the client to send"
reason_text NoControl = codes "no control"
reason_text TooManyTracks = codes "too many tracks"
