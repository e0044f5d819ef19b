-- What an `m=` line of a server says (RFC 4566, 5.14: m=<media> <port> <proto> <fmt> ..).
use Rattle.std.specs.Prelude.{ℕ, if◌then◌else◌, List, [], ◌∷◌, drop, codes, Option, None, Some, Result, Ok, Err}
use Rattle.std.specs.Str.{bytes_eq}
use Rattle.sdp.specs.Fields.{is_field}
use Rattle.sdp.specs.Media.{words}
use Rattle.source_sdp.specs.declared.media.Media.{Media}
use Rattle.source_sdp.specs.declared.media.Media.TheVariants.{Audio, Video}
use Rattle.source_sdp.specs.declared.heading.Heading.{Heading}
use Rattle.source_sdp.specs.declared.reason.Reason.{Reason}
use Rattle.source_sdp.specs.declared.reason.Reason.TheVariants.{Unreadable, OtherMedia, OtherProtocol}
use Rattle.source_sdp.specs.Usable.{are_formats}

-- the media that a word names, of those that are relayed
abbrev pub media_named : List ℕ → Option Media
media_named word =
    if bytes_eq word (codes "audio") then Some Audio
    else (if bytes_eq word (codes "video") then Some Video else None)

-- what is sent by a protocol in these formats, or why it isn't relayed
abbrev pub heading_for : Option Media → (proto : List ℕ) → (formats : List (List ℕ)) → Result Heading Reason
heading_for None proto formats = Err OtherMedia
heading_for (Some media) proto formats =
    if bytes_eq proto (codes "RTP/AVP")
    then (if are_formats formats then Ok (record { media = media; formats = formats }) else Err Unreadable)
    else Err OtherProtocol

-- media, port, protocol and formats. The port doesn't count: SETUP says where packets go (RFC 2326, C.1.2).
abbrev pub heading_by : List (List ℕ) → Result Heading Reason
heading_by [] = Err Unreadable
heading_by (media ∷ []) = Err Unreadable
heading_by (media ∷ port ∷ []) = Err Unreadable
heading_by (media ∷ port ∷ proto ∷ formats) = heading_for (media_named media) proto formats

-- what an `m=` line says. One with a NUL or a CR says nothing (RFC 4566, 9: byte-string).
abbrev pub heading_of : List ℕ → Result Heading Reason
heading_of line = if is_field line then heading_by (words (drop 2 line)) else Err Unreadable
