-- What is known of the beginning of a unit, so that its bytes aren't looked at again.
use Rattle.std.specs.Prelude.{◌≡◌, ◌+◌, ◌*◌, ◌<◌, ◌≤◌, ℕ, true, List, [], ◌∷◌, ◌++◌, Option, None, Some, length, take, slice_index, codes}
use Rattle.base_syntax.specs.Lines.{HasNoLf, ended, said}
use Rattle.interleaved.specs.Frame.{FrameBegins}
use Rattle.rtsp_message.specs.declared.headers.Header.{Header}
use Rattle.rtsp_message.specs.declared.request.Request.{Request}
use Rattle.rtsp_message.specs.declared.known.Known.{Known}
use Rattle.rtsp_message.specs.declared.known.Known.TheVariants as knows
use Rattle.rtsp_message.specs.declared.known.Look.{Look}
use Rattle.rtsp_message.specs.declared.known.Look.TheVariants as looks
use Rattle.rtsp_message.specs.declared.judging.Judged.{Judged}
use Rattle.rtsp_message.specs.declared.judging.Judged.TheVariants as judges
use Rattle.rtsp_message.specs.Limits.{head_limit, waiting_limit}
use Rattle.rtsp_message.specs.Headers.{value_of}
use Rattle.rtsp_message.specs.Lengths.{announced, body_len, field_fault}
use Rattle.rtsp_message.specs.declared.peer.Peer.{Peer}
use Rattle.rtsp_message.specs.Lines.{IsStartLine, IsHeaderLine}
use Rattle.rtsp_message.specs.Heads.{joined, AreHeaders, IsBadHeader, IsHeadFrom}
use Rattle.rtsp_message.specs.Stores.{between}
use Rattle.rtsp_message.specs.Stream.{is_pad, BeginsMessage, BeginsFrame, EndsAsFrom, Waits, Fails}

-- The header fields announce this length; where they announce none, none of them is a Content-Length field.
pub record Tell (headers : List Header) (told : Option ℕ) : Type 0 where
  pub length_is : announced headers ≡ told
  pub none : told ≡ None → value_of headers (codes "Content-Length") ≡ None

-- A start line, and header lines whose fields announce this length.
pub record AreGoodLines (peer : Peer) (bytes : List ℕ) (told : Option ℕ) : Type 0 where
  pub first : List ℕ
  pub method : List ℕ
  pub uri : List ℕ
  pub version : List ℕ
  pub lines : List (List ℕ)
  pub headers : List Header
  pub whole : bytes ≡ ended first ++ joined lines
  pub first_unbroken : HasNoLf first
  pub request_line : IsStartLine peer (said first) method uri version
  pub are_headers : AreHeaders [] lines headers
  pub tell : Tell headers told

-- A frame of this length begins.
pub record IsFrameStart (bytes : List ℕ) (len : ℕ) : Type 0 where
  pub begins : BeginsFrame bytes
  pub has_head : 4 ≤ length bytes
  pub len_is : len ≡ 4 + (256 * slice_index bytes 2 + slice_index bytes 3)
  pub most : len ≤ 65539

-- A message begins, and no LF was found so far.
pub record IsFirstLineStart (bytes : List ℕ) (searched : ℕ) : Type 0 where
  pub begins : BeginsMessage bytes
  pub within : searched ≤ length bytes
  pub none_found : HasNoLf (between bytes 0 searched)

-- A message begins with these lines, and after them no LF was found so far.
pub record IsFieldsStart (peer : Peer) (bytes : List ℕ) (line searched : ℕ) (told : Option ℕ) : Type 0 where
  pub begins : BeginsMessage bytes
  pub good : AreGoodLines peer (take line bytes) told
  pub short : line ≤ head_limit
  pub in_order : line ≤ searched
  pub within : searched ≤ length bytes
  pub none_found : HasNoLf (between bytes line searched)

-- A message of this length begins with this head.
pub record IsMessageStart (peer : Peer) (bytes : List ℕ) (head len : ℕ) : Type 0 where
  pub begins : BeginsMessage bytes
  pub within : head ≤ length bytes
  pub request : Request
  pub is_head : IsHeadFrom peer (take head bytes) request
  pub len_is : len ≡ head + body_len request.headers

-- what is known of the bytes is so
abbrev pub IsKnown : Peer → List ℕ → Known → Type 0
IsKnown peer bytes knows.Nothing = Unit {0}
IsKnown peer bytes knows.Dollar = BeginsFrame bytes
IsKnown peer bytes (knows.Frame len) = IsFrameStart bytes len
IsKnown peer bytes (knows.FirstLine searched) = IsFirstLineStart bytes searched
IsKnown peer bytes (knows.Fields line searched told) = IsFieldsStart peer bytes line searched told
IsKnown peer bytes (knows.Message head len) = IsMessageStart peer bytes head len

-- what was found at the front of the bytes is so
abbrev pub IsLook : Peer → List ℕ → Look → Type 0
IsLook peer bytes looks.Pad = (0 < length bytes) × (is_pad (slice_index bytes 0) ≡ true)
IsLook peer bytes (looks.Frame len) = FrameBegins bytes len
IsLook peer bytes (looks.Message head len) = (len ≤ length bytes) × IsMessageStart peer bytes head len
IsLook peer bytes (looks.Bad fault) = EndsAsFrom peer bytes (Fails fault)
IsLook peer bytes (looks.Waits known) = EndsAsFrom peer bytes (Waits bytes) × (length bytes < waiting_limit) × IsKnown peer bytes known

-- At most so many looks it took to know that: one at the first byte, three more at the head of a frame; in a head one at
-- each byte in search of an LF, and one at each byte of a judged line.
abbrev pub looks_for : Known → ℕ
looks_for knows.Nothing = 0
looks_for knows.Dollar = 1
looks_for (knows.Frame len) = 4
looks_for (knows.FirstLine searched) = 1 + searched
looks_for (knows.Fields line searched told) = 1 + searched + line
looks_for (knows.Message head len) = 1 + 2 * head

-- and so many it took to find that, at the front of so many bytes
abbrev pub looks_to_find : ℕ → Look → ℕ
looks_to_find size looks.Pad = 1
looks_to_find size (looks.Frame len) = 4
looks_to_find size (looks.Message head len) = 1 + 2 * head
looks_to_find size (looks.Bad fault) = 1 + 2 * size
looks_to_find size (looks.Waits known) = looks_for known

-- how far a head was searched: past the LF that was found, or through all of so many bytes
abbrev pub searched_to : ℕ → Option ℕ → ℕ
searched_to size (Some end) = end + 1
searched_to size None = size

-- What a line is that stands where a header line is due, after any header fields that announce this length.
abbrev pub IsJudged : (told : Option ℕ) → List ℕ → Judged → Type 0
IsJudged told text (judges.Header now) =
    (header : Header) × IsHeaderLine text header
    × ((before : List Header) → Tell before told → (field_fault before header ≡ None) × Tell (before ++ header ∷ []) now)
IsJudged told text judges.Empty = text ≡ []
IsJudged told text (judges.Bad fault) = (before : List Header) → Tell before told → IsBadHeader before text fault
