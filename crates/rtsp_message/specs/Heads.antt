-- The head of a message, and what may stand in its place (RFC 2326, 4 and 6).
use Rattle.std.specs.Prelude.{◌≡◌, ℕ, ◌<◌, ◌≤◌, List, [], ◌∷◌, ◌++◌, ◌⊎◌, None, Some, length, take}
use Rattle.std.specs.List.{flat_map}
use Rattle.base_syntax.specs.Lines.{HasNoLf, ended, said}
use Rattle.rtsp_message.specs.declared.headers.Header.{Header}
use Rattle.rtsp_message.specs.declared.request.Request.{Request}
use Rattle.rtsp_message.specs.declared.fault.Fault.{Fault}
use Rattle.rtsp_message.specs.declared.fault.Fault.TheVariants.{BadLine, BadHeader, BadLength, HeadTooLong, BodyTooLong}
use Rattle.rtsp_message.specs.declared.peer.Peer.{Peer}
use Rattle.rtsp_message.specs.declared.peer.Peer.TheVariants.{Client}
use Rattle.rtsp_message.specs.Limits.{head_limit}
use Rattle.rtsp_message.specs.Lines.{IsStartLine, IsHeaderLine}
use Rattle.rtsp_message.specs.Headers.{cseq_of}
use Rattle.rtsp_message.specs.Lengths.{field_fault}

-- lines one after another, each with its LF
abbrev pub joined : List (List ℕ) → List ℕ
joined lines = flat_map ended lines

-- A header line that a head may have after these header fields.
pub record IsGoodHeader (before : List Header) (line : List ℕ) (header : Header) : Type 0 where
  pub unbroken : HasNoLf line
  pub field : IsHeaderLine (said line) header
  pub allowed : field_fault before header ≡ None

-- after the fields before, the lines are these header fields, in order
abbrev pub AreHeaders : (before : List Header) → List (List ℕ) → List Header → Type 0
AreHeaders before [] [] = Unit {0}
AreHeaders before [] (header ∷ headers) = ⊥
AreHeaders before (line ∷ lines) [] = ⊥
AreHeaders before (line ∷ lines) (header ∷ headers) = IsGoodHeader before line header × AreHeaders (before ++ header ∷ []) lines headers

-- a header line with this fault in its field
abbrev pub HasBadField : (before : List Header) → List ℕ → Fault → Type 0
HasBadField before text fault = (header : Header) × IsHeaderLine text header × (field_fault before header ≡ Some fault)

-- what is wrong with a line that stands where a header line is due, after these header fields
abbrev pub IsBadHeader : (before : List Header) → List ℕ → Fault → Type 0
IsBadHeader before text BadHeader = (0 < length text) × ((header : Header) → IsHeaderLine text header → ⊥)
IsBadHeader before text BadLength = HasBadField before text BadLength
IsBadHeader before text BodyTooLong = HasBadField before text BodyTooLong
IsBadHeader before text BadLine = ⊥
IsBadHeader before text HeadTooLong = ⊥

-- What follows a start line: these header fields, and an empty line.
pub record EndsHeaders (text : List ℕ) (headers : List Header) : Type 0 where
  pub lines : List (List ℕ)
  pub last : List ℕ
  pub whole : text ≡ joined lines ++ ended last
  pub are_headers : AreHeaders [] lines headers
  pub last_unbroken : HasNoLf last
  pub last_empty : said last ≡ []

-- What follows a start line: header fields, and then a bad line.
pub record BreaksHeaders (text : List ℕ) (fault : Fault) : Type 0 where
  pub lines : List (List ℕ)
  pub headers : List Header
  pub line : List ℕ
  pub more : List ℕ
  pub whole : text ≡ joined lines ++ (ended line ++ more)
  pub are_headers : AreHeaders [] lines headers
  pub unbroken : HasNoLf line
  pub bad : IsBadHeader headers (said line) fault

-- What follows a start line: header fields, and a line that hasn't come whole.
pub record LeavesHeaders (text : List ℕ) : Type 0 where
  pub lines : List (List ℕ)
  pub headers : List Header
  pub tail : List ℕ
  pub whole : text ≡ joined lines ++ tail
  pub are_headers : AreHeaders [] lines headers
  pub unfinished : HasNoLf tail

-- The head of a message: a start line, header lines, and an empty line (RFC 2326, 6 and 7). It says nothing of the body.
pub record IsHeadFrom (peer : Peer) (bytes : List ℕ) (request : Request) : Type 0 where
  pub first : List ℕ
  pub rest : List ℕ
  pub whole : bytes ≡ ended first ++ rest
  pub first_unbroken : HasNoLf first
  pub request_line : IsStartLine peer (said first) request.method request.uri request.version
  pub fields : EndsHeaders rest request.headers
  pub cseq : request.cseq ≡ cseq_of request.headers
  pub short : length bytes ≤ head_limit

-- the head of a client's message: its start line is a request line
abbrev pub IsHead : List ℕ → Request → Type 0
IsHead bytes request = IsHeadFrom Client bytes request

-- The first line has come whole, and is no start line.
pub record HasBadStartLine (peer : Peer) (bytes : List ℕ) : Type 0 where
  pub line : List ℕ
  pub more : List ℕ
  pub whole : bytes ≡ ended line ++ more
  pub unbroken : HasNoLf line
  pub bad : (method uri version : List ℕ) → IsStartLine peer (said line) method uri version → ⊥

-- A start line, after which the text is so.
pub record HasStartLine (peer : Peer) (bytes : List ℕ) (then : List ℕ → Type 0) : Type 0 where
  pub first : List ℕ
  pub rest : List ℕ
  pub method : List ℕ
  pub uri : List ℕ
  pub version : List ℕ
  pub whole : bytes ≡ ended first ++ rest
  pub first_unbroken : HasNoLf first
  pub request_line : IsStartLine peer (said first) method uri version
  pub after : then rest

-- the bytes hold neither a bad line nor the end of a head
abbrev pub GoesOn : Peer → List ℕ → Type 0
GoesOn peer bytes = HasNoLf bytes ⊎ HasStartLine peer bytes LeavesHeaders

-- The first bad line of the first 8,192 bytes decides. Where these hold neither a bad line nor the end of the head, it is too long.
abbrev pub HasFault : Peer → List ℕ → Fault → Type 0
HasFault peer bytes BadLine = HasBadStartLine peer (take head_limit bytes)
HasFault peer bytes BadHeader = HasStartLine peer (take head_limit bytes) (λ rest. BreaksHeaders rest BadHeader)
HasFault peer bytes BadLength = HasStartLine peer (take head_limit bytes) (λ rest. BreaksHeaders rest BadLength)
HasFault peer bytes BodyTooLong = HasStartLine peer (take head_limit bytes) (λ rest. BreaksHeaders rest BodyTooLong)
HasFault peer bytes HeadTooLong = GoesOn peer (take head_limit bytes) × (head_limit ≤ length bytes)

-- a head that may still go on
abbrev pub IsUnfinished : Peer → List ℕ → Type 0
IsUnfinished peer bytes = GoesOn peer bytes × (length bytes < head_limit)
