-- The stream of a connection: messages and frames, with pads between them, and what has come of the next
-- (RFC 2326, 4 to 6 and 10.12).
use Rattle.std.specs.Prelude.{◌≡◌, ◌<◌, ◌≤◌, ℕ, Bool, true, false, ◌||◌, ◌==◌, List, [], ◌∷◌, ◌++◌, Option, None, Some, length, take, drop, codes}
use Rattle.interleaved.specs.Frame.{IsFrame}
use Rattle.rtsp_message.specs.declared.request.Request.{Request}
use Rattle.rtsp_message.specs.declared.unit.Unit.{Unit as StreamUnit}
use Rattle.rtsp_message.specs.declared.unit.Unit.TheVariants.{Message, Frame}
use Rattle.rtsp_message.specs.declared.fault.Fault.{Fault}
use Rattle.rtsp_message.specs.declared.fault.Fault.TheVariants.{BadLine, BadHeader, BadLength, HeadTooLong, BodyTooLong}
use Rattle.rtsp_message.specs.declared.peer.Peer.{Peer}
use Rattle.rtsp_message.specs.declared.peer.Peer.TheVariants.{Client}
use Rattle.rtsp_message.specs.Limits.{waiting_limit}
use Rattle.rtsp_message.specs.Lengths.{body_len}
use Rattle.rtsp_message.specs.Heads.{IsHeadFrom, HasFault}

-- a CR or an LF, which may stand between units
abbrev pub is_pad : ℕ → Bool
is_pad b = b == 13 || b == 10

-- the first byte, if there is one, is no pad
abbrev pub BeginsWithNoPad : List ℕ → Type 0
BeginsWithNoPad [] = Unit {0}
BeginsWithNoPad (b ∷ bs) = is_pad b ≡ false

-- a message begins with a byte that is no pad and no dollar sign: that one begins a frame
abbrev pub BeginsMessage : List ℕ → Type 0
BeginsMessage [] = ⊥
BeginsMessage (b ∷ bs) = (is_pad b ≡ false) × (b == 0x24 ≡ false)

abbrev pub BeginsFrame : List ℕ → Type 0
BeginsFrame [] = ⊥
BeginsFrame (b ∷ bs) = b ≡ 0x24

-- A message: a head, and as many bytes of body as it announces (RFC 2326, 4.4 and 6).
pub record IsMessageFrom (peer : Peer) (bytes : List ℕ) (request : Request) : Type 0 where
  pub head : List ℕ
  pub whole : bytes ≡ head ++ request.body
  pub begins : BeginsMessage head
  pub is_head : IsHeadFrom peer head request
  pub body_size : length request.body ≡ body_len request.headers

-- what a stream is made of: a byte between units, or the bytes of a unit
pub data Piece : Type 0 where
  Pad : (byte : ℕ) → Piece
  Whole : (bytes : List ℕ) → (content : StreamUnit) → Piece

-- the bytes are those of the unit
abbrev pub IsUnitFrom : Peer → List ℕ → StreamUnit → Type 0
IsUnitFrom peer bytes (Message request) = IsMessageFrom peer bytes request
IsUnitFrom peer bytes (Frame frame) = IsFrame bytes frame.channel frame.payload

abbrev pub IsPieceFrom : Peer → Piece → Type 0
IsPieceFrom peer (Pad byte) = is_pad byte ≡ true
IsPieceFrom peer (Whole bytes content) = IsUnitFrom peer bytes content

abbrev pub ArePiecesFrom : Peer → List Piece → Type 0
ArePiecesFrom peer [] = Unit {0}
ArePiecesFrom peer (piece ∷ pieces) = IsPieceFrom peer piece × ArePiecesFrom peer pieces

-- the bytes of the pieces, one after another
abbrev pub bytes_of : List Piece → List ℕ
bytes_of [] = []
bytes_of (Pad byte ∷ pieces) = byte ∷ bytes_of pieces
bytes_of (Whole bytes content ∷ pieces) = bytes ++ bytes_of pieces

-- their units, in order
abbrev pub units_of : List Piece → List StreamUnit
units_of [] = []
units_of (Pad byte ∷ pieces) = units_of pieces
units_of (Whole bytes content ∷ pieces) = content ∷ units_of pieces

-- neither a unit nor a fault stands at the front of the bytes
pub record IsUndecided (peer : Peer) (bytes : List ℕ) : Type 0 where
  pub no_unit : (front more : List ℕ) (content : StreamUnit) → bytes ≡ front ++ more → IsUnitFrom peer front content → ⊥
  pub no_fault : (fault : Fault) → BeginsMessage bytes → HasFault peer bytes fault → ⊥

-- where a reading of the stream so far stands: these bytes wait for more, or a fault has come
pub data Ending : Type 0 where
  Waits : (rest : List ℕ) → Ending
  Fails : (fault : Fault) → Ending

-- the bytes after the last unit end the reading so
abbrev pub EndsAsFrom : Peer → List ℕ → Ending → Type 0
EndsAsFrom peer bytes (Waits rest) = (bytes ≡ rest) × BeginsWithNoPad bytes × IsUndecided peer bytes
EndsAsFrom peer bytes (Fails fault) = BeginsMessage bytes × HasFault peer bytes fault

-- The stream reads as these units, and then ends so.
pub record ReadsFrom (peer : Peer) (stream : List ℕ) (units : List StreamUnit) (ending : Ending) : Type 0 where
  pub pieces : List Piece
  pub rest : List ℕ
  pub whole : stream ≡ bytes_of pieces ++ rest
  pub are_pieces : ArePiecesFrom peer pieces
  pub units_are : units ≡ units_of pieces
  pub ends : EndsAsFrom peer rest ending

-- What reading more bytes gives: the bytes that waited read on; after a fault there are no units, and the fault stays.
abbrev pub ReadsOnFrom : Peer → Ending → List ℕ → List StreamUnit → Ending → Type 0
ReadsOnFrom peer (Waits rest) more units ending = ReadsFrom peer (rest ++ more) units ending
ReadsOnFrom peer (Fails fault) more units ending = (units ≡ []) × (ending ≡ Fails fault)

abbrev pub fault_of : Ending → Option Fault
fault_of (Waits rest) = None
fault_of (Fails fault) = Some fault

-- how many bytes wait for more
abbrev pub waiting_len : Ending → ℕ
waiting_len (Waits rest) = length rest
waiting_len (Fails fault) = 0

-- the faults by the numbers that the program reports
abbrev pub fault_number : Fault → ℕ
fault_number BadLine = 1
fault_number BadHeader = 2
fault_number BadLength = 3
fault_number HeadTooLong = 4
fault_number BodyTooLong = 5

-- what is said of a fault
abbrev pub fault_text : Fault → List ℕ
fault_text BadLine = codes "bad request line"
fault_text BadHeader = codes "bad header line"
fault_text BadLength = codes "bad Content-Length"
fault_text HeadTooLong = codes "head too long"
fault_text BodyTooLong = codes "body too long"

-- The units at the front of the bytes take this many, with the pads between them.
pub record ReadsSoFar (peer : Peer) (bytes : List ℕ) (units : List StreamUnit) (len : ℕ) : Type 0 where
  pub pieces : List Piece
  pub front : take len bytes ≡ bytes_of pieces
  pub are_pieces : ArePiecesFrom peer pieces
  pub units_are : units ≡ units_of pieces
  pub within : len ≤ length bytes

-- the bytes after them wait, and are fewer than a head and a body may have, or have this fault
abbrev pub IsScanEnd : Peer → List ℕ → Option Fault → Type 0
IsScanEnd peer rest None = EndsAsFrom peer rest (Waits rest) × (length rest < waiting_limit)
IsScanEnd peer rest (Some fault) = EndsAsFrom peer rest (Fails fault)

abbrev pub IsScan : Peer → List ℕ → List StreamUnit → ℕ → Option Fault → Type 0
IsScan peer bytes units len fault = ReadsSoFar peer bytes units len × IsScanEnd peer (drop len bytes) fault

-- pieces that come one after another, from where a reading stands
abbrev pub ReadsPiecesFrom : Peer → Ending → List (List ℕ) → List StreamUnit → Ending → Type 0
ReadsPiecesFrom peer start [] units ending = (units ≡ []) × (ending ≡ start)
ReadsPiecesFrom peer start (piece ∷ pieces) units ending =
    (first : List StreamUnit) × (mid : Ending) × (others : List StreamUnit)
    × ReadsOnFrom peer start piece first mid × ReadsPiecesFrom peer mid pieces others ending × (units ≡ first ++ others)

-- The stream of a client: its messages are requests.
abbrev pub IsMessage : List ℕ → Request → Type 0
IsMessage bytes request = IsMessageFrom Client bytes request

abbrev pub IsUnit : List ℕ → StreamUnit → Type 0
IsUnit bytes content = IsUnitFrom Client bytes content

abbrev pub ArePieces : List Piece → Type 0
ArePieces pieces = ArePiecesFrom Client pieces

abbrev pub EndsAs : List ℕ → Ending → Type 0
EndsAs bytes ending = EndsAsFrom Client bytes ending

abbrev pub Reads : List ℕ → List StreamUnit → Ending → Type 0
Reads stream units ending = ReadsFrom Client stream units ending

abbrev pub ReadsOn : Ending → List ℕ → List StreamUnit → Ending → Type 0
ReadsOn start more units ending = ReadsOnFrom Client start more units ending

abbrev pub ReadsPieces : Ending → List (List ℕ) → List StreamUnit → Ending → Type 0
ReadsPieces start pieces units ending = ReadsPiecesFrom Client start pieces units ending
