-- What a reader's state holds beside where its reading stands, and what one reading of a store gives.
use Rattle.std.specs.Prelude.{◌≡◌, ◌+◌, ◌*◌, ◌<◌, ◌≤◌, ◌^◌, ℕ, List, [], ◌++◌, Option, None, Some, length}
use Rattle.rtsp_message.specs.declared.fault.Fault.{Fault}
use Rattle.rtsp_message.specs.declared.unit.Unit.{Unit as StreamUnit}
use Rattle.rtsp_message.specs.declared.known.Known.{Known}
use Rattle.rtsp_message.specs.declared.peer.Peer.{Peer}
use Rattle.rtsp_message.specs.declared.peer.Peer.TheVariants.{Client}
use Rattle.rtsp_message.specs.Limits.{waiting_limit}
use Rattle.rtsp_message.specs.Stream.{Ending, Waits, Fails, EndsAsFrom, ReadsFrom}
use Rattle.rtsp_message.specs.Stores.{StoreState}
use Rattle.rtsp_message.specs.Knowns.{IsKnown, looks_for}

-- A reader: where its reading stands, how many looks at bytes it made, how many bytes were fed to it, and for how many it
-- holds memory.
pub record ReaderState : Type 0 where
  pub reading : Ending
  pub looked : ℕ
  pub fed : ℕ
  pub room : ℕ

-- a reader to which nothing was fed
abbrev pub nothing_fed : ReaderState
nothing_fed = record { reading = Waits []; looked = 0; fed = 0; room = 0 }

-- a reader, and who sends the stream that it reads
pub record PeerReaderState : Type 0 where
  pub peer : Peer
  pub state : ReaderState

-- it reads a client's
abbrev pub IsClients : PeerReaderState → Type 0
IsClients reader = reader.peer ≡ Client

-- the bytes that wait, or the fault
abbrev pub ending_from : List ℕ → Option Fault → Ending
ending_from rest None = Waits rest
ending_from rest (Some fault) = Fails fault

-- what waits is the beginning of a unit, and shorter than a head and a body may be
abbrev pub KeepsBeginning : Peer → List ℕ → Option Fault → Type 0
KeepsBeginning peer rest None = EndsAsFrom peer rest (Waits rest) × (length rest < waiting_limit)
KeepsBeginning peer rest (Some fault) = length rest ≤ 0

-- what is kept of the bytes after the units: after a fault none
abbrev pub left : Option Fault → List ℕ → List ℕ
left None rest = rest
left (Some fault) rest = []

-- with fewer bytes more than this, no unit and no fault comes: all waits on
abbrev pub NeedsMoreFrom : Peer → Ending → ℕ → Type 0
NeedsMoreFrom peer (Waits rest) count = (more : List ℕ) → length more < count → EndsAsFrom peer (rest ++ more) (Waits (rest ++ more))
NeedsMoreFrom peer (Fails fault) count = ⊥

abbrev pub NeedsMore : Ending → ℕ → Type 0
NeedsMore ending count = NeedsMoreFrom Client ending count

-- how many of so many bytes were read: those of the units, and with a fault all
abbrev pub read_len : (size len : ℕ) → Option Fault → ℕ
read_len size len None = len
read_len size len (Some fault) = size

-- The stream read as these units, and of it the store keeps what waits, with what is known of that. Each byte that went
-- was looked at six times at most.
pub record IsRead (peer : Peer) (stream : List ℕ) (looked : ℕ) (new : StoreState) (before : Known) (units : List StreamUnit) (fault : Option Fault) (known : Known) : Type 0 where
  pub reads : ReadsFrom peer stream units (ending_from new.bytes fault)
  pub keeps : KeepsBeginning peer new.bytes fault
  pub knows : IsKnown peer new.bytes known
  pub room : new.room ≤ 2 * length new.bytes
  pub at_most : new.looked + looks_for before + 6 * length new.bytes ≤ looked + 6 * length stream + looks_for known
  pub grows : looked < 2 ^ 64 → looked ≤ new.looked
  pub fits : looked < 2 ^ 64 → new.looked < 2 ^ 64
