-- Where ends of connections are counted.
use Rattle.std.specs.Prelude.{◌≡◌, ℕ, List, [], ◌∷◌, Option, None, Some, codes, slice_get}
use Rattle.relay_accounts.specs.declared.ending.ConnectionEnd.{ConnectionEnd}
use Rattle.relay_accounts.specs.declared.ending.ConnectionEnd.TheVariants as ends

-- the place at which ends of this kind are counted: none if it is a good one
abbrev pub place_of_end : ConnectionEnd → Option ℕ
place_of_end ends.Done = None
place_of_end (ends.StreamFault fault) = Some 0
place_of_end ends.ReadFailed = Some 1
place_of_end ends.WriteFailed = Some 2
place_of_end ends.OutOfMemory = Some 3
place_of_end ends.NoThread = Some 4
place_of_end ends.Expired = Some 5
place_of_end ends.Idle = Some 6
place_of_end ends.Reset = Some 7
place_of_end ends.NoAcknowledgement = Some 8
place_of_end ends.Silent = Some 9
place_of_end ends.NotSetUp = Some 10
place_of_end (ends.NoHeader end) = Some 11

-- what is said of each kind of ends, at its place
abbrev pub kinds_of_ends : List (List ℕ)
kinds_of_ends = codes "stream fault" ∷ codes "read failed" ∷ codes "write failed" ∷ codes "out of memory" ∷ codes "no thread" ∷ codes "session expired" ∷ codes "silent without a session" ∷ codes "left by a reset" ∷ codes "no acknowledgement" ∷ codes "silent while recording" ∷ codes "no SETUP" ∷ codes "no PROXY header" ∷ []

-- this is said of the ends that are counted at this place
abbrev pub IsKindAt : (place : ℕ) → (kind : List ℕ) → Type 0
IsKindAt place kind = slice_get kinds_of_ends place ≡ Some kind
