-- Blocks of binary data between the messages of a connection (RFC 2326, 10.12).
use Rattle.std.specs.Prelude.{◌≡◌, ℕ, ◌+◌, ◌*◌, ◌/◌, ◌%◌, ◌<◌, ◌≤◌, List, [], ◌∷◌, ◌++◌, length, take, slice_index, codes}
use Rattle.interleaved.specs.declared.frame.PutFault.{PutFault}
use Rattle.interleaved.specs.declared.frame.PutFault.TheVariants.{TooLong, OutOfMemory}
use Rattle.interleaved.specs.declared.frame.FrameAt.{FrameAt}
use Rattle.interleaved.specs.declared.frame.FrameAt.TheVariants.{Whole, NeedMore}

-- the bytes are the frame of the data on the channel: a dollar sign, the channel, the length of the data in two bytes, the high one first, and the data
abbrev pub IsFrame : List ℕ → ℕ → List ℕ → Type 0
IsFrame bytes channel payload =
    (high : ℕ) × (low : ℕ) × (bytes ≡ 0x24 ∷ channel ∷ high ∷ low ∷ payload) × (length payload ≡ 256 * high + low)

-- some frame is the first so many of the bytes
abbrev pub FrameBegins : List ℕ → ℕ → Type 0
FrameBegins bytes len = (len ≤ length bytes) × (channel : ℕ) × (payload : List ℕ) × IsFrame (take len bytes) channel payload

-- where a frame may begin: at the end of the bytes so far, or at a dollar sign
abbrev pub MayBeginFrame : List ℕ → Type 0
MayBeginFrame bytes = 0 < length bytes → slice_index bytes 0 ≡ 0x24

-- what stands at the front of the bytes: a whole frame of this length, or the bytes so far begin with none
abbrev pub StandsAt : List ℕ → FrameAt → Type 0
StandsAt bytes (Whole len) = FrameBegins bytes len
StandsAt bytes NeedMore = (len : ℕ) → ¬ FrameBegins bytes len

-- the four bytes that stand before data of so many bytes
abbrev pub head_of : ℕ → ℕ → List ℕ
head_of channel len = 0x24 ∷ channel ∷ len / 256 ∷ len % 256 ∷ []

-- the bytes of a frame
abbrev pub frame_of : ℕ → List ℕ → List ℕ
frame_of channel payload = head_of channel (length payload) ++ payload

-- what is said of a refused frame
abbrev pub put_fault_text : PutFault → List ℕ
put_fault_text TooLong = codes "the data is too long for a frame"
put_fault_text OutOfMemory = codes "out of memory"

-- no frame begins another: frames at the front of one list of bytes are the same frame
abbrev pub NoFrameBeginsAnother : Type 0
NoFrameBeginsAnother =
    (one other after after' : List ℕ) (channel channel' : ℕ) (payload payload' : List ℕ)
    → IsFrame one channel payload → IsFrame other channel' payload' → one ++ after ≡ other ++ after'
    → (one ≡ other) × (channel ≡ channel') × (payload ≡ payload')
