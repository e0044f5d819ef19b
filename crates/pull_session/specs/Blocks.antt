-- Frames that go on in the block that they were read into.
use Rattle.std.specs.Prelude.{◌≡◌, ◌≤◌, ℕ, List, [], ◌∷◌, drop, length, slice_index, take}
use Rattle.interleaved.specs.declared.frame.Frame.{Frame as Block}
use Rattle.interleaved.specs.Frame.{IsFrame}
use Rattle.pull_session.specs.Tries.{Try}

-- the bytes are these frames, one after another
abbrev pub AreFrames : List ℕ → List Block → Type 0
AreFrames bytes [] = bytes ≡ []
AreFrames bytes (frame ∷ frames) =
    (size : ℕ) × (size ≤ length bytes) × IsFrame (take size bytes) frame.channel frame.payload × AreFrames (drop size bytes) frames

-- the frame that these bytes are
abbrev pub frame_in : List ℕ → Block
frame_in bytes = record { channel = slice_index bytes 1; payload = drop 4 bytes }

-- the same try, but what waits for the target has another block: for this number of bytes there is memory, and these are in it
abbrev pub with_block : (room : ℕ) (free : List ℕ) → Try → Try
with_block room free session = record session { target = record session.target { waiting = record session.target.waiting { room = room; free = free } } }
