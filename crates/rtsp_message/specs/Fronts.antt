-- What the functions that read the front of a stream answer.
use Rattle.std.specs.Prelude.{ℕ, ◌≤◌, List, length, take}
use Rattle.rtsp_message.specs.declared.head.HeaderBlock.{HeaderBlock}
use Rattle.rtsp_message.specs.declared.head.HeaderBlock.TheVariants as blocks
use Rattle.rtsp_message.specs.declared.head.HeadFront.{HeadFront}
use Rattle.rtsp_message.specs.declared.head.HeadFront.TheVariants as heads
use Rattle.rtsp_message.specs.declared.peer.Peer.{Peer}
use Rattle.rtsp_message.specs.Heads.{EndsHeaders, BreaksHeaders, LeavesHeaders, IsHeadFrom, HasFault, IsUnfinished}

-- what the text after a start line is
abbrev pub IsBlock : List ℕ → HeaderBlock → Type 0
IsBlock text (blocks.Ended headers len) = (len ≤ length text) × EndsHeaders (take len text) headers
IsBlock text (blocks.Bad fault) = BreaksHeaders text fault
IsBlock text blocks.Unfinished = LeavesHeaders text

-- what stands at the front of the bytes, where a message begins
abbrev pub IsHeadFront : Peer → List ℕ → HeadFront → Type 0
IsHeadFront peer bytes (heads.Whole request len) = (len ≤ length bytes) × IsHeadFrom peer (take len bytes) request
IsHeadFront peer bytes (heads.Bad fault) = HasFault peer bytes fault
IsHeadFront peer bytes heads.Unfinished = IsUnfinished peer bytes
