use Rattle.std.proofs.Common.{◌-◌, ◌*◌, ◌≤◌, length}
use Rattle.rtsp_message.specs.declared.peer.Peer.{Peer}
use Rattle.rtsp_message.specs.Stream.{ReadsSoFar}
use Rattle.rtsp_message.proofs.frames.parts_of.Given as goal

-- the units so far, each of four bytes or more
abbrev pub invariant-loop-from : goal.invariant-loop-from
invariant-loop-from l = ((peer : Peer) → ReadsSoFar peer l.fn.block l.units.items l.from) × (4 * length l.units.items ≤ l.from) × (l.from ≤ length l.fn.block)

abbrev pub decreases-loop-from : goal.decreases-loop-from
decreases-loop-from l = length l.fn.block - l.from
