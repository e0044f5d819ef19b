use Rattle.std.proofs.Common.{◌+◌, ◌-◌, ◌*◌, drop, length}
use Rattle.rtsp_message.specs.Stores.{LooksOnly}
use Rattle.rtsp_message.specs.Knowns.{IsKnown, looks_for}
use Rattle.rtsp_message.specs.Stream.{ReadsSoFar}
use Rattle.rtsp_message.proofs.peer_reader.read_units.Given as goal

-- the units so far, what is known of the bytes after them, and the looks at both
abbrev pub invariant-loop-len : goal.invariant-loop-len
invariant-loop-len l =
    ReadsSoFar l.fn.peer l.fn.store.bytes l.units.items l.len × IsKnown l.fn.peer (drop l.len l.fn.store.bytes) l.known
    × LooksOnly l.fn.store l.store (looks_for l.fn.known) (6 * l.len + looks_for l.known)

abbrev pub decreases-loop-len : goal.decreases-loop-len
decreases-loop-len l = length l.fn.store.bytes - l.len
