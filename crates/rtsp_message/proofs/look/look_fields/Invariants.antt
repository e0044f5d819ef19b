use Rattle.std.proofs.Common.{◌+◌, ◌-◌, drop, length}
use Rattle.rtsp_message.specs.Stores.{LooksOnly}
use Rattle.rtsp_message.specs.Knowns.{IsFieldsStart}
use Rattle.rtsp_message.proofs.look.look_fields.Given as goal

-- the lines so far are good
abbrev pub invariant-loop-end : goal.invariant-loop-end
invariant-loop-end l =
    IsFieldsStart l.fn.peer (drop l.from l.fn.store.bytes) l.line l.searched l.told
    × LooksOnly l.fn.store l.store (1 + l.fn.searched + l.fn.line) (1 + l.searched + l.line)

abbrev pub decreases-loop-end : goal.decreases-loop-end
decreases-loop-end l = length l.store.bytes - l.searched
