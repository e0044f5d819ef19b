use Rattle.std.proofs.Common.{◌≡◌, ◌-◌, ◌≤◌, length}
use Rattle.packet_ring.proofs.Putting.{Put}
use Rattle.packet_ring.proofs.packets.put.Given as goal

abbrev pub invariant-loop-copied : goal.invariant-loop-copied
invariant-loop-copied l = (l.token.id ≡ l.fn.token.id) × (l.token.number ≡ l.fn.token.number) × (l.copied ≤ length l.bytes) × Put l.fn.token.me l.unit l.tag l.bytes l.copied l.token.me

abbrev pub decreases-loop-copied : goal.decreases-loop-copied
decreases-loop-copied l = length l.bytes - l.copied
