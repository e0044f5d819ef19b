use Rattle.std.proofs.Common.{◌≡◌, ◌++◌, map, take, drop}
use Rattle.networks.specs.Peers.{mark}
use Rattle.networks.proofs.peer_table.PeerTable.set_mount.Given as goal

abbrev pub invariant-loop-peer : goal.invariant-loop-peer
invariant-loop-peer l = l.peer-items ≡ map (mark l.conn l.has_mount) (take l.peer-index l.initial.peer-items) ++ drop l.peer-index l.initial.peer-items
