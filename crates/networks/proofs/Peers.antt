-- An entry of a table, marked or left.
use Rattle.std.proofs.Common.{◌≡◌, ℕ, Bool}
use Rattle.std.proofs.lemmas.Bool.{eq-eqb, ne_eqb}
use Rattle.networks.specs.declared.peer_table.Peer.{Peer}
use Rattle.networks.specs.Peers.{mark}

-- the connection's entry is marked
pub mark-own : (conn : ℕ) (has_mount : Bool) (peer : Peer) → peer.conn ≡ conn → record peer { has_mount = has_mount } ≡ mark conn has_mount peer
mark-own conn has_mount peer own = rw (eq-eqb peer.conn conn own)

-- another connection's entry is left
pub mark-other : (conn : ℕ) (has_mount : Bool) (peer : Peer) → (peer.conn ≡ conn → ⊥) → peer ≡ mark conn has_mount peer
mark-other conn has_mount peer other = rw (ne_eqb peer.conn conn other)
