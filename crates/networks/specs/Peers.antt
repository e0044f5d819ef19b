-- The connections of a server, by the groups of their addresses.
use Rattle.std.specs.Prelude.{ℕ, ◌==◌, ◌≤◌, Bool, false, not, ◌&&◌, List, filter, count_by, find, map, Option, None, Some, if◌then◌else◌}
use Rattle.networks.specs.declared.address.Address.{Address}
use Rattle.networks.specs.declared.address.Address.TheVariants.{V4, V6}
use Rattle.networks.specs.declared.peer_table.Peer.{Peer}

-- two groups are the same
abbrev pub is_same : Address → Address → Bool
is_same (V4 a) (V4 b) = a == b
is_same (V6 a) (V6 b) = a == b
is_same a b = false

-- how many connections a group has
abbrev pub connections_of : (group : Address) → List Peer → ℕ
connections_of group peers = count_by (λ peer. is_same peer.group group) peers

-- a group has as many connections as it may, if that is limited
abbrev pub IsFullFor : (group : Address) → (most : Option ℕ) → List Peer → Type 0
IsFullFor group None peers = ⊥
IsFullFor group (Some most) peers = most ≤ connections_of group peers

-- how many other connections of a group have a mount
abbrev pub others_with_mount : (conn : ℕ) → (group : Address) → List Peer → ℕ
others_with_mount conn group peers = count_by (λ peer. not (peer.conn == conn) && is_same peer.group group && peer.has_mount) peers

-- the entries of the other connections, in order
abbrev pub without : (conn : ℕ) → List Peer → List Peer
without conn peers = filter (λ peer. not (peer.conn == conn)) peers

-- an entry, marked as having a mount or not if it is the connection's
abbrev pub mark : (conn : ℕ) → (has_mount : Bool) → Peer → Peer
mark conn has_mount peer = if peer.conn == conn then record peer { has_mount = has_mount } else peer

-- the entries, this connection's marked as having a mount or not
abbrev pub marked : (conn : ℕ) → (has_mount : Bool) → List Peer → List Peer
marked conn has_mount peers = map (mark conn has_mount) peers

-- the first entry of a connection
abbrev pub entry_of : (conn : ℕ) → List Peer → Option Peer
entry_of conn peers = find (λ peer. peer.conn == conn) peers
