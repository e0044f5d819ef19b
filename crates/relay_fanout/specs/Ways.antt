-- The ways from a ring to a frame thread's sink.
use Rattle.std.specs.Prelude.{ℕ, ◌≤◌, ⊤, length}
use Rattle.relay_fanout.specs.declared.sending.way.Way.{Way}
use Rattle.relay_fanout.specs.declared.sending.way.Way.TheVariants as ways

-- there is room for packets of `packet_bytes` bytes, if they are copied
abbrev pub HasRoom : Way → (packet_bytes : ℕ) → Type 0
HasRoom (ways.Copied buf) n = n ≤ length buf.items
HasRoom ways.Direct n = ⊤
