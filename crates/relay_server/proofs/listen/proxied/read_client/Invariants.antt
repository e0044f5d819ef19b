use Rattle.std.proofs.Common.{◌≡◌, ◌<◌, length}
use Rattle.relay_server.proofs.listen.proxied.read_client.Given as goal

-- the header needs more bytes, for which the buffer has room
abbrev pub invariant-loop : goal.invariant-loop
invariant-loop g l = (l.len < 2048) × (length l.buf ≡ 2048)
