use Rattle.relay_fanout.specs.Ways.{HasRoom}
use Rattle.relay_fanout.proofs.sending.send_side.SendSide.send_from.Given as goal

-- the buffer has room for the tap's packets
abbrev pub invariant-loop : goal.invariant-loop
invariant-loop g l = HasRoom l.way (g.T.Tap.packet_bytes l.tap)
