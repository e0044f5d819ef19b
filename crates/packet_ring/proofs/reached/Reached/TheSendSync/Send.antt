use denote.Param.Send.{IsSend}
use Rattle.packet_ring.specs.Rule.{packet_coded}
use Rattle.packet_ring.specs.contracts.reached.Reached.{the_row}
use Rattle.packet_ring.proofs.Telling.{reached_keyless}

pub send : IsSend the_row
send = record { owned = λ d vs. ((λ vss. (tt, ((λ uss. (tt, tt)), tt))), reached_keyless packet_coded d.id d.log); leaving = λ k f vs. tt }
