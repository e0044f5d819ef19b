use Rattle.std.proofs.Common.{ap, arith, is_some}
use Rattle.session_state.specs.Lookups.{beginning}
use Rattle.session_state.proofs.Strangers.{open_came, strangers}
use Rattle.session_state.proofs.laws.connections_come_first.Goals as goal

pub returns-clause-stranger : goal.returns-clause-stranger
returns-clause-stranger c = λ seats conn history legal less. ap (λ part. is_some (beginning conn part)) (strangers seats history conn legal less)

pub returns-clause-open : goal.returns-clause-open
returns-clause-open c = λ seats conn history legal there. let so = open_came seats history conn legal there in omega (arith, so)
