use Rattle.relay_pass.proofs.Carrying.{few-lost, none-refused}
use Rattle.relay_pass.proofs.laws.few_packets_are_kept.Goals as goal

pub returns-clause-lost : goal.returns-clause-lost
returns-clause-lost g c from to old new publisher publisher' seat seat' before after report h = few-lost g.S.Source.incoming g.S.Source.failed from to old new publisher publisher' seat seat' before after report h

pub returns-clause-refused : goal.returns-clause-refused
returns-clause-refused g c from to old new publisher publisher' seat seat' before after report h = none-refused g.S.Source.incoming g.S.Source.failed from to old new publisher publisher' seat seat' before after report h
