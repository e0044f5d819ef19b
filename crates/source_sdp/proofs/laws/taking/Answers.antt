use Rattle.source_sdp.proofs.Each.{each_counted, next_sorted}
use Rattle.source_sdp.proofs.Usables.{usable_in}
use Rattle.source_sdp.proofs.Which.{first_told_apart}
use Rattle.source_sdp.proofs.laws.taking.Goals as goal

pub returns-clause-tracks : goal.returns-clause-tracks
returns-clause-tracks c = first_told_apart

pub returns-clause-usable : goal.returns-clause-usable
returns-clause-usable c = usable_in

pub returns-clause-each : goal.returns-clause-each
returns-clause-each c = each_counted

pub returns-clause-next : goal.returns-clause-next
returns-clause-next c = next_sorted
