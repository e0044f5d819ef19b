use Rattle.sdp.proofs.Again.{written_again}
use Rattle.sdp.proofs.OneReading.{written_same, written_taken}
use Rattle.sdp.proofs.laws.written_reads.Goals as goal

pub returns-clause-reads : goal.returns-clause-reads
returns-clause-reads c old p some = let again = written_again old p some in (again.0, again.1)

pub returns-clause-same : goal.returns-clause-same
returns-clause-same c = written_same

pub returns-clause-taken : goal.returns-clause-taken
returns-clause-taken c = written_taken
