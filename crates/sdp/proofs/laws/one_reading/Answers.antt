use Rattle.sdp.proofs.OneReading.{one_reading, one_refusal, no_refusal}
use Rattle.sdp.proofs.OneFault.{one_fault}
use Rattle.sdp.proofs.laws.one_reading.Goals as goal

pub returns-clause-sections : goal.returns-clause-sections
returns-clause-sections c text a b p q = one_reading p q

pub returns-clause-fault : goal.returns-clause-fault
returns-clause-fault c = one_refusal

pub returns-clause-line : goal.returns-clause-line
returns-clause-line c = one_fault

pub returns-clause-apart : goal.returns-clause-apart
returns-clause-apart c = no_refusal
