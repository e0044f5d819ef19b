use Rattle.sdp.proofs.OneReading.{one_reading, no_refusal}
use Rattle.source_sdp.specs.Announced.{announced_sections, announced_text}
use Rattle.source_sdp.proofs.Again.{announced_reads}
use Rattle.source_sdp.proofs.laws.announced_reads.Goals as goal

pub returns-clause-reads : goal.returns-clause-reads
returns-clause-reads c = announced_reads

pub returns-clause-only : goal.returns-clause-only
returns-clause-only c tracks sections p some q = one_reading q (announced_reads tracks p some)

pub returns-clause-taken : goal.returns-clause-taken
returns-clause-taken c tracks fault p some h q = no_refusal (announced_text tracks) (announced_sections tracks) fault h (announced_reads tracks p some) q
