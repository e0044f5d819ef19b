use Rattle.source_sdp.proofs.SectionCuts.{no_media_before, section_parts, sections_whole}
use Rattle.source_sdp.proofs.laws.cutting.Goals as goal

pub returns-clause-whole : goal.returns-clause-whole
returns-clause-whole c = sections_whole

pub returns-clause-front : goal.returns-clause-front
returns-clause-front c = no_media_before

pub returns-clause-sections : goal.returns-clause-sections
returns-clause-sections c = section_parts
