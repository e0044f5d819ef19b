use Rattle.source_sdp.proofs.KeptTracks.{all_kept, count_kept, place_kept, usable_kept}
use Rattle.source_sdp.proofs.laws.keeping.Goals as goal

pub returns-clause-count : goal.returns-clause-count
returns-clause-count c = count_kept

pub returns-clause-place : goal.returns-clause-place
returns-clause-place c = place_kept

pub returns-clause-all : goal.returns-clause-all
returns-clause-all c = all_kept

pub returns-clause-usable : goal.returns-clause-usable
returns-clause-usable c = usable_kept
