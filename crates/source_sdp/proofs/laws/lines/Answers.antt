use Rattle.source_sdp.proofs.LineLaws.{bare_kept, broken_line, line_alone, lines_joined, media_kept, padded_same}
use Rattle.source_sdp.proofs.laws.lines.Goals as goal

pub returns-clause-joined : goal.returns-clause-joined
returns-clause-joined c = lines_joined

pub returns-clause-alone : goal.returns-clause-alone
returns-clause-alone c = line_alone

pub returns-clause-padded : goal.returns-clause-padded
returns-clause-padded c = padded_same

pub returns-clause-kept : goal.returns-clause-kept
returns-clause-kept c = bare_kept

pub returns-clause-media : goal.returns-clause-media
returns-clause-media c = media_kept

pub returns-clause-broken : goal.returns-clause-broken
returns-clause-broken c = broken_line
