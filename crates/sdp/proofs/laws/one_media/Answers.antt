use Rattle.sdp.proofs.MediaForms.{media_tells, media_is_found}
use Rattle.sdp.proofs.laws.one_media.Goals as goal

pub returns-clause-names : goal.returns-clause-names
returns-clause-names c = media_tells

pub returns-clause-named : goal.returns-clause-named
returns-clause-named c = media_is_found
