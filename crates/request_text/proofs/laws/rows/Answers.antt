use Rattle.std.proofs.Common.{refl}
use Rattle.std.specs.Fmt.{digits}
use Rattle.request_text.specs.Fields.{field_text, general_fields}
use Rattle.request_text.proofs.laws.rows.Goals as goal

pub returns-clause-options : goal.returns-clause-options
unfolding digits field_text general_fields
returns-clause-options c = λ request asked uri number session authorization. rw (asked, uri, number, session, authorization) refl

pub returns-clause-setup : goal.returns-clause-setup
unfolding digits field_text general_fields
returns-clause-setup c = λ request transport session asked value uri number given is authorization. rw (asked, value, uri, number, given, is, authorization) refl
