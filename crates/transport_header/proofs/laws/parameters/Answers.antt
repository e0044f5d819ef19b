use Rattle.transport_header.proofs.FirstNamed.{first_found, found_first, nothing_named, none_has_name}
use Rattle.transport_header.proofs.laws.parameters.Goals as goal

pub returns : goal.returns
returns c = record { first = first_found; only = found_first; absent = nothing_named; none = none_has_name }
