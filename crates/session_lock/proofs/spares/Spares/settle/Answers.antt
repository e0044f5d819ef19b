use Rattle.std.proofs.Common.{ap, ◌∙◌}
use Rattle.std.specs.List.{count_by}
use Rattle.std.specs.Prelude.{is_none}
use Rattle.session_lock.proofs.Holding.{none_out}
use Rattle.session_lock.proofs.spares.Spares.settle.Goals as goal

pub begin-requires-clause-free : goal.begin-requires-clause-free
begin-requires-clause-free g c = ap (count_by is_none) c.of-passes.ensures ∙ none_out c.in-Some.passes.items
