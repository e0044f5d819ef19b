use Rattle.ring_script.proofs.Grammar.{line_tells, line_is_read}
use Rattle.ring_script.proofs.laws.one_form.Goals as goal

pub returns-clause-says : goal.returns-clause-says
returns-clause-says c = line_tells

pub returns-clause-said : goal.returns-clause-said
returns-clause-said c = line_is_read
