use Rattle.session_state.proofs.WellAsked.{fails_one, first_of_all, passes_first}
use Rattle.session_state.proofs.laws.well_asked_requests_pass_the_first_checks.Goals as goal

pub returns-clause-passes : goal.returns-clause-passes
returns-clause-passes c = λ asked method well. passes_first asked method well

pub returns-clause-fails : goal.returns-clause-fails
returns-clause-fails c = λ asked ill. fails_one asked ill

pub returns-clause-first : goal.returns-clause-first
returns-clause-first c = λ method. first_of_all method
