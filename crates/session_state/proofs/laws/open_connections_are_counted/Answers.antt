use Rattle.session_state.proofs.OpenCount.{counted, few_open}
use Rattle.session_state.proofs.laws.open_connections_are_counted.Goals as goal

pub returns-clause-few : goal.returns-clause-few
returns-clause-few c = λ seats history legal. few_open seats history legal

pub returns-clause-counted : goal.returns-clause-counted
returns-clause-counted c = λ seats history legal. counted seats history legal
