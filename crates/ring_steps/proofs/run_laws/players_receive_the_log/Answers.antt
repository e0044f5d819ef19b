use Rattle.ring_steps.proofs.History.{history_players}
use Rattle.ring_steps.proofs.run_laws.players_receive_the_log.Goals as goal

pub returns : goal.returns
returns c = history_players
