use Rattle.cursor.proofs.Players.{players_receive}
use Rattle.cursor.proofs.laws.players_receive_the_log.Goals as goal

pub returns : goal.returns
returns c = players_receive
