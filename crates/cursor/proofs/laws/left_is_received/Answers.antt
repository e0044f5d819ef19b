use Rattle.cursor.proofs.Accounts.{left_of_attachment}
use Rattle.cursor.proofs.laws.left_is_received.Goals as goal

pub returns : goal.returns
returns c = left_of_attachment
