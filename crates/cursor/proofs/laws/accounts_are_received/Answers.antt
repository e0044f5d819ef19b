use Rattle.cursor.proofs.Accounts.{account_of_attachment}
use Rattle.cursor.proofs.laws.accounts_are_received.Goals as goal

pub returns : goal.returns
returns c = account_of_attachment
