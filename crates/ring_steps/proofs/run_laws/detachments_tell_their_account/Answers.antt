use Rattle.ring_steps.proofs.History.{history_accounts}
use Rattle.ring_steps.proofs.run_laws.detachments_tell_their_account.Goals as goal

pub returns : goal.returns
returns c = λ script keep seats turns end low ran. history_accounts script keep seats turns end low ran
