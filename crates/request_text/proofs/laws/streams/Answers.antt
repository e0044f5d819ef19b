use Rattle.request_text.proofs.Messages.{all_read}
use Rattle.request_text.proofs.laws.streams.Goals as goal

pub returns : goal.returns
returns c = all_read
