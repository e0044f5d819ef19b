use Rattle.request_text.proofs.Messages.{is_message, one_read}
use Rattle.request_text.proofs.laws.messages.Goals as goal

pub returns : goal.returns
returns c = record { message = is_message; reads = one_read }
