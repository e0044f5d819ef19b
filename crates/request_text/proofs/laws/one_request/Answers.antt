use Rattle.request_text.proofs.Messages.{same_number, same_request}
use Rattle.request_text.proofs.laws.one_request.Goals as goal

pub returns : goal.returns
returns c = record { request = same_request; number = same_number }
