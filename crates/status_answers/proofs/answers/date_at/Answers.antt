use Rattle.std.proofs.Common.{rules}
use Rattle.status_answers.proofs.answers.date_at.Goals as goal

pub returns-in-Ok-from_bytes-clause-within : goal.returns-in-Ok-from_bytes-clause-within
returns-in-Ok-from_bytes-clause-within c = (c.in-Ok.date, search rules, search rules)
