use Rattle.std.specs.Option.{option_copied}
use Rattle.pull_session.proofs.Putting.{puts_one}
use Rattle.pull_session.proofs.asking.put_to.Goals as goal

pub returns-in-Ok-clause-put : goal.returns-in-Ok-clause-put
returns-in-Ok-clause-put c = λ mount for. puts_one mount c.text-text.result c.args.waiting.now c.put_request.new.self
    (record { request = c.args.request.now; for_target = for; session = option_copied c.args.session; is_text = c.text-text.ensures }) c.in-Ok.ensures.ok
