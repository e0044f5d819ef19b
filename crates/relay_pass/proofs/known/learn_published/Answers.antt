use Rattle.relay_pass.proofs.Learning.{told-whole}
use Rattle.relay_pass.proofs.known.learn_published.Goals as goal

pub returns-clause-whole : goal.returns-clause-whole
returns-clause-whole c =
    let began = c.knows_published.ensures in
    let given = c.known_log-known.ensures in
    let learned = c.learn_known.ensures in
    rw given.same
    (told-whole c.knows_published.new.publisher.log c.knows_published.new.seat c.learn_known.new.self (rw (began.same_seat, began.same) began.published) (rw given.known at learned.told)
    (rw given.known at learned.one))
