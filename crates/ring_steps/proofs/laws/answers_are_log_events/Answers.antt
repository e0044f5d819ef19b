use Rattle.std.proofs.Common.{refl}
use Rattle.ring_steps.proofs.Acting.{publisher_tells, seat_tells}
use Rattle.ring_steps.proofs.laws.answers_are_log_events.Goals as goal

pub returns-clause-seat : goal.returns-clause-seat
returns-clause-seat c = λ s i call o is. let step = is.step in seat_tells step.view.phase call s i step.view o refl step.acts is.sound step.there

pub returns-clause-publisher : goal.returns-clause-publisher
returns-clause-publisher c = λ s call o is. publisher_tells s.publisher.phase call s o refl is.step is.sound
