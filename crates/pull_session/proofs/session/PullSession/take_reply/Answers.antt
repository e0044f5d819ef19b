use Rattle.std.proofs.Common.{subst}
use Rattle.pull_session.specs.Passing.{KeepsPassage}
use Rattle.pull_session.specs.Tries.{Try}
use Rattle.pull_session.proofs.TargetReplies.{keeps_same, replied_keeps}
use Rattle.pull_session.proofs.session.PullSession.take_reply.Goals as goal

pub returns-in-GoesOn-clause-passage : goal.returns-in-GoesOn-clause-passage
returns-in-GoesOn-clause-passage c = λ is.
    subst (λ (t : Try). KeepsPassage t.client.passage c.replied.new.self.passage) c.self.view_is
    (replied_keeps c.args.side c.in-Ok.facts c.args.now c.self.inside.client c.replied.new.self c.replied.result is c.replied.ensures.ended c.replied.ensures.taken)

pub returns-in-PassesOver-clause-passage : goal.returns-in-PassesOver-clause-passage
returns-in-PassesOver-clause-passage c = λ is.
    subst (λ (t : Try). KeepsPassage t.client.passage c.replied.new.self.passage) c.self.view_is
    (replied_keeps c.args.side c.in-Ok.facts c.args.now c.self.inside.client c.replied.new.self c.replied.result is c.replied.ensures.ended c.replied.ensures.taken)

pub returns-in-LeavesOut-clause-passage : goal.returns-in-LeavesOut-clause-passage
returns-in-LeavesOut-clause-passage c = λ is.
    subst (λ (t : Try). KeepsPassage t.client.passage c.replied.new.self.passage) c.self.view_is
    (replied_keeps c.args.side c.in-Ok.facts c.args.now c.self.inside.client c.replied.new.self c.replied.result is c.replied.ensures.ended c.replied.ensures.taken)

pub returns-in-ReadsDescription-clause-passage : goal.returns-in-ReadsDescription-clause-passage
returns-in-ReadsDescription-clause-passage c = λ is.
    subst (λ (t : Try). KeepsPassage t.client.passage c.read_description.new.self.client.passage) c.self.view_is
    (keeps_same c.self.inside.client.passage c.replied.new.self.passage c.read_description.new.self.client.passage
    (replied_keeps c.args.side c.in-Ok.facts c.args.now c.self.inside.client c.replied.new.self c.replied.result is c.replied.ensures.ended c.replied.ensures.taken)
    c.read_description.ensures.passage)

pub returns-in-Redirects-clause-passage : goal.returns-in-Redirects-clause-passage
returns-in-Redirects-clause-passage c = λ is.
    subst (λ (t : Try). KeepsPassage t.client.passage c.follow.new.self.client.passage) c.self.view_is
    (keeps_same c.self.inside.client.passage c.replied.new.self.passage c.follow.new.self.client.passage
    (replied_keeps c.args.side c.in-Ok.facts c.args.now c.self.inside.client c.replied.new.self c.replied.result is c.replied.ensures.ended c.replied.ensures.taken)
    c.follow.ensures.passage)

pub returns-in-Challenged-clause-passage : goal.returns-in-Challenged-clause-passage
returns-in-Challenged-clause-passage c = λ is.
    subst (λ (t : Try). KeepsPassage t.client.passage c.answer.new.self.client.passage) c.self.view_is
    (keeps_same c.self.inside.client.passage c.replied.new.self.passage c.answer.new.self.client.passage
    (replied_keeps c.args.side c.in-Ok.facts c.args.now c.self.inside.client c.replied.new.self c.replied.result is c.replied.ensures.ended c.replied.ensures.taken)
    c.answer.ensures.passage)
