use Rattle.std.proofs.Common.{ℕ, List, refl, ◌∙◌}
use Rattle.std.proofs.lemmas.Result.{IfErr-weaker, on_ok_weaker}
use Rattle.relay_talk.specs.Exchange.{Draws, IsAnswer, given_with}
use Rattle.relay_talk.specs.Taking.{TakesWith, talk_state}
use Rattle.relay_talk.proofs.talk.answer_message.Given.{Over}
use Rattle.relay_talk.proofs.talk.answer_message.Goals.{After-answer}
use Rattle.relay_talk.proofs.talk.answer_message.Goals as goal

-- the message, with the word and the moment that were drawn for it, is taken with this answer
taken : (g : Over) (c : After-answer g) (text : List ℕ) → IsAnswer c.hear.new.self.book.history c.args.request.now (given_with c.word-word.result c.now-now.result) c.answer.new.talker.book.history text
    → TakesWith (Draws g.V.Words.gives g.N.Moments.gives) (c.args.words.now, c.args.moments.now) (c.word-word.new.self, c.now-now.new.self) (talk_state c.args.talker.now) c.args.request.now (talk_state c.answer.new.talker) text
taken g c text answer = (
  given_with c.word-word.result c.now-now.result,
  (c.word-word.ensures, c.now-now.ensures, refl),
  record {
    met = record { between = c.hear.new.self.book.history; expired = c.hear.ensures.expired; answer = answer; heard = c.answer.ensures.heard ∙ c.hear.ensures.heard };
    between = c.hear.new.self.publishing;
    expires = c.hear.ensures.publishing;
    answers = c.answer.ensures.publishing;
  },
)

pub returns-clause-ok : goal.returns-clause-ok
returns-clause-ok g c = on_ok_weaker c.answer.result (λ p. (p.0, taken g (goal.at.returns-clause-ok g c).After-answer p.0 p.1, p.2)) c.answer.ensures.ok

pub returns-clause-cut : goal.returns-clause-cut
returns-clause-cut g c =
    IfErr-weaker c.answer.result _ _ (λ cut p. (p.0, taken g (goal.at.returns-clause-cut g c).After-answer p.0 p.1, p.2, p.3)) c.answer.ensures.cut
