use Rattle.relay_talk.specs.Exchange.{Draws}
use Rattle.relay_talk.specs.Taking.{talk_state}
use Rattle.relay_talk.proofs.Talks.{refused_at_once, refused_in_part, stands_at_first, talks_of}
use Rattle.relay_talk.proofs.talk.run_talk.Goals as goal

pub returns-in-Err : goal.returns-in-Err
returns-in-Err g c =
    let cut = c.in-Err.ensures.cut in
    refused_in_part g.R.Source.incoming g.R.Source.failed g.W.Sink.written g.W.Sink.failed (Draws g.V.Words.gives g.N.Moments.gives) c.args.reader c.args.writer.now c.write_plain.new.writer (c.args.words.now, c.args.moments.now)
    c.in-Err.field-0.written cut.0 cut.1 c.in-Err.ensures.failed

pub returns-in_default : goal.returns-in_default
returns-in_default g c =
    refused_at_once g.R.Source.incoming g.R.Source.failed g.W.Sink.written g.W.Sink.failed (Draws g.V.Words.gives g.N.Moments.gives) c.args.reader c.args.writer.now c.write_plain.new.writer (c.args.words.now, c.args.moments.now)
    c.in_default-write_plain.ensures.ok

pub returns : goal.returns
returns g c =
    let begins = stands_at_first c.in-Ok.talker c.in-Ok.ensures.opens c.in-Ok.ensures.unheard in
    rw c.into_source.ensures
    (talks_of g.R.Source.incoming g.R.Source.failed g.W.Sink.written g.W.Sink.failed (Draws g.V.Words.gives g.N.Moments.gives) c.args.reader c.new-intake.result c.answer_all-end.new.intake (c.args.words.now, c.args.moments.now) (c.answer_all-end.new.words, c.answer_all-end.new.moments)
    (talk_state c.in-Ok.talker) (talk_state c.answer_all-end.new.self) c.args.writer.now c.answer_all-end.new.writer c.answer_all-end.result c.new-intake.ensures begins c.answer_all-end.ensures.talks)
