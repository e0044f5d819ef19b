use Rattle.std.proofs.Common.{◌≡◌}
use Rattle.rtsp_message.specs.Intakes.{weight}
use Rattle.relay_talk.specs.Exchange.{Draws}
use Rattle.relay_talk.specs.Taking.{talk_state}
use Rattle.relay_talk.proofs.Exchanges.{IsOpening}
use Rattle.relay_talk.proofs.Talks.{SoFar}
use Rattle.relay_talk.proofs.talker.Talker.answer_all.Given as goal

abbrev pub invariant-loop-request : goal.invariant-loop-request
invariant-loop-request g l = record {
  seats : l.self.book.seats ≡ 1;
  opens : IsOpening l.fn.self.book.history l.self.book.history;
  so_far : SoFar g.R.Source.incoming g.W.Sink.written (Draws g.V.Words.gives g.N.Moments.gives) l.fn.intake l.fn.writer (l.fn.words, l.fn.moments) (talk_state l.fn.self) l.intake l.writer (l.words, l.moments) (talk_state l.self);
}

abbrev pub decreases-loop-request : goal.decreases-loop-request
decreases-loop-request g l = weight g.R.Source.bound l.intake
