use Rattle.std.proofs.Common.{◌≡◌, ◌<◌, ℕ, List, None, [], ◌++◌, inl, inr, length, take, true, refl, ap, sym, ◌∙◌}
use Rattle.std.specs.Io.KnownBytes.{Appends}
use Rattle.std.proofs.KnownBytes.{Appends-trans}
use Rattle.rtsp_message.specs.declared.status.Status.{Status}
use Rattle.rtsp_message.specs.declared.status.Status.TheVariants.{ServiceUnavailable}
use Rattle.rtsp_message.specs.Reply.{plain_text}
use Rattle.rtsp_message.specs.Intakes.{handed}
use Rattle.publisher.specs.declared.report.InStop.{InStop}
use Rattle.publisher.specs.declared.report.InStop.TheVariants as stops
use Rattle.publisher.specs.FramesIn.{answer_of}
use Rattle.relay_talk.specs.Exchange.{Draws, standing_of}
use Rattle.relay_talk.specs.Talk.{closing_of}
use Rattle.relay_talk.specs.Taking.{MayClose, TakesIn, TakesStretch, TalksOn, talk_state}
use Rattle.relay_talk.specs.declared.talk.TalkEnd.TheVariants as ends
use Rattle.relay_talk.proofs.Exchanges.{met_opens, opens_itself}
use Rattle.relay_talk.proofs.Talks.{cut_answer, cut_off, frames_in, message_in, message_taken, nothing_so_far}
use Rattle.relay_talk.proofs.talker.Talker.answer_all.Given.{Over}
use Rattle.relay_talk.proofs.talker.Talker.answer_all.Goals.{After-next_message}
use Rattle.relay_talk.proofs.talker.Talker.answer_all.Goals as goal

module _ (g : Over) (c : After-next_message g) where
  -- the frames that came in before this answer, which is no message
  abbrev CameIn : InStop → Type 0
  CameIn stop =
      TakesStretch g.R.Source.incoming g.R.Source.failed c.loop-request.self.book.history c.loop-request.intake c.next_message.new.intake c.loop-request.self.heard c.next_message.new.self.heard
      c.loop-request.self.publishing c.next_message.new.self.publishing stop

  -- all that came in was taken
  all_in : (stop : InStop) → handed (answer_of stop) ≡ [] → CameIn stop
      → TakesIn g.R.Source.incoming (Draws g.V.Words.gives g.N.Moments.gives) c.args.intake.now c.next_message.new.intake (c.args.words.now, c.args.moments.now) (c.loop-request.words, c.loop-request.moments) (talk_state c.args.self.now)
      (talk_state c.next_message.new.self) c.loop-request.invariant.so_far.text
  all_in stop none came =
      let far = c.loop-request.invariant.so_far in
      frames_in g.R.Source.incoming (Draws g.V.Words.gives g.N.Moments.gives) g.R.Source.failed c.args.intake.now (c.args.words.now, c.args.moments.now) (talk_state c.args.self.now) c.loop-request.intake c.next_message.new.intake (c.loop-request.words, c.loop-request.moments)
      (talk_state c.loop-request.self) (talk_state c.next_message.new.self) far.text far.taken (rw c.next_message.ensures.book refl) stop none came

  -- the text that closes the talk was cut off
  closed_in_part : (stop : InStop) → handed (answer_of stop) ≡ [] → CameIn stop → (closing : List ℕ) → MayClose c.next_message.new.intake closing → (last : g.row.W.Denot) (k : ℕ) → g.W.Sink.failed last ≡ true → k < length closing
      → Appends (g.W.Sink.written c.loop-request.writer) (g.W.Sink.written last) (take k closing)
      → TalksOn g.R.Source.incoming g.R.Source.failed g.W.Sink.written g.W.Sink.failed (Draws g.V.Words.gives g.N.Moments.gives) c.args.intake.now c.next_message.new.intake (c.args.words.now, c.args.moments.now) (c.loop-request.words, c.loop-request.moments)
      (talk_state c.args.self.now) (talk_state c.next_message.new.self) c.args.writer.now last ends.WriteFailed
  closed_in_part stop none came closing may last k failed less wrote =
      let far = c.loop-request.invariant.so_far in
      let part = cut_off g.W.Sink.written c.args.writer.now c.loop-request.writer last far.text closing k less far.wrote wrote in
      (far.text, all_in stop none came, (failed, closing, may, part.0, part.1, part.2))

pub loop-request-init : goal.loop-request-init
loop-request-init g c = record {
  seats = c.requires.seats;
  opens = opens_itself c.args.self.now.book.history c.requires.open;
  so_far = nothing_so_far g.R.Source.incoming g.W.Sink.written (Draws g.V.Words.gives g.N.Moments.gives) c.args.intake.now c.args.writer.now (c.args.words.now, c.args.moments.now) (talk_state c.args.self.now);
}

pub returns-in-Err-clause-talks : goal.returns-in-Err-clause-talks
returns-in-Err-clause-talks g c =
    let far = c.loop-request.invariant.so_far in
    let cut = c.in-Err.ensures.cut in
    let part = cut_answer g.W.Sink.written c.args.writer.now c.loop-request.writer c.answer_message.new.writer far.text cut.0 c.in-Err.field-0.written cut.2 far.wrote cut.3 in (
      far.text ++ cut.0,
      message_in g.R.Source.incoming (Draws g.V.Words.gives g.N.Moments.gives) g.R.Source.failed c.args.intake.now (c.args.words.now, c.args.moments.now) (talk_state c.args.self.now) c.loop-request.intake c.next_message.new.intake (c.loop-request.words, c.loop-request.moments)
          (talk_state c.loop-request.self) (talk_state c.next_message.new.self) far.text far.taken (rw c.next_message.ensures.book refl) c.in-Message.request (c.answer_message.new.words, c.answer_message.new.moments) (talk_state c.answer_message.new.talker) cut.0 c.in-Message.ensures.takes cut.1,
      (c.in-Err.ensures.failed, [], inl refl, part.0, part.1, part.2),
    )

pub returns-in-Err-clause-open : goal.returns-in-Err-clause-open
returns-in-Err-clause-open g c =
    let cut = c.in-Err.ensures.cut in
    (met_opens c.args.self.now.book.history (standing_of c.next_message.new.self) c.in-Message.request cut.1.0 (standing_of c.answer_message.new.talker) cut.0 cut.1.2.met (rw c.next_message.ensures.book c.loop-request.invariant.opens)).there

pub loop-request-preserved : goal.loop-request-preserved
loop-request-preserved g c =
    let far = c.loop-request.invariant.so_far in
    let ok = c.in_default.ensures.ok in
    record {
      seats = c.answer_message.ensures.kept;
      opens = met_opens c.args.self.now.book.history (standing_of c.next_message.new.self) c.in-Message.request ok.1.0 (standing_of c.answer_message.new.talker) ok.0 ok.1.2.met (rw c.next_message.ensures.book c.loop-request.invariant.opens);
      so_far = record {
        text = far.text ++ ok.0;
        taken = message_taken g.R.Source.incoming (Draws g.V.Words.gives g.N.Moments.gives) g.R.Source.failed c.args.intake.now (c.args.words.now, c.args.moments.now) (talk_state c.args.self.now) c.loop-request.intake c.next_message.new.intake (c.loop-request.words, c.loop-request.moments)
            (talk_state c.loop-request.self) (talk_state c.next_message.new.self) far.text far.taken (rw c.next_message.ensures.book refl) c.in-Message.request (c.answer_message.new.words, c.answer_message.new.moments) (talk_state c.answer_message.new.talker) ok.0 c.in-Message.ensures.takes ok.1;
        wrote = Appends-trans (g.W.Sink.written c.args.writer.now) (g.W.Sink.written c.loop-request.writer) (g.W.Sink.written c.answer_message.new.writer) far.text ok.0 far.wrote ok.2;
      };
    }

pub returns-in-End-clause-talks : goal.returns-in-End-clause-talks
returns-in-End-clause-talks g c =
    let came = c.in-End.ensures.takes in
    (c.loop-request.invariant.so_far.text, all_in g (goal.at.returns-in-End-clause-talks g c).After-next_message stops.End refl came, (c.loop-request.invariant.so_far.wrote, came.fetches.tells))

pub returns-in-ReadFailed-clause-talks : goal.returns-in-ReadFailed-clause-talks
returns-in-ReadFailed-clause-talks g c =
    let came = c.in-ReadFailed.ensures.takes in
    (c.loop-request.invariant.so_far.text, all_in g (goal.at.returns-in-ReadFailed-clause-talks g c).After-next_message stops.ReadFailed refl came, (c.loop-request.invariant.so_far.wrote, came.fetches.tells))

pub returns-in-Err-write_plain-clause-talks : goal.returns-in-Err-write_plain-clause-talks
returns-in-Err-write_plain-clause-talks g c =
    let came = c.in-Fault.ensures.takes in
    let tells = came.fetches.tells in
    let cut = c.in-Err-write_plain.ensures.cut in
    let closes = ap (λ (s : Status). plain_text s None) c.status_of.ensures ∙ ap closing_of (sym tells.1) in
    closed_in_part g (goal.at.returns-in-Err-write_plain-clause-talks g c).After-next_message (stops.Fault c.in-Fault.fault) refl came (plain_text c.status_of.result None) (inr (tells.0, inl closes)) c.write_plain.new.writer c.in-Err-write_plain.field-0.written
    c.in-Err-write_plain.ensures.failed cut.0 cut.1

pub returns-in-Err-write_plain-2-clause-talks : goal.returns-in-Err-write_plain-2-clause-talks
returns-in-Err-write_plain-2-clause-talks g c =
    let came = c.in-OutOfMemory.ensures.takes in
    let tells = came.fetches.tells in
    let cut = c.in-Err-write_plain-2.ensures.cut in
    closed_in_part g (goal.at.returns-in-Err-write_plain-2-clause-talks g c).After-next_message stops.OutOfMemory refl came (plain_text ServiceUnavailable None) (inr (tells.0, inr (refl, tells.2))) c.write_plain-in-OutOfMemory.new.writer
    c.in-Err-write_plain-2.field-0.written c.in-Err-write_plain-2.ensures.failed cut.0 cut.1

pub returns-in-Fault-clause-talks : goal.returns-in-Fault-clause-talks
returns-in-Fault-clause-talks g c =
    let far = c.loop-request.invariant.so_far in
    let came = c.in-Fault.ensures.takes in
    let whole = Appends-trans (g.W.Sink.written c.args.writer.now) (g.W.Sink.written c.loop-request.writer) (g.W.Sink.written c.write_plain.new.writer) far.text (plain_text c.status_of.result None) far.wrote c.in_default-write_plain.ensures.ok in
    (far.text, all_in g (goal.at.returns-in-Fault-clause-talks g c).After-next_message (stops.Fault c.in-Fault.fault) refl came, (rw c.status_of.ensures at whole, came.fetches.tells))

pub returns-in-OutOfMemory-clause-talks : goal.returns-in-OutOfMemory-clause-talks
returns-in-OutOfMemory-clause-talks g c =
    let far = c.loop-request.invariant.so_far in
    let came = c.in-OutOfMemory.ensures.takes in
    let whole = Appends-trans (g.W.Sink.written c.args.writer.now) (g.W.Sink.written c.loop-request.writer) (g.W.Sink.written c.write_plain-in-OutOfMemory.new.writer) far.text (plain_text ServiceUnavailable None) far.wrote c.in_default-write_plain-2.ensures.ok in
    (far.text, all_in g (goal.at.returns-in-OutOfMemory-clause-talks g c).After-next_message stops.OutOfMemory refl came, (whole, came.fetches.tells))
