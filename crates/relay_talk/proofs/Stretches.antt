-- What stretches of frames come to.
use Rattle.std.proofs.Common.{◌≡◌, ℕ, List, [], ◌∷◌, ◌++◌, Option, Some, refl, sym, ap, subst, ◌∙◌, append_assoc, append-nil}
use Rattle.std.specs.Prelude.{All, IfSome}
use Rattle.std.proofs.lemmas.List.Elements.{All-cons, All-nil}
use Rattle.interleaved.specs.declared.frame.Frame.{Frame as StreamFrame}
use Rattle.rtsp_message.specs.declared.unit.Unit.{Unit as StreamUnit}
use Rattle.rtsp_message.specs.declared.unit.Unit.TheVariants.{Message, Frame}
use Rattle.session_state.specs.declared.given.Given.{Given}
use Rattle.session_state.specs.History.{History}
use Rattle.cursor.specs.declared.packets.Packet.{Packet}
use Rattle.packet_ring.specs.Views.{Publishing, RingId, packet_bytes_of}
use Rattle.publisher.specs.Fates.{Handling, published}
use Rattle.relay_talk.specs.Publishing.{IsRecording, units_of}
use Rattle.relay_talk.specs.Taking.{GrowsByFrames, MayHave, OffersFrame, SplitsInTwo, TakesAll, TalkState, past_frames}
use Rattle.relay_talk.proofs.Taking.{met_left}

one_more : (history : History) (frame : StreamFrame) (frames : List StreamFrame) (feed : Publishing) (mid after : Option Publishing) (o : OffersFrame history frame feed mid)
    → GrowsByFrames history frames o.left after → GrowsByFrames history (frame ∷ frames) feed after
one_more history frame frames feed mid after o g =
    let same = (met_left o.session.channels frame o.fate feed o.left o.meets).same in
    let h : Handling = record { frame = frame; fate = o.fate } in
    record {
      left = g.left;
      left_is = g.left_is;
      ring = g.ring ∙ same;
      handlings = h ∷ g.handlings;
      frames_are = ap (λ (fs : List StreamFrame). frame ∷ fs) g.frames_are;
      fates = All-cons (MayHave history (packet_bytes_of feed.ring)) h g.handlings (o.session, o.is_session, o.may_have)
          (subst (λ (z : RingId). All (MayHave history (packet_bytes_of z)) g.handlings) same g.fates);
      log = g.log ∙ ap (λ (ps : List Packet). ps ++ published g.handlings) o.log ∙ append_assoc feed.log _ (published g.handlings);
    }

pub grows_by_frames : (before after : TalkState) (frames : List StreamFrame) (given : List Given) (text : List ℕ) (feed : Publishing) → IsRecording 1 before.standing.history → before.publishing ≡ Some feed
    → TakesAll before (units_of frames) given after text → GrowsByFrames before.standing.history frames feed after.publishing
grows_by_frames before after [] given text feed recording is takes = record {
  left = feed;
  left_is = ap (λ (s : TalkState). s.publishing) takes.1 ∙ is;
  ring = refl;
  handlings = [];
  frames_are = refl;
  fates = All-nil (MayHave before.standing.history (packet_bytes_of feed.ring));
  log = sym (append-nil feed.log);
}
grows_by_frames before after (frame ∷ frames) given text feed recording is (mid, one, rest) =
    let o : OffersFrame before.standing.history frame feed mid = subst (λ (p : Option Publishing). IfSome p (λ old. OffersFrame before.standing.history frame old mid)) is (one.recording recording) in
    one_more before.standing.history frame frames feed mid after.publishing o (grows_by_frames (past_frames (frame ∷ []) mid before) after frames given text o.left recording o.left_is rest)

pub unrecorded_dropped : (before after : TalkState) (frames : List StreamFrame) (given : List Given) (text : List ℕ) → (IsRecording 1 before.standing.history → ⊥)
    → TakesAll before (units_of frames) given after text → after.publishing ≡ before.publishing
unrecorded_dropped before after [] given text idle takes = ap (λ (s : TalkState). s.publishing) takes.1
unrecorded_dropped before after (frame ∷ frames) given text idle (mid, one, rest) =
    unrecorded_dropped (past_frames (frame ∷ []) mid before) after frames given text idle rest ∙ one.dropped idle

pub splits : (before : TalkState) (units others : List StreamUnit) (given : List Given) (after : TalkState) (text : List ℕ) → TakesAll before (units ++ others) given after text → SplitsInTwo before units others given after text
splits before [] others given after text takes = record {
  between = before;
  given_first = [];
  given_later = given;
  text_first = [];
  text_later = text;
  takes_first = (refl, refl, refl);
  takes_later = takes;
  given_is = refl;
  text_is = refl;
}
splits before (Message request ∷ units) others given after text (one, later, next, answer, answers, met, rest, given_is, text_is) =
    let p = splits next units others later after answers rest in
    record {
      between = p.between;
      given_first = one ∷ p.given_first;
      given_later = p.given_later;
      text_first = answer ++ p.text_first;
      text_later = p.text_later;
      takes_first = (one, p.given_first, next, answer, p.text_first, met, p.takes_first, refl, refl);
      takes_later = p.takes_later;
      given_is = given_is ∙ ap (λ (gs : List Given). one ∷ gs) p.given_is;
      text_is = text_is ∙ ap (λ (l : List ℕ). answer ++ l) p.text_is ∙ sym (append_assoc answer p.text_first p.text_later);
    }
splits before (Frame frame ∷ units) others given after text (feed, one, rest) =
    let p = splits (past_frames (frame ∷ []) feed before) units others given after text rest in
    record {
      between = p.between;
      given_first = p.given_first;
      given_later = p.given_later;
      text_first = p.text_first;
      text_later = p.text_later;
      takes_first = (feed, one, p.takes_first);
      takes_later = p.takes_later;
      given_is = p.given_is;
      text_is = p.text_is;
    }
