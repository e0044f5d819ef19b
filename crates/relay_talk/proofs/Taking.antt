-- Frames are taken one after another, and so are units.
use Rattle.std.proofs.Common.{◌≡◌, ℕ, List, [], ◌∷◌, ◌++◌, ◌⊎◌, inl, inr, Option, None, Some, map, refl, sym, ap, subst, ◌∙◌, append_assoc, append-nil}
use Rattle.std.specs.Prelude.{IfSome, IfNone}
use Rattle.std.proofs.lemmas.List.Elements.{All-head, All-tail}
use Rattle.interleaved.specs.declared.frame.Frame.{Frame as StreamFrame}
use Rattle.rtsp_message.specs.declared.request.Request.{Request}
use Rattle.rtsp_message.specs.declared.unit.Unit.{Unit as StreamUnit}
use Rattle.rtsp_message.specs.declared.unit.Unit.TheVariants.{Message, Frame}
use Rattle.transport_header.specs.declared.spec.ChannelPair.{ChannelPair}
use Rattle.session_state.specs.declared.given.Given.{Given}
use Rattle.session_state.specs.declared.session.Session.{Session}
use Rattle.session_state.specs.History.{History}
use Rattle.session_state.specs.Lookups.{IsSession}
use Rattle.packet_ring.specs.Calls.{PublishesNext, RingMayRefuse}
use Rattle.packet_ring.specs.Views.{Publishing, packet_bytes_of}
use Rattle.cursor.specs.declared.packets.Packet.{Packet}
use Rattle.publisher.specs.declared.fate.Fate.{Fate}
use Rattle.publisher.specs.declared.fate.Fate.TheVariants as fates
use Rattle.publisher.specs.Fates.{Handling, HasFate, published_as}
use Rattle.publisher.specs.FramesIn.{HaveFates, MeetInTurn, Meets}
use Rattle.relay_talk.specs.Exchange.{AreAnswers}
use Rattle.relay_talk.specs.Publishing.{IsRecording, units_of}
use Rattle.relay_talk.specs.Taking.{OffersFrame, TakesAll, TakesFrame, TakesFrames, TakesMessage, TalkState, past_frames}
use Rattle.relay_talk.proofs.Exchanges.{heard_none}

-- A frame that met its fate left the ring, and the log with what was published of it.
pub record Left (frame : StreamFrame) (fate : Fate) (old new : Publishing) : Type 0 where
  pub same : new.ring ≡ old.ring
  pub grows : new.log ≡ old.log ++ published_as frame fate

unchanged : (frame : StreamFrame) (fate : Fate) (old new : Publishing) → published_as frame fate ≡ [] → new ≡ old → Left frame fate old new
unchanged frame fate old new none is = record {
  same = ap (λ (p : Publishing). p.ring) is;
  grows = ap (λ (p : Publishing). p.log) is ∙ sym (append-nil old.log) ∙ ap (λ (ps : List Packet). old.log ++ ps) (sym none);
}

pub met_left : (pairs : List (Option ChannelPair)) (frame : StreamFrame) (fate : Fate) (old new : Publishing) → Meets PublishesNext pairs frame fate old new → Left frame fate old new
met_left pairs frame (fates.Published tag) old new (number, gives) = record { same = ap (λ (p : Publishing). p.ring) gives.1.after; grows = ap (λ (p : Publishing). p.log) gives.1.after }
met_left pairs frame fates.Pinned old new (pins, refuses) = record {
  same = ap (λ (p : Publishing). p.ring) refuses.2.4;
  grows = ap (λ (p : Publishing). p.log) refuses.2.4 ∙ sym (append-nil old.log);
}
met_left pairs frame fates.Oversize old new refuses = unchanged frame fates.Oversize old new refl refuses.2.1
met_left pairs frame fates.Worn old new refuses = unchanged frame fates.Worn old new refl refuses.2.2
met_left pairs frame fates.Unkept old new refuses = absurd refuses.2
met_left pairs frame fates.BadRtp old new same = unchanged frame fates.BadRtp old new refl same
met_left pairs frame fates.Stranger old new same = unchanged frame fates.Stranger old new refl same

-- frames that went into the feed of a session that records were taken, one after another
pub takes_each : (history : History) (session : Session) (room : ℕ) → IsRecording 1 history → IsSession 1 1 history session → (hs : List Handling) (old new : Publishing)
    → room ≡ packet_bytes_of old.ring → HaveFates session.channels room RingMayRefuse hs → MeetInTurn PublishesNext session.channels hs old new
    → TakesFrames history (map (λ (h : Handling). h.frame) hs) (Some old) (Some new)
takes_each history session room recording is_session [] old new is fates same = ap (λ (p : Publishing). Some p) same
takes_each history session room recording is_session (h ∷ hs) old new is fates (mid, meets, rest) =
    let left = met_left session.channels h.frame h.fate old mid meets in
    let offers : OffersFrame history h.frame old (Some mid) =
    record {
      session = session;
      is_session = is_session;
      fate = h.fate;
      may_have = subst (λ (n : ℕ). HasFate session.channels n RingMayRefuse h.frame h.fate) is (All-head (λ (one : Handling). HasFate session.channels room RingMayRefuse one.frame one.fate) h hs fates);
      left = mid;
      left_is = refl;
      meets = meets;
      log = left.grows;
    } in (
      Some mid,
      record { recording = λ _. offers; dropped = λ not. absurd (not recording); no_feed = tt },
      takes_each history session room recording is_session hs mid new (is ∙ ap packet_bytes_of (sym left.same)) (All-tail (λ (one : Handling). HasFate session.channels room RingMayRefuse one.frame one.fate) h hs fates) rest,
    )

-- nothing is published if no session records, or without a feed
IsIdle : History → Option Publishing → Type 0
IsIdle history feed = (IsRecording 1 history → ⊥) ⊎ (feed ≡ None)

none_stays : (feed : Option Publishing) → IfNone feed (feed ≡ None)
none_stays None = refl
none_stays (Some feed) = tt

none_offered : (history : History) (frame : StreamFrame) (feed : Option Publishing) → feed ≡ None → IfSome feed (λ old. OffersFrame history frame old feed)
none_offered history frame None is = tt
none_offered history frame (Some feed) is = absurd (cc)

drops_frame : (history : History) (frame : StreamFrame) (feed : Option Publishing) → IsIdle history feed → TakesFrame history frame feed feed
unfolding IsIdle
drops_frame history frame feed (inl idle) = record { recording = λ is. absurd (idle is); dropped = λ _. refl; no_feed = none_stays feed }
drops_frame history frame feed (inr none) = record { recording = λ _. none_offered history frame feed none; dropped = λ _. refl; no_feed = none_stays feed }

idle_drops : (history : History) (frames : List StreamFrame) (feed : Option Publishing) → IsIdle history feed → TakesFrames history frames feed feed
idle_drops history [] feed idle = refl
idle_drops history (frame ∷ frames) feed idle = (feed, drops_frame history frame feed idle, idle_drops history frames feed idle)

pub drops_unrecorded : (history : History) (frames : List StreamFrame) (feed : Option Publishing) → (IsRecording 1 history → ⊥) → TakesFrames history frames feed feed
unfolding IsIdle
drops_unrecorded history frames feed idle = idle_drops history frames feed (inl idle)

pub drops_unfed : (history : History) (frames : List StreamFrame) (feed : Option Publishing) → feed ≡ None → TakesFrames history frames feed feed
unfolding IsIdle
drops_unfed history frames feed none = idle_drops history frames feed (inr none)

-- frames, and then some units
pub frames_taken : (before : TalkState) (frames : List StreamFrame) (feed : Option Publishing) (us : List StreamUnit) (given : List Given) (after : TalkState) (text : List ℕ)
    → TakesFrames before.standing.history frames before.publishing feed → TakesAll (past_frames frames feed before) us given after text → TakesAll before (units_of frames ++ us) given after text
frames_taken before [] feed us given after text same are = subst (λ (p : Option Publishing). TakesAll (record before { publishing = p }) us given after text) same are
frames_taken before (frame ∷ frames) feed us given after text (between, one, rest) are = (
  between,
  one,
  frames_taken (past_frames (frame ∷ []) between before) frames feed us given after text rest
      (subst (λ (heard : Option ℕ). TakesAll (record before { standing = record before.standing { heard = heard }; publishing = feed }) us given after text) (sym (heard_none frames)) are),
)

pub TakesAll-append : (before : TalkState) (us vs : List StreamUnit) (u v : List Given) (between after : TalkState) (a b : List ℕ)
    → TakesAll before us u between a → TakesAll between vs v after b → TakesAll before (us ++ vs) (u ++ v) after (a ++ b)
TakesAll-append before [] vs u v between after a b (none, same, empty) q =
    subst (λ (l : List Given). TakesAll before vs (l ++ v) after (a ++ b)) (sym none)
    (subst (λ (l : List ℕ). TakesAll before vs v after (l ++ b)) (sym empty) (subst (λ (s : TalkState). TakesAll s vs v after b) same q))
TakesAll-append before (Message r ∷ us) vs u v between after a b (one, later, then, first, others, met, rest, split, all) q = (
  one,
  later ++ v,
  then,
  first,
  others ++ b,
  met,
  TakesAll-append then us vs later v between after others b rest q,
  ap (λ (l : List Given). l ++ v) split,
  ap (λ (l : List ℕ). l ++ b) all ∙ append_assoc first others b,
)
TakesAll-append before (Frame frame ∷ us) vs u v between after a b (feed, one, p) q = (feed, one, TakesAll-append (past_frames (frame ∷ []) feed before) us vs u v between after a b p q)

-- one message that was taken
pub one_taken : {before after : TalkState} {request : Request} {given : Given} {text : List ℕ} → TakesMessage before request given after text → TakesAll before (Message request ∷ []) (given ∷ []) after text
one_taken {after = after} {given = given} {text = text} takes = (given, [], after, text, [], takes, (refl, refl, refl), refl, sym (append-nil text))

-- the answers are those to the messages among the units
pub takes_answers : (before : TalkState) (us : List StreamUnit) (given : List Given) (after : TalkState) (text : List ℕ) → TakesAll before us given after text → AreAnswers before.standing us given after.standing text
takes_answers before [] given after text (none, same, empty) = (none, ap (λ (s : TalkState). s.standing) same, empty)
takes_answers before (Message request ∷ us) given after text (one, later, between, first, others, takes, rest, split, all) =
    (one, later, between.standing, first, others, takes.met, takes_answers between us later after others rest, split, all)
takes_answers before (Frame frame ∷ us) given after text (feed, one, rest) = takes_answers (past_frames (frame ∷ []) feed before) us given after text rest

module _ (from : TalkState) (us : List StreamUnit) (u : List Given) (state : TalkState) (a : List ℕ) (frames : List StreamFrame) (feed : Option Publishing) where
  -- some units, and then frames
  pub frames_more : TakesAll from us u state a → TakesFrames state.standing.history frames state.publishing feed → TakesAll from (us ++ (units_of frames ++ [])) u (past_frames frames feed state) a
  frames_more p takes =
      subst (λ (l : List Given). TakesAll from (us ++ (units_of frames ++ [])) l (past_frames frames feed state) a) (append-nil u)
      (subst (λ (l : List ℕ). TakesAll from (us ++ (units_of frames ++ [])) (u ++ []) (past_frames frames feed state) l) (append-nil a)
      (TakesAll-append from us (units_of frames ++ []) u [] state (past_frames frames feed state) a [] p
      (frames_taken state frames feed [] [] (past_frames frames feed state) [] takes (refl, refl, refl))))

  -- some units, and then frames and a message
  pub message_more : (request : Request) (given : Given) (after : TalkState) (more : List ℕ) → TakesAll from us u state a → TakesFrames state.standing.history frames state.publishing feed
      → TakesMessage (past_frames frames feed state) request given after more → TakesAll from (us ++ (units_of frames ++ Message request ∷ [])) (u ++ given ∷ []) after (a ++ more)
  message_more request given after more p takes message =
      TakesAll-append from us (units_of frames ++ Message request ∷ []) u (given ∷ []) state after a more p
      (frames_taken state frames feed (Message request ∷ []) (given ∷ []) after more takes (one_taken message))
