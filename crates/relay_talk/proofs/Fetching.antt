-- The frames that come before a message.
use Rattle.std.specs.Prelude.{is_some}
use Rattle.std.proofs.Common.{◌≡◌, ℕ, Bool, List, [], ◌<◌, ◌∷◌, ◌++◌, Option, None, Some, length, map, refl, sym, ap, subst, ◌∙◌, false, arith}
use Rattle.interleaved.specs.declared.frame.Frame.{Frame}
use Rattle.rtsp_message.specs.declared.unit.Unit.{Unit as StreamUnit}
use Rattle.rtsp_message.specs.declared.unit.Unit.TheVariants as content
use Rattle.rtsp_message.specs.Intakes.{IntakeState, HandsOut, handed}
use Rattle.rtsp_message.proofs.HandingOut.{HandsOut-trans}
use Rattle.transport_header.specs.declared.point.Point.{Point}
use Rattle.cursor.specs.declared.packets.Packet.{Packet}
use Rattle.session_state.specs.declared.session.Session.{Session}
use Rattle.session_state.specs.declared.session.State.{State}
use Rattle.session_state.specs.declared.session.State.TheVariants.{Recording}
use Rattle.session_state.specs.History.{History, Moment}
use Rattle.session_state.specs.Lookups.{IsSession, has_session}
use Rattle.packet_ring.specs.Calls.{PublishesNext, RingMayRefuse}
use Rattle.packet_ring.specs.Views.{Publishing, packet_bytes_of}
use Rattle.publisher.specs.declared.report.InReport.{InReport}
use Rattle.publisher.specs.declared.report.InStop.{InStop}
use Rattle.publisher.specs.Fates.{Handling, total}
use Rattle.publisher.specs.FramesIn.{RelaysIn, answer_of, frames_of}
use Rattle.relay_talk.specs.Exchange.{heard_after}
use Rattle.relay_talk.specs.Publishing.{Fetches, IsRecording, units_of}
use Rattle.relay_talk.specs.Taking.{TakesStretch}
use Rattle.relay_talk.proofs.Taking.{drops_unfed, drops_unrecorded, takes_each}

-- the frames of these, whatever became of them
pub frames_of-units : (handlings : List Handling) → frames_of handlings ≡ units_of (map (λ (h : Handling). h.frame) handlings)
frames_of-units [] = refl
frames_of-units (h ∷ handlings) = ap (λ (l : List StreamUnit). content.Frame h.frame ∷ l) (frames_of-units handlings)

-- one frame more, before what comes then
units_of-push : (frames : List Frame) (frame : Frame) (us : List StreamUnit) → units_of frames ++ content.Frame frame ∷ us ≡ units_of (frames ++ frame ∷ []) ++ us
units_of-push [] frame us = refl
units_of-push (one ∷ frames) frame us = ap (λ (l : List StreamUnit). content.Frame one ∷ l) (units_of-push frames frame us)

-- behind a frame no moment of a message stands
pub heard_push : (frames : List Frame) (frame : Frame) (heard : Option ℕ) → heard_after (frames ++ frame ∷ []) heard ≡ None
heard_push [] frame heard = refl
heard_push (one ∷ frames) frame heard = refl

module _ {S : Type 0} (incoming : S → Option (List ℕ)) where
  -- Frames were handed out: what comes then comes after them, and they after what was heard.
  pub record Skips (old now : IntakeState S) (heard left : Option ℕ) : Type 0 where
    pub frames : List Frame
    pub heard_is : left ≡ heard_after frames heard
    pub then : (new : IntakeState S) (us : List StreamUnit) → HandsOut incoming now new us → HandsOut incoming old new (units_of frames ++ us)

  pub skips_nothing : (old : IntakeState S) (heard : Option ℕ) → Skips old old heard heard
  skips_nothing old heard = record { frames = []; heard_is = refl; then = λ new us out. out }

  pub skips_more : (old now next : IntakeState S) (heard left : Option ℕ) (frame : Frame) → Skips old now heard left → HandsOut incoming now next (content.Frame frame ∷ []) → Skips old next heard None
  skips_more old now next heard left frame p out = record {
    frames = p.frames ++ frame ∷ [];
    heard_is = sym (heard_push p.frames frame heard);
    then = λ new us rest. subst (HandsOut incoming old new) (units_of-push p.frames frame us) (p.then new (content.Frame frame ∷ us) (HandsOut-trans incoming now next new (content.Frame frame ∷ []) us out rest));
  }

-- what was heard, where so many frames are counted
abbrev pub HeardBy : (count : ℕ) → (heard then : Option ℕ) → Type 0
HeardBy count heard then = (0 < count → then ≡ None) × (count ≡ 0 → then ≡ heard)

heard_by : (handlings : List Handling) (count : ℕ) (heard then : Option ℕ) → count ≡ length handlings → HeardBy count heard then → then ≡ heard_after (map (λ (h : Handling). h.frame) handlings) heard
heard_by [] count heard then all by = by.1 all
heard_by (h ∷ handlings) count heard then all by = by.0 (omega (arith, all))

-- a session in this state records
pub records : {history : History} {session : Session} → IsSession 1 1 history session → session.state ≡ Recording → IsRecording 1 history
records is_session state = record {
  there = ap (λ (moment : Option Moment). is_some moment) is_session.first;
  state = is_session.state ∙ ap (λ (s : State). Some s) state;
}

-- and in another it doesn't
pub not_records : {history : History} {session : Session} → IsSession 1 1 history session → (session.state ≡ Recording → ⊥) → IsRecording 1 history → ⊥
not_records is_session other recording = other (let same = recording.state in let is = is_session.state in cc)

-- no session records where there is none
pub none_records : {history : History} → has_session 1 history ≡ false → IsRecording 1 history → ⊥
none_records none recording = let there = recording.there in absurd (cc)

-- frames that went through the engine into the feed of a session that records
pub relayed : {S : Type 0} (incoming : S → Option (List ℕ)) (failed : S → Bool) (history : History) (session : Session) (old new : IntakeState S) (feed left : Publishing)
    (old_log new_log : Option (List Packet)) (old_points new_points : List (Option Point)) (report : InReport) (heard then : Option ℕ) → IsRecording 1 history → IsSession 1 1 history session
    → RelaysIn incoming failed PublishesNext session.channels (packet_bytes_of feed.ring) RingMayRefuse old new feed left old_log new_log old_points new_points report → HeardBy (total report) heard then
    → TakesStretch incoming failed history old new heard then (Some feed) (Some left) report.stop
relayed incoming failed history session old new feed left old_log new_log old_points new_points report heard then recording is_session relays by = record {
  fetches = record {
    frames = map (λ (h : Handling). h.frame) relays.handlings;
    heard_is = heard_by relays.handlings (total report) heard then relays.counts.all by;
    hands_out = subst (λ (us : List StreamUnit). HandsOut incoming old new (us ++ handed (answer_of report.stop))) (frames_of-units relays.handlings) relays.hands_out;
    tells = relays.tells;
  };
  takes = takes_each history session (packet_bytes_of feed.ring) recording is_session relays.handlings feed left refl relays.fates relays.feed;
}

-- frames that were skipped, since no session records
pub skipped : {S : Type 0} (incoming : S → Option (List ℕ)) (failed : S → Bool) (history : History) (old new : IntakeState S) (feed : Option Publishing) (heard then : Option ℕ) (stop : InStop) → (IsRecording 1 history → ⊥)
    → Fetches incoming failed old new heard then stop → TakesStretch incoming failed history old new heard then feed feed stop
skipped incoming failed history old new feed heard then stop idle fetches = record { fetches = fetches; takes = drops_unrecorded history fetches.frames feed idle }

-- frames that were skipped without a feed
pub skipped_unfed : {S : Type 0} (incoming : S → Option (List ℕ)) (failed : S → Bool) (history : History) (old new : IntakeState S) (feed : Option Publishing) (heard then : Option ℕ) (stop : InStop) → feed ≡ None
    → Fetches incoming failed old new heard then stop → TakesStretch incoming failed history old new heard then feed feed stop
skipped_unfed incoming failed history old new feed heard then stop none fetches = record { fetches = fetches; takes = drops_unfed history fetches.frames feed none }
