-- What a talk publishes: the frames that come in while its session records, in the ring of its mount.
use Rattle.std.specs.Prelude.{◌≡◌, ◌++◌, ◌⊎◌, ℕ, Bool, true, List, [], Option, None, Some, IsSomeAnd, map}
use Rattle.interleaved.specs.declared.frame.Frame.{Frame}
use Rattle.rtsp_message.specs.declared.request.Request.{Request}
use Rattle.rtsp_message.specs.declared.reply.Reply.{Reply}
use Rattle.rtsp_message.specs.declared.unit.Unit.{Unit as StreamUnit}
use Rattle.rtsp_message.specs.declared.unit.Unit.TheVariants as content
use Rattle.rtsp_message.specs.Intakes.{IntakeState, HandsOut, Tells, handed}
use Rattle.transport_header.specs.declared.point.Point.{Point}
use Rattle.session_state.specs.declared.act.Act.{Act}
use Rattle.session_state.specs.declared.act.Act.TheVariants as acts
use Rattle.session_state.specs.declared.session.Session.{Session}
use Rattle.session_state.specs.declared.session.State.TheVariants.{Recording}
use Rattle.session_state.specs.History.{History}
use Rattle.session_state.specs.declared.given.Given.{Given}
use Rattle.session_state.specs.Legal.{IsExpiry, IsReplyOf}
use Rattle.session_state.specs.Lookups.{IsSession, has_session, session_part, state_of}
use Rattle.packet_ring.specs.Calls.{PublishesNext, RingMayRefuse}
use Rattle.packet_ring.specs.Views.{Publishing, keep_of, packet_bytes_of, seats_of}
use Rattle.publisher.specs.declared.report.InReport.{InReport}
use Rattle.publisher.specs.declared.report.InStop.{InStop}
use Rattle.publisher.specs.FramesIn.{RelaysIn, answer_of}
use Rattle.relay_talk.specs.Exchange.{IsAnswered, heard_after}

-- a connection's session records (RFC 2326, A.2)
pub record IsRecording (conn : ℕ) (history : History) : Type 0 where
  pub there : has_session conn history ≡ true
  pub state : state_of (session_part conn history) ≡ Some Recording

-- frames as units of a stream
abbrev pub units_of : List Frame → List StreamUnit
units_of frames = map (λ frame. content.Frame frame) frames

-- From the one state to the other an intake handed out these frames, and then gave the answer that ended them. They come after
-- what was heard.
pub record Fetches {S : Type 0} (incoming : S → Option (List ℕ)) (failed : S → Bool) (old new : IntakeState S) (heard then : Option ℕ) (stop : InStop) : Type 0 where
  pub frames : List Frame
  pub heard_is : then ≡ heard_after frames heard
  pub hands_out : HandsOut incoming old new (units_of frames ++ handed (answer_of stop))
  pub tells : Tells incoming failed new (answer_of stop)

-- The frames that came in were offered to the ring, on the channels of the session that records, up to this answer.
pub record PublishesFrames {S : Type 0} (incoming : S → Option (List ℕ)) (failed : S → Bool) (history : History) (old new : IntakeState S) (feed : Publishing) (after : Option Publishing) (stop : InStop) : Type 0 where
  pub session : Session
  pub is_session : IsSession 1 1 history session
  pub left : Publishing
  pub left_is : after ≡ Some left
  pub report : InReport
  pub stop_is : stop ≡ report.stop
  pub old_points : List (Option Point)
  pub new_points : List (Option Point)
  pub relays : RelaysIn incoming failed PublishesNext session.channels (packet_bytes_of feed.ring) RingMayRefuse old new feed left (Some feed.log) (Some left.log) old_points new_points report

-- a ring in which nothing was published yet, of the size of a talk's
pub record IsNewRing (feed : Publishing) : Type 0 where
  pub log : feed.log ≡ []
  pub keep : keep_of feed.ring ≡ 512
  pub seats : seats_of feed.ring ≡ 1
  pub packet_bytes : packet_bytes_of feed.ring ≡ 16384

-- what takes in the packets after an act: what was offered where a mount began, and nothing once it has ended
abbrev pub publishing_after : {F : Type 0} → Act → (offered now : Option F) → Option F
publishing_after acts.Open offered now = offered
publishing_after acts.End offered now = None
publishing_after act offered now = now

-- what an act does to what is published: a mount begins with a new ring, and its end ends that
abbrev pub ActsOn : Act → (old new : Option Publishing) → Type 0
ActsOn acts.Open old new = IsSomeAnd new IsNewRing
ActsOn acts.End old new = new ≡ None
ActsOn act old new = new ≡ old

-- the act of the reply to a request was carried out on what is published
abbrev pub DoesPublishing : History → Request → Given → Reply → (old new : Option Publishing) → Type 0
DoesPublishing before request given reply old new = (act : Act) × IsReplyOf 1 before 1 request given reply act × ActsOn act old new

-- the act of a session that expires was carried out on what is published; nothing changes where none does
abbrev pub ExpiresPublishing : History → (heard now : ℕ) → (old new : Option Publishing) → Type 0
ExpiresPublishing before heard now old new =
    ((act : Act) × IsExpiry 1 before 1 heard now act × ActsOn act old new) ⊎ (((act : Act) → IsExpiry 1 before 1 heard now act → ⊥) × (new ≡ old))

-- the act of the reply to a request was carried out on what is published; nothing changes if memory was refused for the reply,
-- which then isn't written down
abbrev pub AnswersPublishing : (before : History) → Request → Given → (after : History) → (old new : Option Publishing) → Type 0
AnswersPublishing before request given after old new =
    ((reply : Reply) × IsAnswered before request given after reply × DoesPublishing before request given reply old new) ⊎ ((after ≡ before) × (new ≡ old))
