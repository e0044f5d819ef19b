-- What a talk does with what comes in: it publishes the frames while its session records, and answers the messages.
use Rattle.std.specs.Prelude.{◌≡◌, ◌<◌, ◌++◌, ◌⊎◌, ℕ, Bool, true, List, [], ◌∷◌, Option, None, Some, IfSome, IfNone, All, length, map, take}
use Rattle.std.specs.Io.KnownBytes.{Appends}
use Rattle.interleaved.specs.declared.frame.Frame.{Frame as StreamFrame}
use Rattle.rtsp_message.specs.declared.request.Request.{Request}
use Rattle.rtsp_message.specs.declared.unit.Unit.{Unit as StreamUnit}
use Rattle.rtsp_message.specs.declared.unit.Unit.TheVariants.{Message, Frame}
use Rattle.rtsp_message.specs.declared.intake.Next.TheVariants as next
use Rattle.rtsp_message.specs.Intakes.{IntakeState, HandsOut, Tells}
use Rattle.rtsp_message.specs.Reply.{plain_text}
use Rattle.session_state.specs.declared.given.Given.{Given}
use Rattle.session_state.specs.declared.session.Session.{Session}
use Rattle.session_state.specs.History.{History}
use Rattle.session_state.specs.Lookups.{IsSession}
use Rattle.packet_ring.specs.Calls.{PublishesNext, RingMayRefuse}
use Rattle.packet_ring.specs.Views.{Publishing, packet_bytes_of}
use Rattle.publisher.specs.declared.fate.Fate.{Fate}
use Rattle.publisher.specs.declared.report.InStop.{InStop}
use Rattle.publisher.specs.Fates.{Handling, HasFate, published, published_as}
use Rattle.publisher.specs.FramesIn.{Meets}
use Rattle.relay_talk.specs.Exchange.{AreDrawn, IsMet, Standing, after_frames, heard_at, standing_of}
use Rattle.relay_talk.specs.Publishing.{AnswersPublishing, ExpiresPublishing, Fetches, IsRecording}
use Rattle.relay_talk.specs.Talk.{closing_of, refusal, status_of}
use Rattle.relay_talk.specs.declared.talk.TalkEnd.{TalkEnd}
use Rattle.relay_talk.specs.declared.talk.TalkEnd.TheVariants as ends
use Rattle.relay_talk.specs.declared.talker.Talker.{Talker}

-- The state of a talk: its history, when its connection was last heard, and its feed, which is the publisher of its mount.
pub record TalkState : Type 0 where
  pub standing : Standing
  pub publishing : Option Publishing

abbrev pub talk_state : Talker → TalkState
talk_state talker = record { standing = standing_of talker; publishing = talker.publishing }

-- A frame is offered to the feed, as a packet of its channel in the session that records. If its fate is to be published, the
-- log grows by it. If not, the log is unchanged.
pub record OffersFrame (history : History) (frame : StreamFrame) (feed : Publishing) (after : Option Publishing) : Type 0 where
  pub session : Session
  pub is_session : IsSession 1 1 history session
  pub fate : Fate
  pub may_have : HasFate session.channels (packet_bytes_of feed.ring) RingMayRefuse frame fate
  pub left : Publishing
  pub left_is : after ≡ Some left
  pub meets : Meets PublishesNext session.channels frame fate feed left
  pub log : left.log ≡ feed.log ++ published_as frame fate

-- A frame comes in. It is offered to the feed if the session records and there is a feed. If not, the feed is unchanged.
pub record TakesFrame (history : History) (frame : StreamFrame) (feed after : Option Publishing) : Type 0 where
  pub recording : IsRecording 1 history → IfSome feed (λ old. OffersFrame history frame old after)
  pub dropped : ¬ IsRecording 1 history → after ≡ feed
  pub no_feed : IfNone feed (after ≡ None)

-- frames come in, one after another
abbrev pub TakesFrames : History → List StreamFrame → (feed after : Option Publishing) → Type 0
TakesFrames history [] feed after = after ≡ feed
TakesFrames history (frame ∷ frames) feed after = (between : Option Publishing) × TakesFrame history frame feed between × TakesFrames history frames between after

-- the state after these frames, which leave the feed so
abbrev pub past_frames : List StreamFrame → (after : Option Publishing) → TalkState → TalkState
past_frames frames after before = record { standing = after_frames frames before.standing; publishing = after }

-- A message comes in: its session expires first, if it has, then the message is answered. The act of each is carried out on the
-- feed.
pub record TakesMessage (before : TalkState) (request : Request) (given : Given) (after : TalkState) (text : List ℕ) : Type 0 where
  pub met : IsMet before.standing request given after.standing text
  pub between : Option Publishing
  pub expires : ExpiresPublishing before.standing.history (heard_at before.standing.heard given.now) given.now before.publishing between
  pub answers : AnswersPublishing met.between request given after.standing.history between after.publishing

-- a message is taken with what was drawn for it
abbrev pub TakesWith : {D : Type 0} → (gives : D → Given → D → Type 0) → (old new : D) → (before : TalkState) → Request → (after : TalkState) → List ℕ → Type 0
TakesWith gives old new before request after text = (given : Given) × gives old given new × TakesMessage before request given after text

-- These units come in, in order, each in the state that the unit before it left. Each message is answered, with a word and a
-- moment of its own; this is the text of all answers.
abbrev pub TakesAll : (before : TalkState) → List StreamUnit → List Given → (after : TalkState) → List ℕ → Type 0
TakesAll before [] given after text = (given ≡ []) × (after ≡ before) × (text ≡ [])
TakesAll before (Message request ∷ units) given after text =
    (one : Given) × (later : List Given) × (between : TalkState) × (first : List ℕ) × (others : List ℕ)
    × TakesMessage before request one between first × TakesAll between units later after others × (given ≡ one ∷ later) × (text ≡ first ++ others)
TakesAll before (Frame frame ∷ units) given after text =
    (feed : Option Publishing) × TakesFrame before.standing.history frame before.publishing feed × TakesAll (past_frames (frame ∷ []) feed before) units given after text

-- The intake handed out frames and then gave the answer that ended them. The frames were taken in that order.
pub record TakesStretch {S : Type 0} (incoming : S → Option (List ℕ)) (failed : S → Bool) (history : History) (old new : IntakeState S) (heard then : Option ℕ) (feed after : Option Publishing) (stop : InStop) : Type 0 where
  pub fetches : Fetches incoming failed old new heard then stop
  pub takes : TakesFrames history fetches.frames feed after

-- The intake handed out these units, and they were taken. A word and a moment were drawn for each message.
pub record TakesIn {R D : Type 0} (incoming : R → Option (List ℕ)) (gives : D → Given → D → Type 0) (old new : IntakeState R) (draws drawn : D) (before after : TalkState) (text : List ℕ) : Type 0 where
  pub units : List StreamUnit
  pub given : List Given
  pub hands_out : HandsOut incoming old new units
  pub are_drawn : AreDrawn gives draws given drawn
  pub takes : TakesAll before units given after text

-- What may close a talk: nothing; after all that was read, the text of its fault; or the refusal for bytes that are held, for
-- which the reader was refused memory.
abbrev pub MayClose : {R : Type 0} → IntakeState R → List ℕ → Type 0
MayClose last closing =
    (closing ≡ []) ⊎ ((last.queue ≡ []) × ((closing ≡ closing_of last.reading) ⊎ ((closing ≡ refusal) × (0 < length last.held))))

module _ {R W : Type 0} (incoming : R → Option (List ℕ)) (read_failed : R → Bool) (written : W → Option (List ℕ)) (write_failed : W → Bool) where
  -- How answers end: all of them are written, and then what closes the talk, or, after a failed write, a part of that.
  abbrev pub EndsWith : (last : IntakeState R) → (text : List ℕ) → (old new : W) → TalkEnd → Type 0
  EndsWith last text old new ends.Done = Appends (written old) (written new) text × Tells incoming read_failed last next.End
  EndsWith last text old new (ends.StreamFault fault) =
      Appends (written old) (written new) (text ++ plain_text (status_of fault) None) × Tells incoming read_failed last (next.Fault fault)
  EndsWith last text old new ends.ReadFailed = Appends (written old) (written new) text × Tells incoming read_failed last next.ReadFailed
  EndsWith last text old new ends.OutOfMemory = Appends (written old) (written new) (text ++ refusal) × Tells incoming read_failed last next.OutOfMemory
  EndsWith last text old new ends.WriteFailed =
      (write_failed new ≡ true) × (closing : List ℕ) × MayClose last closing × (n : ℕ) × (n < length (text ++ closing))
      × Appends (written old) (written new) (take n (text ++ closing))

-- A talk goes on, from the one state to the other, until it ends: all that comes in is taken, and the answers are written.
abbrev pub TalksOn : {R W D : Type 0} → (incoming : R → Option (List ℕ)) → (read_failed : R → Bool) → (written : W → Option (List ℕ)) → (write_failed : W → Bool) → (gives : D → Given → D → Type 0)
    → (old new : IntakeState R) → (draws drawn : D) → (before after : TalkState) → W → W → TalkEnd → Type 0
TalksOn incoming read_failed written write_failed gives old new draws drawn before after old_writer new_writer end =
    (text : List ℕ) × TakesIn incoming gives old new draws drawn before after text × EndsWith incoming read_failed written write_failed new text old_writer new_writer end

-- a fate that a frame may have in the session that records, in a ring of packets of at most this many bytes
abbrev pub MayHave : History → (room : ℕ) → Handling → Type 0
MayHave history room h = (session : Session) × IsSession 1 1 history session × HasFate session.channels room RingMayRefuse h.frame h.fate

-- The log grew by the packets of those frames that were published, in order. Each frame has one fate.
pub record GrowsByFrames (history : History) (frames : List StreamFrame) (feed : Publishing) (after : Option Publishing) : Type 0 where
  pub left : Publishing
  pub left_is : after ≡ Some left
  pub ring : left.ring ≡ feed.ring
  pub handlings : List Handling
  pub frames_are : map (λ (h : Handling). h.frame) handlings ≡ frames
  pub fates : All (MayHave history (packet_bytes_of feed.ring)) handlings
  pub log : left.log ≡ feed.log ++ published handlings

-- Units were taken in two parts: the first of them, up to a state between, and then the others.
pub record SplitsInTwo (before : TalkState) (units others : List StreamUnit) (given : List Given) (after : TalkState) (text : List ℕ) : Type 0 where
  pub between : TalkState
  pub given_first : List Given
  pub given_later : List Given
  pub text_first : List ℕ
  pub text_later : List ℕ
  pub takes_first : TakesAll before units given_first between text_first
  pub takes_later : TakesAll between others given_later after text_later
  pub given_is : given ≡ given_first ++ given_later
  pub text_is : text ≡ text_first ++ text_later
