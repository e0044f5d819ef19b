-- How the frames of a source go on to the target (RFC 2326, 10.12).
use Rattle.std.specs.Prelude.{◌≡◌, ◌⊎◌, ◌≤◌, ◌*◌, ℕ, true, false, List, [], ◌∷◌, ◌++◌, Option, Some, None, drop, length, max, nat_lt, IsSome}
use Rattle.interleaved.specs.declared.frame.Frame.{Frame as Block}
use Rattle.sequence_counts.specs.Header.{HasFixedHeader}
use Rattle.rtsp_message.specs.declared.fault.Fault.{Fault}
use Rattle.rtsp_message.specs.declared.unit.Unit.{Unit as StreamUnit}
use Rattle.rtsp_message.specs.declared.unit.Unit.TheVariants.{Frame, Message}
use Rattle.rtsp_message.specs.Stream.{ReadsOnFrom, fault_of}
use Rattle.request_text.specs.Sending.{Framed}
use Rattle.rtsp_client.specs.Accounts.{with_frame}
use Rattle.rtsp_client.specs.Clients.{State}
use Rattle.rtsp_client.specs.FrameMaps.{IsFateOf}
use Rattle.rtsp_client.specs.Passages.{IsCounted, IsRtcpOn, is_dropped}
use Rattle.rtsp_client.specs.Sending.{after_sent, is_over}
use Rattle.rtsp_client.specs.Steps.{is_recording}
use Rattle.rtsp_client.specs.declared.frame_account.FrameFate.{FrameFate}
use Rattle.rtsp_client.specs.declared.frame_account.FrameFate.TheVariants.{Waits, UnknownChannel, BeforeRecording, Unsent}
use Rattle.rtsp_client.specs.declared.passage.Passage.{Passage}
use Rattle.outgoing.specs.Items.{Sends}
use Rattle.outgoing.specs.Queues.{Queue, Takes, Waiting, bytes_waiting, texts, waiting_item}
use Rattle.pull_session.specs.Tries.{Try}
use Rattle.pull_session.specs.Watches.{waiting_since}
use Rattle.pull_session.specs.declared.watch.Watch.{Watch}

-- What is put to the target for a frame: a frame of the same bytes on the target's channel of its track if it goes on, and else nothing.
abbrev pub put_for : FrameFate → (payload : List ℕ) → List Waiting
put_for (Waits channel) payload = waiting_item (Sends (Framed (record { channel = channel; payload = payload }))) ∷ []
put_for UnknownChannel payload = []
put_for BeforeRecording payload = []
put_for Unsent payload = []

-- what a frame can change of a try: the client, what waits for the target, and the times
pub record PassState : Type 0 where
  pub client : State
  pub waiting : Queue
  pub watch : Watch

abbrev pub pass_state : Try → PassState
pass_state session = record { client = session.client; waiting = session.target.waiting; watch = session.watch }

-- The source is heard at this moment by a frame that goes on, and by no other.
abbrev pub heard_by : FrameFate → (now : ℕ) → Watch → Watch
heard_by (Waits channel) now watch = record watch { heard = Some now }
heard_by UnknownChannel now watch = watch
heard_by BeforeRecording now watch = watch
heard_by Unsent now watch = watch

-- A client counts a frame of the source: what becomes of it is said by the channels of the tracks, and it is counted once. If it goes on and
-- is an RTP packet, its track counts it by its number. The channels and the tracks stay.
pub record CountsFrame (frame : Block) (fate : FrameFate) (old : State) (new : Passage) : Type 0 where
  pub is_fate : IsFateOf old.passage.map.source old.passage.map.target frame.channel (is_recording old.place.step) (is_over old) fate
  pub counted : new.account ≡ with_frame old.passage.account fate
  pub packet : is_dropped fate ≡ false → IsCounted old.passage.map.source frame.channel frame.payload old.passage.counts new.counts
  pub rtcp : IsRtcpOn old.passage.map.source frame.channel → new.counts ≡ old.passage.counts
  pub no_packet : (HasFixedHeader frame.payload → ⊥) → new.counts ≡ old.passage.counts
  pub dropped : is_dropped fate ≡ true → new.counts ≡ old.passage.counts
  pub map : new.map ≡ old.passage.map
  pub tracks : new.tracks ≡ old.passage.tracks

-- A frame of the source comes at this moment: it is counted, put and heard as what becomes of it, and nothing else of the client changes.
-- There is memory for at most twice the bytes that wait then, if there wasn't more.
pub record TakesFrame (frame : Block) (now : ℕ) (old new : PassState) : Type 0 where
  pub fate : FrameFate
  pub counts : CountsFrame frame fate old.client new.client.passage
  pub others : new.client ≡ record old.client { passage = new.client.passage }
  pub put : new.waiting.items ≡ old.waiting.items ++ put_for fate frame.payload
  pub begun : new.waiting.begun ≡ old.waiting.begun
  pub room : new.waiting.room ≤ max old.waiting.room (2 * length (texts new.waiting.items))
  pub heard : new.watch ≡ heard_by fate now old.watch

-- A frame comes that goes on, and there is no memory for it: it is counted and heard and not put, and the client ends.
pub record LosesFrame (frame : Block) (now : ℕ) (old new : PassState) : Type 0 where
  pub channel : ℕ
  pub counts : CountsFrame frame (Waits channel) old.client new.client.passage
  pub others : new.client ≡ record old.client { passage = new.client.passage; end = new.client.end }
  pub same : new.waiting ≡ old.waiting
  pub heard : new.watch ≡ heard_by (Waits channel) now old.watch
  pub ends : IsSome new.client.end

-- What becomes of what a source sends: of a frame as above. A message puts nothing to the target, and isn't heard.
abbrev pub TakesUnit : StreamUnit → (now : ℕ) → (old new : PassState) → Type 0
TakesUnit (Frame frame) now old new = TakesFrame frame now old new ⊎ LosesFrame frame now old new
TakesUnit (Message message) now old new = (new.waiting ≡ old.waiting) × (new.watch ≡ old.watch)

-- the same of all that came, in order
abbrev pub TakesUnits : List StreamUnit → (now : ℕ) → (old new : PassState) → Type 0
TakesUnits [] now old new = new ≡ old
TakesUnits (unit ∷ units) now old new = (next : PassState) × TakesUnit unit now old next × TakesUnits units now next new

-- the client ends, and nothing else changes
pub record OnlyEnds (old new : PassState) : Type 0 where
  pub ends : IsSome new.client.end
  pub client : new.client ≡ record old.client { end = new.client.end }
  pub waiting : new.waiting ≡ old.waiting
  pub watch : new.watch ≡ old.watch

-- After the units of a stream nothing more changes. If the stream has a fault, the client can end: after a redirect it doesn't.
abbrev pub EndsByFault : Option Fault → (old new : PassState) → Type 0
EndsByFault None old new = new ≡ old
EndsByFault (Some fault) old new = (new ≡ old) ⊎ OnlyEnds old new

-- These bytes of the source came at this moment: what becomes of its units is as above, and then of a fault of their stream. Of the line to
-- the target only what waits changes, and neither line closes.
pub record Passes (bytes : List ℕ) (now : ℕ) (old new : Try) : Type 0 where
  pub units : List StreamUnit
  pub reads : ReadsOnFrom old.source.reader.peer old.source.reader.state.reading bytes units new.source.reader.state.reading
  pub after : PassState
  pub takes : TakesUnits units now (pass_state old) after
  pub target : new.target ≡ record old.target { waiting = new.target.waiting }
  pub closed : new.source.is_closed ≡ old.source.is_closed
  pub fault : EndsByFault (fault_of new.source.reader.state.reading) after (pass_state new)

-- There is no memory for what came: nothing of it is taken, and the client ends.
pub record StaysUnread (old new : Try) : Type 0 where
  pub source : new.source ≡ old.source
  pub target : new.target ≡ old.target
  pub ends : OnlyEnds (pass_state old) (pass_state new)

-- The target's system took this number of the bytes that waited: the frames whose last byte it took are counted as sent. Since when it has
-- taken none while some wait is as by *waiting_since*.
pub record TakesBytes (count now : ℕ) (old new : Try) : Type 0 where
  pub frames : ℕ
  pub takes : Takes count frames old.target.waiting new.target.waiting
  pub bytes : bytes_waiting new.target.waiting ≡ drop count (bytes_waiting old.target.waiting)
  pub counted : new.client ≡ after_sent frames now old.client
  pub watch : new.watch ≡ record old.watch { taken = waiting_since (nat_lt 0 (length (bytes_waiting new.target.waiting))) (nat_lt 0 count) old.watch.taken now }
  pub others : new.source ≡ old.source

-- only the channels that tracks have at the target change
abbrev pub KeepsPassage : (old new : Passage) → Type 0
KeepsPassage old new = new ≡ record old { map = record old.map { target = new.map.target } }

-- Bytes of the target came: the line to the source and the times stay, and so do the tracks, their channels at the source, and all counts.
pub record ReadsTarget (old new : Try) : Type 0 where
  pub source : new.source ≡ old.source
  pub watch : new.watch ≡ old.watch
  pub passage : KeepsPassage old.client.passage new.client.passage
