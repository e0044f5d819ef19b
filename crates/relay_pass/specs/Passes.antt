-- What a pass does: bytes in, bytes out.
use Rattle.std.specs.Prelude.{◌≡◌, ℕ, ◌+◌, Bool, List, [], ◌++◌, Option, length}
use Rattle.rtsp_message.specs.declared.unit.Unit.{Unit as StreamUnit}
use Rattle.rtsp_message.specs.Intakes.{IntakeState, HandsOut}
use Rattle.transport_header.specs.declared.spec.ChannelPair.{ChannelPair}
use Rattle.cursor.specs.Account.{cursor_of, losses, lost, with_answers}
use Rattle.cursor.specs.Player.{ReceivedFrom}
use Rattle.packet_ring.specs.Players.{DoesCalls, SubscriberCall, answers_of}
use Rattle.packet_ring.specs.Views.{Publishing, Subscribing, keep_of, packet_bytes_of}
use Rattle.publisher.specs.Fates.{AreCounted, Handling, published}
use Rattle.player.specs.FramesOut.{WasCut, WentOut, frames_out, skipped_of}
use Rattle.relay_pass.specs.declared.report.PassReport.{PassReport}
use Rattle.relay_pass.specs.declared.report.PassStop.{PassStop}
use Rattle.relay_pass.specs.declared.report.PassStop.TheVariants as stop
use Rattle.relay_pass.specs.declared.report.TakeCounts.{TakeCounts}
use Rattle.relay_pass.specs.Came.{HasEnded, frames_among}
use Rattle.relay_pass.specs.Counts.{counted_takes, counts_of}
use Rattle.relay_pass.specs.Publishes.{MeetFates, frames_of}
use Rattle.relay_pass.specs.Takes.{FellBehind}

-- What came in: the frames among what the intake handed out, each with the fate that it met at the ring, in turn. They
-- are counted by their fates, and the log grew by those that were published.
pub record CameIn {S : Type 0} (of_source : S → Option (List ℕ)) (from : List (Option ChannelPair)) (old new : IntakeState S)
    (publisher publisher' : Publishing) (report : PassReport) : Type 0 where
  pub units : List StreamUnit
  pub hands_out : HandsOut of_source old new units
  pub handlings : List Handling
  pub frames : frames_among units ≡ frames_of handlings
  pub met : MeetFates from handlings publisher publisher'
  pub counts : AreCounted handlings (counts_of report.came)
  pub log : publisher'.log ≡ publisher.log ++ published handlings

-- What was written of the frames of what the seat took: all of them, or those before the frame that was cut.
abbrev pub WasWritten : PassStop → (frames : List (List ℕ)) → TakeCounts → (before after : Option (List ℕ)) → Type 0
WasWritten (stop.Stream end) frames went before after = WentOut frames went.sent went.cut before after
WasWritten stop.WriteFailed frames went before after = WasCut frames went.sent went.cut before after

-- how many packets were taken of which a part was written: the one whose frame was cut, if a write failed
abbrev pub cut_packets : PassStop → ℕ
cut_packets (stop.Stream end) = 0
cut_packets stop.WriteFailed = 1

-- What went out: by these calls, takes with what was learned before and between them, the seat received the log from its
-- cursor on, less exactly its losses. Each loss is of packets that the ring no longer kept. What was written is the frames
-- of what it received.
pub record WentOn (to : List (Option ChannelPair)) (publisher' : Publishing) (seat seat' : Subscribing) (before after : Option (List ℕ)) (report : PassReport) : Type 0 where
  pub calls : List SubscriberCall
  pub does : DoesCalls seat calls seat'
  pub received : ReceivedFrom publisher'.log (cursor_of seat.account) (answers_of calls)
  pub account : seat'.account ≡ with_answers seat.account (answers_of calls)
  pub behind : FellBehind (keep_of publisher'.ring) publisher'.log (losses (cursor_of seat.account) (answers_of calls))
  pub written : WasWritten report.stop (frames_out to (answers_of calls)) report.went before after
  pub skipped : report.went.skipped ≡ skipped_of to (answers_of calls)
  pub lost : report.went.lost ≡ lost (answers_of calls)
  pub adds_up : cursor_of seat'.account ≡ cursor_of seat.account + counted_takes report.went + cut_packets report.stop

-- Why it has stopped. Unless a write failed, the stream has ended, and the seat has taken the whole log.
abbrev pub Stops : {S : Type 0} → (of_source : S → Option (List ℕ)) → (failed : S → Bool) → (new : IntakeState S) → (publisher' : Publishing) → (seat' : Subscribing) → PassStop → Type 0
Stops of_source failed new publisher' seat' (stop.Stream end) = HasEnded of_source failed new end × (cursor_of seat'.account ≡ length publisher'.log)
Stops of_source failed new publisher' seat' stop.WriteFailed = Unit {0}

-- What a pass does. The frames of the stream go to the ring, and what the ring's one seat takes from it goes to the writer,
-- until the stream ends or a write fails.
pub record PassesOn {S : Type 0} (of_source : S → Option (List ℕ)) (failed : S → Bool) (from to : List (Option ChannelPair)) (old new : IntakeState S)
    (publisher publisher' : Publishing) (seat seat' : Subscribing) (before after : Option (List ℕ)) (report : PassReport) : Type 0 where
  pub came : CameIn of_source from old new publisher publisher' report
  pub went : WentOn to publisher' seat seat' before after report
  pub knows : seat'.seen ≡ publisher'.log
  pub stops : Stops of_source failed new publisher' seat' report.stop
  pub ring : publisher'.ring ≡ publisher.ring
  pub seat_ring : seat'.ring ≡ seat.ring

-- The same over a new ring of this size, whose log is empty and whose seat begins at its start.
pub record PassesNew {S : Type 0} (of_source : S → Option (List ℕ)) (failed : S → Bool) (keep packet_bytes : ℕ) (from to : List (Option ChannelPair)) (old new : IntakeState S) (before after : Option (List ℕ)) (report : PassReport) : Type 0 where
  pub publisher : Publishing
  pub publisher' : Publishing
  pub seat : Subscribing
  pub seat' : Subscribing
  pub keeps : keep_of publisher.ring ≡ keep
  pub most : packet_bytes_of publisher.ring ≡ packet_bytes
  pub empty : publisher.log ≡ []
  pub begins : seat.account ≡ record { start = 0; taken = 0; lost = 0 }
  pub passes : PassesOn of_source failed from to old new publisher publisher' seat seat' before after report
