-- What a seat takes, and what is written of it.
use Rattle.std.specs.Prelude.{◌≡◌, ℕ, ◌+◌, ◌<◌, ◌≤◌, List, Option, All, length}
use Rattle.transport_header.specs.declared.spec.ChannelPair.{ChannelPair}
use Rattle.cursor.specs.declared.packets.Packet.{Packet}
use Rattle.cursor.specs.declared.takes.Delivery.{Delivery}
use Rattle.cursor.specs.Account.{Loss, lost}
use Rattle.cursor.specs.Taps.{Takes}
use Rattle.packet_ring.specs.Calls.{TakesNext}
use Rattle.packet_ring.specs.Views.{Subscribing}
use Rattle.player.specs.FramesOut.{GoesOut, frames_out, skipped_of}
use Rattle.player.specs.declared.report.OutStop.{OutStop}
use Rattle.relay_pass.specs.declared.report.TakeCounts.{TakeCounts}

-- Some takes of the seat, one after another, and what was written of their packets: all of their frames, or those before
-- the frame that was cut. They are counted.
pub record TakesMore (to : List (Option ChannelPair)) (old new : Subscribing) (before after : Option (List ℕ)) (went went' : TakeCounts) (stop : OutStop) : Type 0 where
  pub answers : List Delivery
  pub run : Takes TakesNext old answers new
  pub sent : ℕ
  pub sent_is : went'.sent ≡ went.sent + sent
  pub out : GoesOut stop (frames_out to answers) sent went'.cut before after
  pub skipped : went'.skipped ≡ went.skipped + skipped_of to answers
  pub lost : went'.lost ≡ went.lost + lost answers

-- Each of these losses is of a packet or more, none of which was among the last `keep` of the log any more.
abbrev pub FellBehind : (keep : ℕ) → (log : List Packet) → List Loss → Type 0
FellBehind keep log losses = All (λ (l : Loss). (0 < l.count) × (l.first + l.count + keep ≤ length log)) losses
