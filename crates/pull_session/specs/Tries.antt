-- A try of a pull: what decides in it, and what waits to be written.
use Rattle.std.specs.Prelude.{ℕ, List, [], false}
use Rattle.rtsp_message.specs.ReaderStates.{nothing_fed}
use Rattle.rtsp_message.specs.declared.peer.Peer.TheVariants.{Server}
use Rattle.rtsp_client.specs.Clients.{State}
use Rattle.rtsp_client.specs.declared.asked.Side.{Side}
use Rattle.rtsp_client.specs.declared.asked.Side.TheVariants.{Source, Target}
use Rattle.pull_session.specs.declared.line.Line.{Line}
use Rattle.pull_session.specs.declared.watch.Watch.{Watch}

-- a try at a moment
pub record Try : Type 0 where
  pub client : State
  -- the URI of the target's mount
  pub mount : List ℕ
  pub source : Line
  pub target : Line
  pub watch : Watch

abbrev pub line_of : Side → Try → Line
line_of Source session = session.source
line_of Target session = session.target

-- nothing came on a connection, and nothing waits
abbrev pub new_line : Line
new_line = record {
  reader = record { peer = Server; state = nothing_fed };
  waiting = record { items = []; begun = 0; room = 0; free = [] };
  is_closed = false;
}
