-- What holds a connection's socket.
use Rattle.http_server.specs.Connection.{history}
use Rattle.status_listener.specs.declared.phase.Phase.{Phase}
use Rattle.status_listener.specs.declared.phase.Phase.TheVariants.{Closing}
use Rattle.status_listener.specs.declared.peer.Talk.{Talk}
use Rattle.status_listener.specs.declared.peer.Talk.TheVariants.{Request, Rest}
use Rattle.status_listener.specs.Phase.{phase_at}

-- the phase of a connection that isn't done
abbrev pub phase_of : Talk → Phase
phase_of (Request connection) = phase_at (history connection).state
phase_of (Rest discarded) = Closing
