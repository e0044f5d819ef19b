-- The phases of a connection.
use Rattle.std.specs.Prelude.{Bool, true, false}
use Rattle.http_server.specs.declared.state.State.{State}
use Rattle.http_server.specs.declared.state.State.TheVariants as states
use Rattle.status_listener.specs.declared.phase.Phase.{Phase}
use Rattle.status_listener.specs.declared.phase.Phase.TheVariants.{Asking, Answering, Closing}

-- the whole request isn't there yet
abbrev pub is_asking : Phase → Bool
is_asking Asking = true
is_asking Answering = false
is_asking Closing = false

-- the answer is written
abbrev pub is_closing : Phase → Bool
is_closing Asking = false
is_closing Answering = false
is_closing Closing = true

-- the phase of a connection that isn't done: `http_server` calls it open until its whole request is there
abbrev pub phase_at : State → Phase
phase_at states.Open = Asking
phase_at _ = Answering
