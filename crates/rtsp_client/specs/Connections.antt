-- One of the two connections of a client.
use Rattle.std.specs.Prelude.{ℕ, List, Bool, Option, Some, None, Result, Ok, Err, option_map}
use Rattle.rtsp_client.specs.Keepalives.{by_options, of_source, of_target, sent_at}
use Rattle.rtsp_client.specs.Requests.{asked_now, none_asked}
use Rattle.rtsp_client.specs.declared.asked.Asked.{Asked}
use Rattle.rtsp_client.specs.declared.asked.Side.{Side}
use Rattle.rtsp_client.specs.declared.asked.Side.TheVariants.{Source, Target}
use Rattle.rtsp_client.specs.declared.connection.Connection.{Connection}
use Rattle.rtsp_client.specs.declared.keepalive.Keepalive.{Keepalive}
use Rattle.rtsp_client.specs.declared.opened.Opened.{Opened}
use Rattle.rtsp_client.specs.declared.opened.SessionFault.{SessionFault}
use Rattle.rtsp_client.specs.declared.requests.Requests.{Requests}

abbrev pub new_connection : Connection
new_connection = record { requests = none_asked; session = None; keepalive = None }

abbrev pub with_requests : Connection → Requests → Connection
with_requests connection requests = record connection { requests = requests }

-- the session is over
abbrev pub closed : Connection → Connection
closed connection = record connection { session = None; keepalive = None }

-- something is sent that keeps the session alive
abbrev pub with_sent : Connection → (now : ℕ) → Connection
with_sent connection now = record connection { keepalive = option_map (sent_at now) connection.keepalive }

-- a request is sent
abbrev pub asked_on : Connection → Asked → (now : ℕ) → Connection
asked_on connection asked now =
    record connection { requests = asked_now connection.requests asked now; keepalive = option_map (sent_at now) connection.keepalive }

-- from now on OPTIONS keeps the session alive
abbrev pub kept_by_options : Connection → Connection
kept_by_options connection = record connection { keepalive = option_map by_options connection.keepalive }

-- when a new session of a side is kept alive
abbrev pub kept_as : Side → (timeout : Option ℕ) → (has_get_parameter : Bool) → (now : ℕ) → Keepalive
kept_as Source timeout has now = of_source timeout has now
kept_as Target timeout has now = of_target timeout now

-- why no session is open after a reply to SETUP: the first one opens it
abbrev pub open_fault : (open_already : Option (List ℕ)) → Result Opened SessionFault → Option SessionFault
open_fault (Some id) session = None
open_fault None (Ok opened) = None
open_fault None (Err fault) = Some fault

abbrev pub opened_on : (open_already : Option (List ℕ)) → Result Opened SessionFault → Side → (has_get_parameter : Bool) → (now : ℕ) → Connection → Connection
opened_on (Some id) session side has now connection = connection
opened_on None (Ok opened) side has now connection =
    record connection { session = Some opened.id; keepalive = Some (kept_as side opened.timeout has now) }
opened_on None (Err fault) side has now connection = connection
