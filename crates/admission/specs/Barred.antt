-- What is refused by the network of a peer.
use Rattle.std.specs.Prelude.{Bool, true, false, Option, None, Some}
use Rattle.rtsp_message.specs.declared.status.Status.{Status}
use Rattle.rtsp_message.specs.declared.status.Status.TheVariants.{Forbidden}
use Rattle.session_state.specs.declared.method.Method.{Method}
use Rattle.session_state.specs.declared.method.Method.TheVariants.{Announce, Describe, Setup}

-- An ANNOUNCE is forbidden where nothing may be published; a DESCRIBE, and a SETUP by a connection that owns no mount that lives,
-- where nothing may be played (RFC 2326, 11: 403). Nothing else is.
abbrev pub barred : (may_publish may_play : Bool) → Method → (has_mount : Bool) → Option Status
barred false may_play Announce has_mount = Some Forbidden
barred may_publish false Describe has_mount = Some Forbidden
barred may_publish false Setup false = Some Forbidden
barred may_publish may_play method has_mount = None
