-- What a session is counted as.
use Rattle.std.specs.Prelude.{Bool, if◌then◌else◌}
use Rattle.session_state.specs.declared.session.State.{State}
use Rattle.session_state.specs.declared.session.State.TheVariants.{Ready, Playing, Recording}
use Rattle.server_counts.specs.declared.session_role.SessionRole.{SessionRole}
use Rattle.server_counts.specs.declared.session_role.SessionRole.TheVariants.{PublisherReady, PublisherRecording, PlayerReady, PlayerPlaying}

-- the role and state of a session, which is a publisher's or a player's (RFC 2326, A.2)
abbrev pub role_of : (publishes : Bool) → State → SessionRole
role_of publishes Ready = if publishes then PublisherReady else PlayerReady
role_of publishes (Playing seat) = PlayerPlaying
role_of publishes Recording = PublisherRecording
