-- What a connection knows of its session.
use Rattle.std.specs.Prelude.{◌≡◌, ◌↔◌, Option, None, Some, IsTrue}
use Rattle.session_state.specs.declared.session.Session.{Session}
use Rattle.session_state.specs.declared.session.State.TheVariants.{Recording}
use Rattle.relay_connection.specs.declared.session_snapshot.SessionSnapshot.{SessionSnapshot}

-- it is of this session: of its mount, whether it records, and its channels; or there is none
abbrev pub IsSnapshotOf : Option Session → Option SessionSnapshot → Type 0
IsSnapshotOf None None = Unit {0}
IsSnapshotOf None (Some snapshot) = ⊥
IsSnapshotOf (Some session) None = ⊥
IsSnapshotOf (Some session) (Some snapshot) = (snapshot.mount ≡ session.mount) × (IsTrue snapshot.is_recording ↔ (session.state ≡ Recording)) × (snapshot.channels ≡ session.channels)
