-- What a change makes of the tables, and what the connection then has to do.
use Rattle.std.specs.Prelude.{◌≡◌, ℕ, ◌+◌, false, None, Some}
use Rattle.std.specs.Option.{option_map}
use Rattle.mounts.specs.Mounts.{IsSeat, announced, owned_by}
use Rattle.session_state.specs.declared.act.Act.{Act}
use Rattle.session_state.specs.declared.act.Act.TheVariants as acts
use Rattle.session_state.specs.declared.world.change.Change.{Change}
use Rattle.session_state.specs.declared.world.change.Change.TheVariants as changes
use Rattle.session_state.specs.declared.session.Session.{Session}
use Rattle.session_state.specs.declared.session.State.TheVariants.{Ready, Recording}
use Rattle.session_state.specs.Checks.{state_in}
use Rattle.session_state.specs.Replies.{pause_act, record_act, teardown_act}
use Rattle.session_state.specs.Stands.{ChangesSession, Tables, TakesSeat, in_state, session_kept, with_channels, without_owned}

abbrev pub IsApplied : (conn : ℕ) → Change → (old : Tables) → Act → (new : Tables) → Type 0
IsApplied conn changes.Nothing old act new = (act ≡ acts.None) × (new ≡ old)
IsApplied conn (changes.Announce name description) old act new = (act ≡ acts.Open) × (new ≡ record old { mounts = announced old.mounts conn name description })
IsApplied conn (changes.Begin session) old act new = (act ≡ acts.None) × ChangesSession conn (λ _. Some session) (record old { begun = old.begun + 1 }) new
IsApplied conn (changes.SetUp track pair) old act new = (act ≡ acts.None) × ChangesSession conn (option_map (with_channels track pair)) old new
IsApplied conn changes.Play old act new =
    (session : Session) (seat : ℕ) → session_kept old conn ≡ Some session → IsSeat old.mounts session.mount seat false → TakesSeat conn session old act new
IsApplied conn changes.Record old act new = (act ≡ record_act (state_in (session_kept old conn))) × ChangesSession conn (option_map (in_state Recording)) old new
IsApplied conn changes.Pause old act new = (act ≡ pause_act (session_kept old conn)) × ChangesSession conn (option_map (in_state Ready)) old new
IsApplied conn changes.Teardown old act new =
    (act ≡ teardown_act (session_kept old conn)) × ChangesSession conn (λ _. None) (record old { mounts = without_owned (owned_by conn old.mounts.mounts) old.mounts }) new
