-- What a URI names of a connection's session is one thing.
use Rattle.std.proofs.Common.{◌≡◌, ◌≢◌, ℕ, zero, suc, ◌<◌, ◌==◌, ◌∷◌, true, false, List, [], Option, None, Some, IsSome, IfSome, IfNone, unwrap_or, inl, inr, length, refl, sym, ap, subst, ◌∙◌, arith}
use Rattle.std.specs.Option.{option_copied}
use Rattle.std.proofs.lemmas.Bool.{eq-eqb}
use Rattle.sdp.specs.declared.track.Track.{Track}
use Rattle.sdp.specs.Written.{track_control}
use Rattle.transport_header.specs.declared.spec.ChannelPair.{ChannelPair}
use Rattle.transport_header.specs.Tracks.{pair_at}
use Rattle.mounts.specs.declared.mount.Mount.{Mount}
use Rattle.mounts.specs.declared.target.Target.{Target}
use Rattle.mounts.specs.declared.uri.Uri.TheVariants.{At}
use Rattle.mounts.specs.Mounts.{numbered}
use Rattle.mounts.specs.Names.{GoesOn}
use Rattle.mounts.specs.Tracks.{IsNamedBy, IsNamedByOwner}
use Rattle.mounts.specs.Uri.{IsUri}
use Rattle.mounts.proofs.Controls.{control_injective}
use Rattle.mounts.proofs.Firsts.{found_all}
use Rattle.mounts.proofs.OneAnswer.{one_rest, one_track}
use Rattle.session_state.specs.declared.checks.asking.Asking.{Asking}
use Rattle.session_state.specs.declared.method.Method.{Method}
use Rattle.session_state.specs.declared.method.Method.TheVariants.{Options, Describe, Announce, Setup, Play, Pause, Record, Teardown, GetParameter}
use Rattle.session_state.specs.declared.session.Session.{Session}
use Rattle.session_state.specs.Asking.{IsToldBy, asked_in, is_in_session}
use Rattle.session_state.specs.Checks.{Asked, NamesInSession, NamesOfSession, NamesSome}
use Rattle.session_state.specs.History.{History}
use Rattle.session_state.specs.Streams.{IsLiveMount}
use Rattle.session_state.proofs.CheckedNames.{one_behind, same_some, same_target}

-- a track that is set up has a place
pub pair_within : (channels : List (Option ChannelPair)) (track : ℕ) → IsSome (pair_at channels track) → track < length channels
pair_within [] track h = absurd (cc)
pair_within (x ∷ xs) zero h = omega arith
pair_within (x ∷ xs) (suc track) h = let rest = pair_within xs track h in omega (arith, rest)

-- what was read as a track's number, or the first number past the last track
number_alone : (channels : List (Option ChannelPair)) (rest : List ℕ) (read : Option ℕ) (other : ℕ) → length channels ≡ 16 → IfSome read (λ n. n < 16) → IfSome read (λ n. rest ≡ track_control n)
    → IfNone read ((n : ℕ) → n < 16 → rest ≢ track_control n) → rest ≡ track_control other → IsSome (pair_at channels other) → other ≡ unwrap_or read 16
number_alone channels rest None other len below some none e set_up = let low = pair_within channels other set_up in absurd (none other (omega (arith, low, len)) e)
number_alone channels rest (Some n) other len below some none e set_up =
    let low = pair_within channels other set_up in
    control_injective other n (omega (arith, low, len)) (omega (arith, below)) (sym e ∙ some)

number_named : (channels : List (Option ChannelPair)) (rest : List ℕ) (read : Option ℕ) → length channels ≡ 16 → IfSome read (λ n. rest ≡ track_control n) → IsSome (pair_at channels (unwrap_or read 16))
    → rest ≡ track_control (unwrap_or read 16)
number_named channels rest None len some set_up = let low = pair_within channels 16 set_up in absurd (omega (arith, low, len))
number_named channels rest (Some n) len some set_up = some

-- the track of a playing session
pub played_alone : (asked : Asked) (session : Session) (target : Target) (rest : List ℕ) (read : Option ℕ) (other : ℕ) → session.recording ≡ false → GoesOn target.path session.name (Some rest)
    → length session.channels ≡ 16 → IfSome read (λ n. n < 16) → IfSome read (λ n. rest ≡ track_control n) → IfNone read ((n : ℕ) → n < 16 → rest ≢ track_control n)
    → NamesOfSession asked session target (Some other) → other ≡ unwrap_or read 16
played_alone asked session target rest read other playing on len below some none (text, goes, inl named, set_up) = let recording = named.0 in absurd (cc)
played_alone asked session target rest read other playing on len below some none (text, goes, inr named, set_up) =
    number_alone session.channels rest read other len below some none (one_rest target.path session.name rest text on goes ∙ named.1) set_up

pub played_named : (asked : Asked) (session : Session) (target : Target) (rest : List ℕ) (read : Option ℕ) → session.recording ≡ false → GoesOn target.path session.name (Some rest)
    → length session.channels ≡ 16 → IfSome read (λ n. rest ≡ track_control n) → IsSome (pair_at session.channels (unwrap_or read 16)) → NamesOfSession asked session target (Some (unwrap_or read 16))
played_named asked session target rest read playing on len some set_up = (rest, on, inr (playing, number_named session.channels rest read len some set_up), set_up)

-- the track of a recording session
by_owner : (owner : ℕ) (target : Target) (rest : List ℕ) (tracks : List Track) (track : ℕ) → IsNamedBy (owner == owner) target rest tracks track → IsNamedByOwner target rest tracks track
by_owner owner target rest tracks track h = subst (λ b. IsNamedBy b target rest tracks track) (eq-eqb owner owner refl) h

to_owner : (owner : ℕ) (target : Target) (rest : List ℕ) (tracks : List Track) (track : ℕ) → IsNamedByOwner target rest tracks track → IsNamedBy (owner == owner) target rest tracks track
to_owner owner target rest tracks track h = subst (λ b. IsNamedBy b target rest tracks track) (sym (eq-eqb owner owner refl)) h

pub recorded_by : (asking : Asking) (history : History) (session : Session) (target : Target) (rest : List ℕ) (mount : Mount) (other : ℕ) → IsToldBy history asking
    → option_copied asking.session ≡ Some session → session.recording ≡ true → numbered session.mount asking.mounts.now.mounts ≡ Some mount → GoesOn target.path mount.name (Some rest)
    → NamesOfSession (asked_in asking history) session target (Some other) → IsNamedBy (mount.owner == mount.owner) target rest mount.description.tracks other
recorded_by asking history session target rest mount other told has recording at on (text, goes, inr named, set_up) = let playing = named.0 in absurd (cc)
recorded_by asking history session target rest mount other told has recording at on (text, goes, inl (records, m, there, named), set_up) =
    let same : m ≡ mount = same_some m mount (numbered session.mount asking.mounts.now.mounts) there at in
    let goes_on : GoesOn target.path mount.name (Some text) = subst (λ name. GoesOn target.path name (Some text)) (sym (told.names session mount has at)) goes in
    to_owner mount.owner target rest mount.description.tracks other
    (subst (λ r. IsNamedByOwner target r mount.description.tracks other) (one_rest target.path mount.name text rest goes_on on)
    (subst (λ (x : Mount). IsNamedByOwner target text x.description.tracks other) same named))

pub recorded_alone : (asking : Asking) (history : History) (session : Session) (target : Target) (rest : List ℕ) (mount : Mount) (track other : ℕ) → IsToldBy history asking
    → option_copied asking.session ≡ Some session → session.recording ≡ true → numbered session.mount asking.mounts.now.mounts ≡ Some mount → GoesOn target.path mount.name (Some rest)
    → IsNamedBy (mount.owner == mount.owner) target rest mount.description.tracks track → NamesOfSession (asked_in asking history) session target (Some other) → other ≡ track
recorded_alone asking history session target rest mount track other told has recording at on is h =
    let few = (found_all (IsLiveMount asking.mounts.now.seats history) (λ (m : Mount). m.number == session.mount) asking.mounts.now.mounts mount told.mounts.each at).announced.body.good.few in
    one_track mount mount.owner target other track few
    (record { rest = rest; behind = on; named = recorded_by asking history session target rest mount other told has recording at on h }) (record { rest = rest; behind = on; named = is })

pub recorded_named : (asking : Asking) (history : History) (session : Session) (target : Target) (rest : List ℕ) (mount : Mount) (track : ℕ) → IsToldBy history asking
    → option_copied asking.session ≡ Some session → session.recording ≡ true → numbered session.mount asking.mounts.now.mounts ≡ Some mount → GoesOn target.path mount.name (Some rest)
    → IsNamedBy (mount.owner == mount.owner) target rest mount.description.tracks track → IsSome (pair_at session.channels track) → NamesOfSession (asked_in asking history) session target (Some track)
recorded_named asking history session target rest mount track told has recording at on is set_up = (
  rest,
  subst (λ name. GoesOn target.path name (Some rest)) (told.names session mount has at) on,
  inl (recording, mount, at, by_owner mount.owner target rest mount.description.tracks track is),
  set_up,
)

-- a path that is the session's name goes on after it with no track
pub only_mount : (asked : Asked) (session : Session) (target : Target) → target.path ≡ session.name → (other : Option ℕ) → NamesOfSession asked session target other → other ≡ None
only_mount asked session target is None h = refl
only_mount asked session target is (Some track) h = let no = one_behind target.path session.name None (Some h.0) is h.1 in absurd (cc)

pub only_track : (asked : Asked) (session : Session) (target : Target) (track : ℕ) → NamesOfSession asked session target (Some track)
    → ((other : ℕ) → NamesOfSession asked session target (Some other) → other ≡ track) → (other : Option ℕ) → NamesOfSession asked session target other → other ≡ Some track
only_track asked session target track named alone None h = let no = one_behind target.path session.name None (Some named.0) h named.1 in absurd (cc)
only_track asked session target track named alone (Some other) h = ap Some (alone other h)

pub nothing_of : (asked : Asked) (session : Session) (target : Target) → (target.path ≡ session.name → ⊥) → ((other : ℕ) → NamesOfSession asked session target (Some other) → ⊥)
    → (other : Option ℕ) → NamesOfSession asked session target other → ⊥
nothing_of asked session target differs none None h = differs h
nothing_of asked session target differs none (Some other) h = none other h

-- nothing is named where nothing of the connection's session is
not_in_session : (asked : Asked) (session s : Session) (target t : Target) (track : Option ℕ) → asked.session ≡ Some session → IsUri asked.request.uri (At target)
    → ((other : Option ℕ) → NamesOfSession asked session target other → ⊥) → NamesInSession asked s t track → ⊥
not_in_session asked session s target t track has uri none h =
    none track (subst (λ (x : Target). NamesOfSession asked session x track) (same_target asked.request.uri t target h.uri uri)
    (subst (λ (x : Session). NamesOfSession asked x t track) (same_some s session asked.session h.has has) h.names))

pub none_in_session : (asked : Asked) (method : Method) (session : Session) (target : Target) → is_in_session method ≡ true → asked.session ≡ Some session → IsUri asked.request.uri (At target)
    → ((other : Option ℕ) → NamesOfSession asked session target other → ⊥) → NamesSome asked method → ⊥
none_in_session asked Play session target is has uri none h = not_in_session asked session h.0 target h.1 h.2 has uri none h.3
none_in_session asked Record session target is has uri none h = not_in_session asked session h.0 target h.1 h.2 has uri none h.3
none_in_session asked Pause session target is has uri none h = not_in_session asked session h.0 target h.1 h.2 has uri none h.3
none_in_session asked Teardown session target is has uri none h = not_in_session asked session h.0 target h.1 h.2 has uri none h.3
none_in_session asked Options session target is has uri none h = absurd (cc)
none_in_session asked Describe session target is has uri none h = absurd (cc)
none_in_session asked Announce session target is has uri none h = absurd (cc)
none_in_session asked Setup session target is has uri none h = absurd (cc)
none_in_session asked GetParameter session target is has uri none h = absurd (cc)
