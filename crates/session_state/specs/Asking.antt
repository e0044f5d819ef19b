-- What the checks of a request tell, one after another.
use Rattle.std.specs.Prelude.{◌≡◌, ℕ, ◌+◌, ◌==◌, ◌↔◌, Bool, true, false, List, length, Option, None, Some, codes, ◌-◌, ◌^◌, ◌<◌, ◌∷◌, ◌⊎◌, IsSome}
use Rattle.std.specs.Option.{option_copied}
use Rattle.rtsp_message.specs.Headers.{value_of}
use Rattle.sdp.specs.declared.fault.SdpFault.{SdpFault}
use Rattle.sdp.specs.declared.fault.SdpFault.TheVariants.{TooManyTracks}
use Rattle.sdp.specs.declared.fault.SdpFault.TheVariants as faults
use Rattle.transport_header.specs.declared.spec.Spec.{Spec}
use Rattle.transport_header.specs.declared.spec.Mode.TheVariants as modes
use Rattle.transport_header.specs.Chosen.{IsFirstAcceptable}
use Rattle.transport_header.specs.Transport.{specs_of}
use Rattle.mounts.specs.declared.mount.Mount.{Mount}
use Rattle.mounts.specs.declared.target.Target.{Target}
use Rattle.mounts.specs.Mounts.{numbered}
use Rattle.mounts.specs.Tracks.{IsNamedBy}
use Rattle.session_state.specs.declared.checks.asking.Asking.{Asking}
use Rattle.session_state.specs.declared.checks.Check.{Check}
use Rattle.session_state.specs.declared.checks.Check.TheVariants.{HasFewTracks, IsDescription, RequiresNothing, HasUri, HasItsSession, NamesAStream, FitsState}
use Rattle.session_state.specs.declared.method.Method.{Method}
use Rattle.session_state.specs.declared.method.Method.TheVariants.{Play, Record, Pause, Teardown}
use Rattle.session_state.specs.declared.checks.refusal.Refusal.{Refusal}
use Rattle.session_state.specs.declared.checks.refusal.Refusal.TheVariants.{Fails, OutOfMemory}
use Rattle.session_state.specs.declared.session.Session.{Session}
use Rattle.session_state.specs.declared.checks.setup.Delivery.{Delivery}
use Rattle.session_state.specs.Judged.{Finds, HasPlaceFor, IsFine, method_in}
use Rattle.session_state.specs.declared.checks.accepted.Accepted.{Accepted}
use Rattle.session_state.specs.declared.checks.accepted.Accepted.TheVariants as found
use Rattle.session_state.specs.Methods.{is_announce}
use Rattle.session_state.specs.History.{History, accepts, how_many}
use Rattle.session_state.specs.Lookups.{sessions_begun}
use Rattle.session_state.specs.Streams.{AreLive}
use Rattle.session_state.specs.Checks.{Asked, FailsFirst, NamesForSetup, NamesInSession, NamesOfSession, PassesAll, own_checks}

-- what is asked after a history
abbrev pub asked_in : Asking → History → Asked
asked_in asking history = record {
  seats = asking.mounts.now.seats;
  history = history;
  conn = asking.conn;
  request = asking.request.now;
  mounts = asking.mounts.now.mounts;
  session = option_copied asking.session;
}

-- The history tells what is known for a request.
pub record IsToldBy (history : History) (asking : Asking) : Type 0 where
  pub mounts : AreLive asking.mounts.now.seats history asking.mounts.now.mounts
  pub next : asking.mounts.now.next ≡ how_many (accepts is_announce) history + 1
  pub begun : asking.begun ≡ sessions_begun history
  pub names : (session : Session) (mount : Mount) → option_copied asking.session ≡ Some session → numbered session.mount asking.mounts.now.mounts ≡ Some mount → mount.name ≡ session.name

-- a request passes these checks, whatever history tells what is known for it
abbrev pub IsPassing : Asking → List Check → Type 0
IsPassing asking checks = (history : History) → IsToldBy history asking → PassesAll (asked_in asking history) checks

-- a request is refused by these checks, whatever history tells what is known for it; memory may run out at any
abbrev pub IsRefusedAt : Asking → List Check → Refusal → Type 0
IsRefusedAt asking checks (Fails check) = (history : History) → IsToldBy history asking → FailsFirst (asked_in asking history) checks check
IsRefusedAt asking checks OutOfMemory = Unit {0}

-- the track that stands after a mount's name in a path, if anything does
abbrev pub IsTrackBehind : (conn : ℕ) → Target → Mount → (rest : Option (List ℕ)) → (track : Option ℕ) → Type 0
IsTrackBehind conn target mount None track = track ≡ None
IsTrackBehind conn target mount (Some rest) None = ⊥
IsTrackBehind conn target mount (Some rest) (Some track) = IsNamedBy (mount.owner == conn) target rest mount.description.tracks track

-- The URI of a SETUP names this mount, and this track of it, if it names one.
pub record IsNamedForSetup (asking : Asking) (target : Target) (mount : Mount) (track : Option ℕ) : Type 0 where
  pub rest : Option (List ℕ)
  pub names : (history : History) → NamesForSetup (asked_in asking history) target mount rest
  pub track_is : IsTrackBehind asking.conn target mount rest track

-- the track of a session that a URI names, whatever history tells what is known: this one and no other, or none
abbrev pub IsTrackNamed : Asking → Session → Target → (track : Option ℕ) → Type 0
IsTrackNamed asking session target None =
    (history : History) → IsToldBy history asking → (other : ℕ) → NamesOfSession (asked_in asking history) session target (Some other) → ⊥
IsTrackNamed asking session target (Some track) =
    (history : History) → IsToldBy history asking → NamesOfSession (asked_in asking history) session target (Some track)
    × ((other : ℕ) → NamesOfSession (asked_in asking history) session target (Some other) → other ≡ track)

-- The URI names this of the connection's session: its mount, or this track that it has set up, and nothing else.
pub record IsNamedInSession (asking : Asking) (target : Target) (session : Session) (track : Option ℕ) : Type 0 where
  pub has : option_copied asking.session ≡ Some session
  pub names : (history : History) → IsToldBy history asking → NamesInSession (asked_in asking history) session target track
  pub only : (history : History) → IsToldBy history asking → (other : Option ℕ) → NamesOfSession (asked_in asking history) session target other → other ≡ track

-- the methods that are about the connection's session, and those of them that need its mount to live
abbrev pub is_in_session : Method → Bool
is_in_session Play = true
is_in_session Record = true
is_in_session Pause = true
is_in_session Teardown = true
is_in_session method = false

abbrev pub needs_mount : Method → Bool
needs_mount Play = true
needs_mount Record = true
needs_mount method = false

-- how a body is refused that is no description, for its fault
abbrev pub refusal_for : SdpFault → Refusal
refusal_for TooManyTracks = Fails HasFewTracks
refusal_for faults.OutOfMemory = OutOfMemory
refusal_for fault = Fails IsDescription

-- the track that is set up: the one that is named, or, where none is, the only one that there is
abbrev pub IsTheTrack : Mount → (named : Option ℕ) → (track : ℕ) → Type 0
IsTheTrack mount None track = (length mount.description.tracks ≡ 1) × (track ≡ 0)
IsTheTrack mount (Some named) track = track ≡ named

-- What the Transport field asks for: its specs, the first acceptable one, and whether that asks to record.
pub record IsDelivery (asking : Asking) (delivery : Delivery) : Type 0 where
  pub text : List ℕ
  pub field_is : value_of asking.request.now.headers (codes "Transport") ≡ Some text
  pub specs_are : delivery.specs ≡ specs_of text
  pub spec : Spec
  pub first : IsFirstAcceptable delivery.specs spec
  pub records : delivery.recording ≡ true ↔ (spec.mode ≡ modes.Record)

-- the checks of a request whose method is known, after those that find the method
abbrev pub later_checks : Method → List Check
later_checks method = RequiresNothing ∷ HasUri method ∷ HasItsSession method ∷ NamesAStream method ∷ FitsState method ∷ own_checks method

-- what was found is there
abbrev pub IsThereFor : Asking → Accepted → Type 0
IsThereFor asking (found.Describe target number) = IsSome (numbered number asking.mounts.now.mounts)
IsThereFor asking (found.Announce target description) = HasPlaceFor asking.mounts.now asking.conn target.path
IsThereFor asking (found.Setup number track specs) =
    IsSome (numbered number asking.mounts.now.mounts) × (track < 16) × ((spec : Spec) × IsFirstAcceptable specs spec) × (IsSome (option_copied asking.session) ⊎ (asking.begun < 2 ^ 32 - 1))
IsThereFor asking (found.Play target track) = IsSome (option_copied asking.session)
IsThereFor asking accepted = Unit {0}

-- A request of a method passes its checks, and this was found out.
pub record IsAcceptedAs (asking : Asking) (method : Method) (accepted : Accepted) : Type 0 where
  pub method_is : method_in accepted ≡ method
  pub passes : IsPassing asking (later_checks method)
  pub finds : (history : History) → IsToldBy history asking → Finds (asked_in asking history) accepted
  pub there : IsThereFor asking accepted

-- A request passes all its checks, and this was found out.
pub record IsChecked (asking : Asking) (accepted : Accepted) : Type 0 where
  pub fine : (history : History) → IsToldBy history asking → IsFine (asked_in asking history) accepted
  pub there : IsThereFor asking accepted
