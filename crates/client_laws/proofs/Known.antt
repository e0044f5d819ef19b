-- What a client's phase tells of the session that its next request is looked up with.
use Rattle.std.proofs.Common.{◌≡◌, ℕ, List, ◌∷◌, is_some, Option, Some, ap, sym, subst, ◌∙◌}
use Rattle.std.proofs.lemmas.Bool.{eq-eqb}
use Rattle.transport_header.specs.Session.{identifier_text}
use Rattle.mounts.specs.declared.mount.Mount.{Mount}
use Rattle.session_state.specs.declared.session.Session.{Session}
use Rattle.session_state.specs.declared.session.State.{State}
use Rattle.session_state.specs.Checks.{LooksUp}
use Rattle.session_state.specs.History.{History, Moment}
use Rattle.session_state.specs.Lookups.{IsSession, SetUpAt, sessions_begun, word_of}
use Rattle.request_text.specs.declared.request_text.RequestText.{RequestText}
use Rattle.client_laws.specs.Phases.{IsInSession, IsToldSession}
use Rattle.client_laws.specs.Publishing.{Publication}
use Rattle.client_laws.proofs.Accepting.{some_kept}
use Rattle.client_laws.proofs.Named.{IsKnown, asked_for}

-- each session that the history tells of is the client's
pub session_is : (seats conn : ℕ) (publication : Publication) (history : History) (told : Option (List ℕ)) (state : State) (session : Session) → (phase : IsInSession seats conn publication told state history)
    → IsSession seats conn history session → IsToldSession publication phase.owns.number told state session
session_is seats conn publication history told state session phase is =
    let first = is.first in
    let known = phase.first in
    let same : is.begin ≡ phase.begin = cc in
    let of = phase.of_mount is.mount is.track (subst (SetUpAt seats conn is.mount is.track) same is.set_up) in
    let here = is.state in
    let there = phase.state_is in
    let word : Some phase.word ≡ Some session.word = sym phase.word_is ∙ ap (λ (m : Moment). word_of m.entry) (sym same) ∙ is.word in
    let word_same : phase.word ≡ session.word = cc in
    let number_same : sessions_begun (phase.begin.entry ∷ phase.begin.before) ≡ session.number = ap (λ (m : Moment). sessions_begun (m.entry ∷ m.before)) (sym same) ∙ sym is.number in
    record {
      mount_is = is.mount_is ∙ of.number_is;
      name_is = is.name_is ∙ of.name_is;
      recording_is = is.recording ∙ eq-eqb is.mount.owner conn of.owner_is;
      state_is = cc;
      told_is = phase.told_is ∙ ap (λ n. Some (identifier_text n phase.word)) number_same ∙ ap (λ w. Some (identifier_text session.number w)) word_same;
    }

pub known_of : (seats conn : ℕ) (publication : Publication) (history : History) (request : RequestText) (mounts : List Mount) (session : Option Session) (told : Option (List ℕ)) (state : State)
    → LooksUp (asked_for seats conn history request mounts session) → (phase : IsInSession seats conn publication told state history)
    → IsKnown (asked_for seats conn history request mounts session) publication phase.owns.number told state
known_of seats conn publication history request mounts session told state looks phase =
    let some = some_kept seats conn history session looks.session (ap is_some phase.first) in
    let is = session_is seats conn publication history told state some.0 phase some.2 in
    record { session = some.0; has = some.1; mount_is = is.mount_is; name_is = is.name_is; recording_is = is.recording_is; state_is = is.state_is; told_is = is.told_is }
