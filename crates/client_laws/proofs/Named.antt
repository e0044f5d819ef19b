-- How a client's request is read and looked up by a server.
use Rattle.std.proofs.Common.{◌≡◌, ℕ, true, List, Option, Some, refl, ap, ◌∙◌}
use Rattle.mounts.specs.declared.mount.Mount.{Mount}
use Rattle.session_state.specs.declared.method.Method.{Method}
use Rattle.session_state.specs.declared.method.Method.TheVariants as methods
use Rattle.session_state.specs.declared.session.Session.{Session}
use Rattle.session_state.specs.declared.session.State.{State}
use Rattle.session_state.specs.Checks.{Asked}
use Rattle.session_state.specs.History.{History}
use Rattle.session_state.specs.Methods.{method_of}
use Rattle.session_state.specs.Replies.{identifier_of}
use Rattle.request_text.specs.declared.asked.Asked as kinds
use Rattle.request_text.specs.declared.asked.Asked.TheVariants as asks
use Rattle.request_text.specs.declared.request_text.RequestText.{RequestText}
use Rattle.request_text.specs.Methods.{method_of as method_asked, name_of}
use Rattle.request_text.specs.Texts.{request_of}
use Rattle.client_laws.specs.Publishing.{AsksAnnounce, AsksOptions, AsksRecord, AsksSetup, AsksTeardown, Publication}

-- the method of a request, as the server reads it
pub method_is : (request : RequestText) (kind : kinds.Asked) (method : Method) → request.asked ≡ kind → method_of (name_of (method_asked kind)) ≡ Some method
    → method_of (request_of request).method ≡ Some method
method_is request kind method is named = ap (λ (a : kinds.Asked). method_of (name_of (method_asked a))) is ∙ named

pub announce_named : (request : RequestText) (publication : Publication) → AsksAnnounce publication request → method_of (request_of request).method ≡ Some methods.Announce
unfolding method_of
announce_named request publication (body, is, asks_so) = method_is request (asks.Announce body) methods.Announce asks_so.kind_is refl

pub setup_named : (request : RequestText) (publication : Publication) (track : ℕ) (told : Option (List ℕ)) → AsksSetup publication track told request → method_of (request_of request).method ≡ Some methods.Setup
unfolding method_of
setup_named request publication track told (transport, is, asks_so) = method_is request (asks.Setup transport) methods.Setup asks_so.kind_is refl

pub record_named : (request : RequestText) (publication : Publication) (told : Option (List ℕ)) → AsksRecord publication told request → method_of (request_of request).method ≡ Some methods.Record
unfolding method_of
record_named request publication told asks_so = method_is request asks.Record methods.Record asks_so.kind_is refl

pub options_named : (request : RequestText) (publication : Publication) (told : Option (List ℕ)) → AsksOptions publication told request → method_of (request_of request).method ≡ Some methods.Options
unfolding method_of
options_named request publication told asks_so = method_is request asks.Options methods.Options asks_so.kind_is refl

pub teardown_named : (request : RequestText) (publication : Publication) (told : Option (List ℕ)) → AsksTeardown publication told request → method_of (request_of request).method ≡ Some methods.Teardown
unfolding method_of
teardown_named request publication told asks_so = method_is request asks.Teardown methods.Teardown asks_so.kind_is refl

-- What is asked, and what is known of the connection's session: its mount, name and state, and the identifier that was told.
pub record IsKnown (asked : Asked) (publication : Publication) (number : ℕ) (told : Option (List ℕ)) (state : State) : Type 0 where
  pub session : Session
  pub has : asked.session ≡ Some session
  pub mount_is : session.mount ≡ number
  pub name_is : session.name ≡ publication.target.path
  pub recording_is : session.recording ≡ true
  pub state_is : session.state ≡ state
  pub told_is : told ≡ Some (identifier_of session)

abbrev pub asked_for : (seats conn : ℕ) → History → RequestText → List Mount → Option Session → Asked
asked_for seats conn history request mounts session = record { seats = seats; history = history; conn = conn; request = request_of request; mounts = mounts; session = session }
