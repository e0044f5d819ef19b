-- The checks that look at nothing but the request: its number, its version, its method, what it requires and its URI.
use Rattle.std.specs.Prelude.{◌≡◌, List, [], ◌∷◌, Option, None, Some, IsSome, codes}
use Rattle.rtsp_message.specs.declared.request.Request as messages
use Rattle.rtsp_message.specs.Headers.{value_of}
use Rattle.mounts.specs.declared.uri.Uri.{Uri}
use Rattle.mounts.specs.Uri.{IsUri}
use Rattle.session_state.specs.declared.checks.Check.{Check}
use Rattle.session_state.specs.declared.checks.Check.TheVariants.{HasCSeq, HasVersion, HasMethod, RequiresNothing, HasUri}
use Rattle.session_state.specs.declared.checks.refusal.Refusal.{Refusal}
use Rattle.session_state.specs.declared.checks.refusal.Refusal.TheVariants.{Fails, OutOfMemory}
use Rattle.session_state.specs.declared.method.Method.{Method}
use Rattle.session_state.specs.Checks.{Asked, FailsFirst, MayBeAsked, PassesAll}
use Rattle.session_state.specs.Methods.{method_of}

-- The number of its CSeq field can be read (RFC 2326, 12.17), it is of RTSP 1.0 (3.1), it has this method (10), no Require
-- field (12.32), and a URI that can be read and that the method may ask (6.1).
pub record IsWellAsked (request : messages.Request) (method : Method) : Type 0 where
  pub number : IsSome request.cseq
  pub version : request.version ≡ codes "RTSP/1.0"
  pub method_is : method_of request.method ≡ Some method
  pub requires_nothing : value_of request.headers (codes "Require") ≡ None
  pub uri : (uri : Uri) × IsUri request.uri uri × MayBeAsked method uri

-- the first checks of a request, which look at nothing but it
abbrev pub first_checks : Option Method → List Check
first_checks None = HasCSeq ∷ HasVersion ∷ HasMethod ∷ []
first_checks (Some method) = HasCSeq ∷ HasVersion ∷ HasMethod ∷ RequiresNothing ∷ HasUri method ∷ []

-- a request passes these checks, whatever else is known
abbrev pub IsPassingAlone : messages.Request → List Check → Type 0
IsPassingAlone request checks = (asked : Asked) → PassesAll (record asked { request = request }) checks

-- a request is refused by these checks, whatever else is known; memory may run out at any
abbrev pub IsRefusedAlone : messages.Request → List Check → Refusal → Type 0
IsRefusedAlone request checks (Fails check) = (asked : Asked) → FailsFirst (record asked { request = request }) checks check
IsRefusedAlone request checks OutOfMemory = Unit {0}
