use Rattle.std.proofs.Common.{ℕ, List, inl, inr, refl, rules, subst}
use Rattle.mounts.specs.declared.uri.Uri.{Uri}
use Rattle.mounts.specs.Uri.{IsUri}
use Rattle.mounts.proofs.OneAnswer.{one_uri}
use Rattle.session_state.specs.declared.method.Method.{Method}
use Rattle.session_state.specs.Checks.{MayBeAsked}
use Rattle.session_state.proofs.checks.any_request.uri_in.Goals as goal

-- a text is one URI, so that where that may not be asked none may
no_other : (method : Method) (text : List ℕ) (uri : Uri) → IsUri text uri → (MayBeAsked method uri → ⊥) → ((other : Uri) × IsUri text other × MayBeAsked method other) → ⊥
no_other method text uri is not h = not (subst (MayBeAsked method) (one_uri text h.0 uri h.1 is) h.2)

pub returns-else-may_be_asked : goal.returns-else-may_be_asked
returns-else-may_be_asked c = λ asked. inr (search rules, inl (refl, no_other c.args.method c.args.request.now.uri c.in-Ok.uri (search rules) (search rules)))
