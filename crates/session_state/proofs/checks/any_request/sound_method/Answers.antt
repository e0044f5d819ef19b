use Rattle.std.proofs.Common.{subst}
use Rattle.session_state.specs.declared.checks.refusal.Refusal.{Refusal}
use Rattle.session_state.specs.Methods.{method_of}
use Rattle.session_state.specs.WellAsked.{IsRefusedAlone, first_checks}
use Rattle.session_state.proofs.WellAsked.{not_refused}
use Rattle.session_state.proofs.checks.any_request.sound_method.Goals as goal

pub returns-in-Err-Fails-clause-unsound : goal.returns-in-Err-Fails-clause-unsound
returns-in-Err-Fails-clause-unsound c none method well =
    let request = c.args.request.now in
    let refused = subst (λ (refusal : Refusal). IsRefusedAlone request (first_checks (method_of request.method)) refusal) c.in-Err-Fails.field-0-is c.in-Err-Fails.ensures in
    not_refused request c.in-Err-Fails.field-0-0 method refused well
