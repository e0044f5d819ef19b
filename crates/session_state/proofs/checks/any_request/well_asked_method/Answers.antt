use Rattle.std.proofs.lemmas.Result.{err_from_is_err_and}
use Rattle.session_state.proofs.WellAsked.{refused_first, refused_second, well_asked}
use Rattle.session_state.proofs.checks.any_request.well_asked_method.Goals as goal

pub returns-in_err-method : goal.returns-in_err-method
returns-in_err-method c =
    let p = err_from_is_err_and c.from_residual.result c.from_residual.ensures.1 in
    rw (p.1, p.2) (refused_first c.args.request.now _ c.in_err-method.ensures)

pub returns-in_err-uri_in : goal.returns-in_err-uri_in
returns-in_err-uri_in c =
    let p = err_from_is_err_and c.from_residual-in_err-uri_in.result c.from_residual-in_err-uri_in.ensures.1 in
    let known = c.in_ok-method.ensures in
    rw (p.1, p.2) (refused_second c.args.request.now c.in_ok-method.method _ known.0 known.1 c.in_err-uri_in.ensures)

pub returns : goal.returns
returns c =
    let known = c.in_ok-method.ensures in
    let named = c.in_ok-uri_in.ensures in
    well_asked c.args.request.now c.in_ok-method.method c.in_ok-uri_in.field-0 known.0 known.1 named.0 named.1 named.2
