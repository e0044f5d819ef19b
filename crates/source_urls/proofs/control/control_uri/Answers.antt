use Rattle.std.proofs.Common.{◌≤◌, length}
use Rattle.std.specs.Option.{option_copied}
use Rattle.std.proofs.lemmas.Result.{IfOk-weaker}
use Rattle.source_urls.specs.Control.{IsControlUri}
use Rattle.source_urls.specs.UriText.{IsRequestUri}
use Rattle.source_urls.proofs.Controls.{stands}
use Rattle.source_urls.proofs.control.control_uri.Goals as goal

pub returns-clause-uri : goal.returns-clause-uri
returns-clause-uri c =
    let base = c.args.base.now in
    let control = option_copied c.args.control in
    IfOk-weaker c.accepted_uri.result (IsControlUri base control) IsRequestUri (λ uri is. (stands base control uri is).request) c.accepted_uri.ensures.ok

pub returns-clause-short : goal.returns-clause-short
returns-clause-short c =
    let base = c.args.base.now in
    let control = option_copied c.args.control in
    IfOk-weaker c.accepted_uri.result (IsControlUri base control) (λ uri. length uri ≤ 4097) (λ uri is. (stands base control uri is).short) c.accepted_uri.ensures.ok
