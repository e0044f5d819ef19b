use Rattle.std.proofs.lemmas.Result.{IfOk-weaker}
use Rattle.source_urls.specs.Grammar.{IsTarget}
use Rattle.source_urls.specs.Target.{IsReadAs}
use Rattle.source_urls.specs.UriText.{IsRequestUri}
use Rattle.source_urls.proofs.Requests.{target_request}
use Rattle.source_urls.proofs.Targets.{is_target}
use Rattle.source_urls.proofs.target.read_target.Goals as goal

pub returns-clause-ok : goal.returns-clause-ok
returns-clause-ok c =
    let text = c.args.text.now in
    IfOk-weaker c.target_of.result (IsReadAs text) (IsTarget text) (is_target text) c.target_of.ensures.ok

pub returns-clause-uri : goal.returns-clause-uri
returns-clause-uri c =
    let text = c.args.text.now in
    IfOk-weaker c.target_of.result (IsReadAs text) (λ target. IsRequestUri target.uri) (λ target r. target_request text target (is_target text target r)) c.target_of.ensures.ok
