use Rattle.std.proofs.lemmas.Result.{IfOk-weaker}
use Rattle.source_urls.specs.Grammar.{IsSource}
use Rattle.source_urls.specs.Source.{IsReadAs}
use Rattle.source_urls.specs.UriText.{IsRequestUri}
use Rattle.source_urls.proofs.Requests.{is_source, source_request}
use Rattle.source_urls.proofs.source.read_source.Goals as goal

pub returns-clause-ok : goal.returns-clause-ok
returns-clause-ok c =
    let text = c.args.text.now in
    IfOk-weaker c.source_of.result (IsReadAs text) (IsSource text) (is_source text) c.source_of.ensures.ok

pub returns-clause-uri : goal.returns-clause-uri
returns-clause-uri c =
    let text = c.args.text.now in
    IfOk-weaker c.source_of.result (IsReadAs text) (λ source. IsRequestUri source.uri) (λ source r. source_request text source (is_source text source r)) c.source_of.ensures.ok
