use Rattle.std.proofs.Common.{◌≡◌, ◌∙◌, ap, rules, filter}
use Rattle.std.proofs.lemmas.Fn.{filter_same}
use Rattle.relay_log.specs.Refusals.{is_kept}
use Rattle.relay_log.proofs.refused_requests.RefusedRequests.forget.Goals as goal

pub returns : goal.returns
returns c = filter_same _ (is_kept c.args.now) _ (λ x b f' k. search rules) _ _ c.retain.ensures.filtered ∙ ap (filter (is_kept c.args.now)) c.self.view_is
