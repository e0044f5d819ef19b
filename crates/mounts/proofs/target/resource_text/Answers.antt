use Rattle.std.proofs.Common.{◌==◌, ap, ◌∙◌}
use Rattle.std.specs.List.{before_first}
use Rattle.mounts.proofs.Texts.{before_first-either}
use Rattle.mounts.proofs.target.resource_text.Goals as goal

pub returns : goal.returns
returns c =
    c.cut-2.ensures.before ∙ ap (before_first (λ b. b == 63)) c.cut.ensures.before
    ∙ before_first-either (λ b. b == 35) (λ b. b == 63) c.args.text.now
