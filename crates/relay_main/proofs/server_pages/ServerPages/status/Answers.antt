use Rattle.std.proofs.Common.{◌≡◌}
use Rattle.std.proofs.lemmas.Result.{IfOk-weaker}
use Rattle.status_json.specs.Status.{status_text}
use Rattle.relay_main.specs.Pages.{HasStatus}
use Rattle.relay_main.proofs.server_pages.ServerPages.status.Goals as goal

pub returns : goal.returns
returns g c =
    let look = c.in_ok-look.look.now in
    IfOk-weaker c.status_of.result (λ bytes. bytes ≡ status_text look.snapshot) HasStatus (λ bytes is. record { snapshot = look.snapshot; is = is }) c.status_of.ensures
