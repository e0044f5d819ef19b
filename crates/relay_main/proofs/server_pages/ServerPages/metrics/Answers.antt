use Rattle.std.proofs.Common.{◌≡◌}
use Rattle.std.proofs.lemmas.Result.{IfOk-weaker}
use Rattle.relay_main.specs.Pages.{HasMetrics, shown_metrics}
use Rattle.relay_main.proofs.server_pages.ServerPages.metrics.Goals as goal

pub returns : goal.returns
returns g c =
    let look = c.in_ok-look.look.now in
    let process = c.read_process-process.result in
    IfOk-weaker c.metrics_of.result (λ bytes. bytes ≡ shown_metrics look.snapshot look.wall c.args.self.now.facts process c.args.self.now.shows_players) (HasMetrics c.args.self.now.facts c.args.self.now.shows_players)
    (λ bytes is. record { snapshot = look.snapshot; wall = look.wall; process = process; is = is }) c.metrics_of.ensures
