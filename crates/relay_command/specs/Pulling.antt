-- What the command line of a pull may ask for.
use Rattle.std.specs.Prelude.{◌≤◌, IfSome}
use Rattle.pull_plan.specs.declared.settings.PullSettings.{PullSettings}

-- silence and reports are 1 to 86,400 seconds, and the first delay between two tries is 10 to 60,000 milliseconds
pub record IsPulledInRange (settings : PullSettings) : Type 0 where
  pub silences : (1000 ≤ settings.silent) × (settings.silent ≤ 86400000)
  pub retries : (10 ≤ settings.retry) × (settings.retry ≤ 60000)
  pub reports : IfSome settings.report (λ milliseconds. (1000 ≤ milliseconds) × (milliseconds ≤ 86400000))
