-- When reports are due.
use Rattle.std.specs.Prelude.{ℕ, Bool, ◌-◌, ◌≤◌, Option, None, Some, if◌then◌else◌}
use Rattle.pull_plan.specs.declared.report_times.ReportTimes.{ReportTimes}

abbrev pub HasPassed : (every : Option ℕ) → (passed : ℕ) → Type 0
HasPassed None passed = ⊥
HasPassed (Some every) passed = every ≤ passed

-- the time between two reports has passed since the last one
abbrev pub IsDue : ReportTimes → (now : ℕ) → Type 0
IsDue times now = HasPassed times.every (now - times.last)

-- one that is due is made
abbrev pub after_look : ReportTimes → (is_due : Bool) → (now : ℕ) → ReportTimes
after_look times is_due now = if is_due then record times { last = now } else times
