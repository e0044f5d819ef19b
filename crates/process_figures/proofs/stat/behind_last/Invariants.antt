use Rattle.std.proofs.Common.{◌≡◌, drop}
use Rattle.std.specs.Option.{option_copied, option_or}
use Rattle.process_figures.specs.Stat.{behind_last}
use Rattle.process_figures.proofs.stat.behind_last.Given as goal

-- what is found in the rest counts, and else what was found before it
abbrev pub invariant-loop-place : goal.invariant-loop-place
invariant-loop-place l = option_or (behind_last l.byte (drop l.place l.text)) (option_copied l.behind) ≡ behind_last l.byte l.text
