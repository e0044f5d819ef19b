use Rattle.std.proofs.Common.{take}
use Rattle.relay_log.specs.AddressRates.{AreBusy}
use Rattle.relay_log.proofs.line_rates.place_of_quiet.Given as goal

-- each before the place had a line in this second
abbrev pub invariant-loop-place : goal.invariant-loop-place
invariant-loop-place l = AreBusy (take l.place l.known) l.second
