-- Why connections are refused.
use Rattle.server_counts.specs.declared.refusal.Refusal.{Refusal}
use Rattle.server_counts.specs.declared.refusal.Refusal.TheVariants.{Full, OutOfMemory}
use Rattle.session_state.specs.declared.fault.ConnectFault.{ConnectFault}
use Rattle.session_state.specs.declared.fault.ConnectFault.TheVariants.{Full as NoPlace, OutOfMemory as NoMemory}

-- a connection for which the book has no place, or no memory
abbrev pub refusal_for : ConnectFault → Refusal
refusal_for NoPlace = Full
refusal_for NoMemory = OutOfMemory
