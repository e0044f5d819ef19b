-- How a connection ends.
use Rattle.std.specs.Prelude.{Bool, true, false, Option, None, Some}
use Rattle.relay_accounts.specs.declared.ending.ConnectionEnd.{ConnectionEnd}
use Rattle.relay_accounts.specs.declared.ending.ConnectionEnd.TheVariants.{Expired, OutOfMemory, StreamFault}
use Rattle.relay_accounts.specs.declared.ending.WireFailure.{WireFailure}
use Rattle.relay_accounts.specs.declared.ending.WireFailure.TheVariants.{Reset}

-- A text was the last that its peer was sent: after a fault of its stream, or if it was out of memory; and 454 to a player whose
-- session had expired while it played.
abbrev pub HasLastText : (is_stranded : Bool) → ConnectionEnd → Type 0
HasLastText is_stranded (StreamFault fault) = Unit {0}
HasLastText is_stranded OutOfMemory = Unit {0}
HasLastText true Expired = Unit {0}
HasLastText is_stranded end = ⊥

-- how the system has ended it: a peer that was sent no frames may close as it likes
abbrev pub failure_of : Option WireFailure → (was_sent_frames : Bool) → Option WireFailure
failure_of (Some Reset) false = None
failure_of failure was_sent_frames = failure
