use Rattle.std.specs.Option.{option_copied}
use Rattle.relay_command.proofs.Giving.{GoesOn}
use Rattle.relay_command.proofs.channels.read_channels.Given as goal

-- what is left of the text gives the channels of the tracks from this one on
abbrev pub invariant-loop-track : goal.invariant-loop-track
invariant-loop-track l = GoesOn l.fn.text l.track l.channels (option_copied l.rest)
