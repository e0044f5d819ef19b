use Rattle.std.proofs.Common.{◌≡◌, length}
use Rattle.rtsp_auth.specs.Values.{unquoted, unquoted_from}
use Rattle.rtsp_auth.proofs.Quoted.{with_front}
use Rattle.rtsp_auth.proofs.values.read_quoted.Given as goal

-- the value so far and that of what is left are the whole one
abbrev pub invariant-loop-rest : goal.invariant-loop-rest
invariant-loop-rest l = with_front l.value.items (unquoted_from l.is_escaped l.rest) ≡ unquoted l.text

abbrev pub decreases-loop-rest : goal.decreases-loop-rest
decreases-loop-rest l = length l.rest
