-- Why a try has ended, and what that means for the program.
use Rattle.std.specs.Prelude.{◌≡◌, ◌⊎◌, ◌<◌, ℕ}
use Rattle.rtsp_auth.specs.declared.credentials_fault.CredentialsFault.{CredentialsFault}
use Rattle.rtsp_client.specs.declared.asked.Side.TheVariants as sides
use Rattle.rtsp_client.specs.declared.end.End.TheVariants as client_ends
use Rattle.pull_session.specs.declared.reason.LoginFault.TheVariants as logins
use Rattle.pull_session.specs.declared.reason.Reason.TheVariants as reasons
use Rattle.relay_pull.specs.declared.try_end.TryEnd.{TryEnd}
use Rattle.relay_pull.specs.declared.try_end.TryEnd.TheVariants as ends

-- the program was to stop
abbrev pub IsStop : TryEnd → Type 0
IsStop end = end ≡ ends.Session (reasons.Client client_ends.Stopped)

-- the source has ended its stream, or the program was to stop
abbrev pub IsGoodEnd : TryEnd → Type 0
IsGoodEnd end = (end ≡ ends.Session (reasons.Client (client_ends.StreamEnded sides.Source))) ⊎ IsStop end

-- with `--once` the program has done its work: frames went on until the source ended, or a stop
abbrev pub IsDone : TryEnd → (sent : ℕ) → Type 0
IsDone end sent = (0 < sent) × IsGoodEnd end
