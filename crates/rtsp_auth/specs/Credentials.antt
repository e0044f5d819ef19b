-- Credentials that can be sent (RFC 7617, 2), and where they go.
use Rattle.std.specs.Prelude.{ℕ, Bool, not, if◌then◌else◌, List, Option, None, Some}
use Rattle.base_syntax.specs.Names.{same_name}
use Rattle.rtsp_auth.specs.declared.credentials.Credentials.{Credentials}
use Rattle.rtsp_auth.specs.declared.credentials_fault.CredentialsFault.{CredentialsFault}
use Rattle.rtsp_auth.specs.declared.credentials_fault.CredentialsFault.TheVariants as faults
use Rattle.rtsp_auth.specs.declared.request.Request.{Request}
use Rattle.rtsp_auth.specs.Plain.{has_no_colon, has_no_control}

-- the first thing that is wrong with a user name and a password
abbrev pub credentials_fault : (user password : List ℕ) → Option CredentialsFault
credentials_fault user password =
    if not (has_no_control user) then Some faults.ControlInUser
    else if not (has_no_colon user) then Some faults.ColonInUser
    else if not (has_no_control password) then Some faults.ControlInPassword
    else None

-- the request goes to the host that the credentials are for (RFC 3986, 3.2.2: a host is compared without regard to case)
abbrev pub is_home : Credentials → Request → Bool
is_home credentials request = same_name credentials.host request.host.now
