-- Why there is no answer, and the words that a fault prints.
use Rattle.std.specs.Prelude.{◌≡◌, ◌≤◌, ℕ, true, nat_lt, if◌then◌else◌, List, Option, None, Some, length, codes}
use Rattle.rtsp_auth.specs.declared.choice_fault.ChoiceFault.{ChoiceFault}
use Rattle.rtsp_auth.specs.declared.choice_fault.ChoiceFault.TheVariants as choices
use Rattle.rtsp_auth.specs.declared.credentials_fault.CredentialsFault.{CredentialsFault}
use Rattle.rtsp_auth.specs.declared.credentials_fault.CredentialsFault.TheVariants as credentials
use Rattle.rtsp_auth.specs.declared.field_fault.FieldFault.{FieldFault}
use Rattle.rtsp_auth.specs.declared.field_fault.FieldFault.TheVariants as fields
use Rattle.rtsp_auth.specs.Plain.{has_no_control}

-- The value can be sent: no byte of it ends a line, and it has no more bytes than a field of a server may have.
pub record IsField (value : List ℕ) : Type 0 where
  pub clean : has_no_control value ≡ true
  pub short : length value ≤ 4096

-- what is wrong with the value of an Authorization field
abbrev pub text_fault : (value : List ℕ) → Option FieldFault
text_fault value =
    if nat_lt 4096 (length value) then Some fields.LongField
    else if has_no_control value then None
    else Some fields.ControlCharacter

abbrev pub credentials_fault_text : CredentialsFault → List ℕ
credentials_fault_text credentials.ControlInUser = codes "control character in user name"
credentials_fault_text credentials.ColonInUser = codes "colon in user name"
credentials_fault_text credentials.ControlInPassword = codes "control character in password"

abbrev pub choice_fault_text : ChoiceFault → List ℕ
choice_fault_text choices.LongField = codes "WWW-Authenticate field longer than 4096 bytes"
choice_fault_text choices.OutOfMemory = codes "out of memory"

abbrev pub field_fault_text : FieldFault → List ℕ
field_fault_text fields.LastCount = codes "no count is left for this nonce"
field_fault_text fields.LongField = codes "Authorization field longer than 4096 bytes"
field_fault_text fields.ControlCharacter = codes "control character in Authorization field"
field_fault_text fields.OutOfMemory = codes "out of memory"
