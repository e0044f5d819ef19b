-- The session that a reply to SETUP opens (RFC 2326, 12.37).
use Rattle.std.specs.Prelude.{◌≡◌, ℕ, ◌<◌, ◌≤◌, List, length, Option, Some, None, Result, Ok, Err}
use Rattle.transport_header.specs.Session.{identifier_in, timeout_in}
use Rattle.rtsp_client.specs.declared.opened.Opened.{Opened}
use Rattle.rtsp_client.specs.declared.opened.SessionFault.{SessionFault}
use Rattle.rtsp_client.specs.declared.opened.SessionFault.TheVariants.{Missing, TooLong}

-- A Session header with this text opens this session, or none for this reason.
abbrev pub IsOpenedByText : (text : List ℕ) → Result Opened SessionFault → Type 0
IsOpenedByText text (Ok opened) =
    (0 < length opened.id) × (length opened.id ≤ 512) × (opened.id ≡ identifier_in text) × (opened.timeout ≡ timeout_in text)
IsOpenedByText text (Err Missing) = length (identifier_in text) ≡ 0
IsOpenedByText text (Err TooLong) = 512 < length (identifier_in text)

-- the same of a reply that may have none
abbrev pub IsOpenedBy : (header : Option (List ℕ)) → Result Opened SessionFault → Type 0
IsOpenedBy (Some text) result = IsOpenedByText text result
IsOpenedBy None result = result ≡ Err Missing
