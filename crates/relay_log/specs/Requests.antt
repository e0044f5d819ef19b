-- Which refused requests are counted, and what is logged of their texts.
use Rattle.std.specs.Prelude.{ℕ, ◌==◌, Bool, true, false, if◌then◌else◌, List, length, take, codes}
use Rattle.rtsp_message.specs.declared.status.Status.{Status}
use Rattle.rtsp_message.specs.declared.status.Status.TheVariants as statuses

-- Requests that are refused so are counted by mount: a name that another has or a network that isn't allowed, no seat, no place for
-- a mount, a name that no mount has, and a transport that isn't interleaved.
abbrev pub is_counted : Status → Bool
is_counted statuses.Forbidden = true
is_counted statuses.NotEnoughBandwidth = true
is_counted statuses.ServiceUnavailable = true
is_counted statuses.NotFound = true
is_counted statuses.UnsupportedTransport = true
is_counted status = false

-- what is logged of a text that a peer chose: its first 128 bytes, or a dash if it is empty
abbrev pub shortened_text : List ℕ → List ℕ
shortened_text text = if length text == 0 then codes "-" else take 128 text
