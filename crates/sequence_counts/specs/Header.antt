-- The fixed header of an RTP packet (RFC 3550, 5.1).
use Rattle.std.specs.Prelude.{◌≡◌, ℕ, ◌+◌, ◌*◌, ◌/◌, ◌≤◌, List, length, slice_index}

-- there are the twelve bytes of the fixed header, and the version is 2, in the top two bits of the first
pub record HasFixedHeader (bytes : List ℕ) : Type 0 where
  pub long : 12 ≤ length bytes
  pub version : slice_index bytes 0 / 64 ≡ 2

-- the sequence number is bytes 2 and 3, the high one first
abbrev pub sequence_number_of : List ℕ → ℕ
sequence_number_of bytes = 256 * slice_index bytes 2 + slice_index bytes 3

-- the source (SSRC) is bytes 8 to 11, the high ones first
abbrev pub source_of : List ℕ → ℕ
source_of bytes = 256 * (256 * (256 * slice_index bytes 8 + slice_index bytes 9) + slice_index bytes 10) + slice_index bytes 11
