-- The fixed header of an RTP packet (RFC 3550, 5.1).
use Rattle.std.specs.Prelude.{◌≡◌, ℕ, ◌+◌, ◌*◌, ◌/◌, ◌%◌, ◌≤◌, List, length, slice_index}
use Rattle.transport_header.specs.declared.point.Point.{Point}

-- The version is 2, in the top two bits of the first byte. Its lowest four bits are the number of contributing sources,
-- which are named by four bytes each after the twelve of the fixed header.
pub record IsRtp (bytes : List ℕ) : Type 0 where
  pub fixed : 12 ≤ length bytes
  pub version : slice_index bytes 0 / 64 ≡ 2
  pub sources : 12 + 4 * (slice_index bytes 0 % 16) ≤ length bytes

-- the point of an RTP packet: its sequence number is bytes 2 and 3, its timestamp bytes 4 to 7, the high ones first
abbrev pub point_of : List ℕ → Point
point_of bytes = record {
  seq = 256 * slice_index bytes 2 + slice_index bytes 3;
  rtptime = 256 * (256 * (256 * slice_index bytes 4 + slice_index bytes 5) + slice_index bytes 6) + slice_index bytes 7;
}
