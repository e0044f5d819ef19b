-- Which part of what was read from a source is fed to the reader next.
use Rattle.std.specs.Prelude.{◌≤◌, ℕ, List, length}
use Rattle.rtsp_message.specs.declared.unit.Unit.{Unit as StreamUnit}
use Rattle.rtsp_message.specs.declared.peer.Peer.{Peer}
use Rattle.rtsp_message.specs.Stream.{ReadsSoFar}

-- The first so many bytes are whole units, no more of them than this, whoever sends them.
pub record AreFew (most : ℕ) (bytes : List ℕ) (len : ℕ) : Type 0 where
  pub units : List StreamUnit
  pub reads : (peer : Peer) → ReadsSoFar peer bytes units len
  pub within : len ≤ length bytes
  pub few : length units ≤ most
