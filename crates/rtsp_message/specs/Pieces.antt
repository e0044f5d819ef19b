-- What an intake reads into.
use Rattle.std.specs.Prelude.{ℕ, List}
use Rattle.rtsp_message.specs.declared.piece.Piece.{Piece}
use Rattle.rtsp_message.specs.declared.piece.Piece.TheVariants.{First, Longer}

-- all bytes of a piece, whatever they are
abbrev pub bytes_in : Piece → List ℕ
bytes_in (First bytes) = bytes
bytes_in (Longer block) = block.items
