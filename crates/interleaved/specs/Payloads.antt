-- The data of a frame, wherever it is kept.
use Rattle.std.specs.Prelude.{ℕ, List}
use Rattle.interleaved.specs.declared.payload.Data.{Data}
use Rattle.interleaved.specs.declared.payload.Data.TheVariants.{Owned, Cut}

-- the bytes of either
abbrev pub bytes_of : Data → List ℕ
bytes_of (Owned list) = list
bytes_of (Cut part) = part
