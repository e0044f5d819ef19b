-- An intake that has bytes to read on with.
use Rattle.std.proofs.Common.{◌≡◌, ◌+◌, ◌≤◌, ◌<◌, ℕ, false, List, ◌++◌, Option, length, take, drop}
use Rattle.std.specs.List.{concat}
use Rattle.std.specs.Io.KnownBytes.{Consumes}
use Rattle.std.specs.Vec.Iter.{into_iter_items}
use Rattle.rtsp_message.specs.declared.intake.Intake.TheInside.{Inside}
use Rattle.rtsp_message.specs.declared.unit.Unit.{Unit as StreamUnit}
use Rattle.rtsp_message.specs.Stream.{Ending, ReadsOn}
use Rattle.rtsp_message.specs.Intakes.{IntakeState, Gave, ReadsOnce}
use Rattle.rtsp_message.specs.IntakeFields.{state_of}
use Rattle.rtsp_message.specs.Pieces.{bytes_in}

-- The fields after bytes were read from the source, unless some were held.
pub record Fetched {S : Type 0} (incoming : S → Option (List ℕ)) (bound : S → ℕ) (gives : S → List ℕ → S → Type 0) (old : IntakeState S) (i : Inside S) : Type 0 where
  pub read : List ℕ
  pub given : Consumes (incoming old.source) (incoming i.source) read
  pub left : bound i.source + length read ≡ bound old.source
  pub pieces : List (List ℕ)
  pub came : Gave gives old.source pieces i.source
  pub whole : concat pieces ≡ read
  pub once : ReadsOnce gives old (state_of i)
  pub held : drop i.from (take i.held (bytes_in i.piece)) ≡ old.held ++ read
  pub reading : i.reader.reading ≡ old.reading
  pub queue : into_iter_items i.units ≡ old.queue
  pub fits : i.held ≤ length (bytes_in i.piece)
  pub room : 0 < length (bytes_in i.piece)
  pub most : length (bytes_in i.piece) ≤ 65536
  pub some : i.from < i.held
  pub was_going : old.ended ≡ false
  pub going : i.ended ≡ false

-- The first so many of the bytes at hand were fed, from where the reader had come to. The others are held.
pub record FedPart (from held : ℕ) (piece : List ℕ) (len : ℕ) (old : Ending) (units : List StreamUnit) (new : Ending) : Type 0 where
  pub some : 0 < len
  pub within : from + len ≤ held
  pub reads : ReadsOn old (take len (drop from (take held piece))) units new
  pub size : length (take len (drop from (take held piece))) ≡ len
  pub cut : drop from (take held piece) ≡ take len (drop from (take held piece)) ++ drop (from + len) (take held piece)
  pub bytes : length units ≤ len
  pub few : length units ≤ 2048
