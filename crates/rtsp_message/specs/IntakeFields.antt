-- What the fields of an intake stand for.
use Rattle.std.specs.Prelude.{◌≡◌, ◌<◌, ◌≤◌, ℕ, true, List, [], Option, length, take, drop}
use Rattle.std.specs.Io.KnownBytes.{IsAtEnd}
use Rattle.std.specs.Vec.Iter.{into_iter_items}
use Rattle.rtsp_message.specs.declared.intake.Intake.TheInside.{Inside}
use Rattle.rtsp_message.specs.Intakes.{IntakeState}
use Rattle.rtsp_message.specs.Stream.{ReadsOn, waiting_len}
use Rattle.rtsp_message.specs.Limits.{waiting_limit}
use Rattle.rtsp_message.specs.Pieces.{bytes_in}

abbrev pub state_of : {S : Type 0} → Inside S → IntakeState S
state_of i = record { source = i.source; queue = into_iter_items i.units; reading = i.reader.reading; held = drop i.from (take i.held (bytes_in i.piece)); ended = i.ended }

-- what always holds of them
pub record IsIntake {S : Type 0} (incoming : S → Option (List ℕ)) (i : Inside S) : Type 0 where
  pub within : i.held ≤ length (bytes_in i.piece)
  pub room : 0 < length (bytes_in i.piece)
  pub most : length (bytes_in i.piece) ≤ 65536
  pub fed : i.from ≤ i.held
  pub settled : ReadsOn i.reader.reading [] [] i.reader.reading
  pub at_end : i.ended ≡ true → IsAtEnd (incoming i.source) × (i.from ≡ i.held)
  pub waits : waiting_len i.reader.reading < waiting_limit
  -- each unit took a byte of the part that was fed last, at the end of what was fed
  pub queued : length (into_iter_items i.units) ≤ 2048
  pub few : length (into_iter_items i.units) ≤ i.from
