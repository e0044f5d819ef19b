-- What a reader's fields stand for.
use Rattle.std.specs.Prelude.{◌+◌, ◌*◌, ◌-◌, ◌^◌, ◌<◌, ◌≤◌, length}
use Rattle.rtsp_message.specs.declared.peer_reader.PeerReader.TheInside.{Inside}
use Rattle.rtsp_message.specs.Knowns.{IsKnown, looks_for}
use Rattle.rtsp_message.specs.ReaderStates.{PeerReaderState, ending_from, KeepsBeginning}

abbrev pub state_of : Inside → PeerReaderState
state_of reader = record {
  peer = reader.peer;
  state = record { reading = ending_from reader.store.bytes reader.fault; looked = reader.store.looked; fed = reader.fed; room = reader.store.room };
}

-- What is kept of the stream, and what is known of it. While the bytes fed can be counted, each was looked at six times at
-- most, where those that wait count for the looks that what is known of them took.
pub record IsReader (reader : Inside) : Type 0 where
  pub keeps : KeepsBeginning reader.peer reader.store.bytes reader.fault
  pub knows : IsKnown reader.peer reader.store.bytes reader.known
  pub room : reader.store.room ≤ 2 * length reader.store.bytes
  pub paid : reader.fed < 2 ^ 64 - 1 → reader.store.looked + 6 * length reader.store.bytes ≤ 6 * reader.fed + looks_for reader.known
  pub fits : reader.store.looked < 2 ^ 64
