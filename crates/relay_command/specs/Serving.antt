-- What the command line of the server may ask for.
use Rattle.std.specs.Prelude.{◌≡◌, ◌≤◌, ⊤, true, IfSome}
use Rattle.pacing.specs.declared.recent.Back.{Back}
use Rattle.pacing.specs.declared.recent.Back.TheVariants as back
use Rattle.relay_command.specs.declared.settings.Settings.{Settings}
use Rattle.relay_command.specs.declared.settings.SendBuffer.{SendBuffer}
use Rattle.relay_command.specs.declared.settings.SendBuffer.TheVariants as buffer
use Rattle.relay_command.specs.Pulling.{IsPulledInRange}
use Rattle.relay_command.specs.declared.asked.Asked.{Asked}
use Rattle.relay_command.specs.declared.asked.Asked.TheVariants as asks

-- a send buffer that is set has 4 MiB at most
abbrev pub IsBounded : SendBuffer → Type 0
IsBounded buffer.Default = ⊤
IsBounded buffer.System = ⊤
IsBounded (buffer.Bytes bytes) = bytes ≤ 4194304

-- a PLAY begins with 4,095 packets from before at most, or with those of ten seconds
abbrev pub IsShortBack : Back → Type 0
IsShortBack (back.Packets count) = count ≤ 4095
IsShortBack (back.Milliseconds milliseconds) = milliseconds ≤ 10000

-- the ranges of a ring's numbers, of the time that packets gather for, in milliseconds, of how many threads send frames, of
-- the seconds between reports and of silence, of what one address may have, and of the bytes of a send buffer
pub record IsInRange (settings : Settings) : Type 0 where
  pub keeps : (1 ≤ settings.keep) × (settings.keep ≤ 4095)
  pub seated : (1 ≤ settings.seats) × (settings.seats ≤ 1024)
  pub bounded : (12 ≤ settings.packet_bytes) × (settings.packet_bytes ≤ 65535)
  pub gathers : settings.gather ≤ 100
  pub goes_back : IsShortBack settings.back
  pub writes : IfSome settings.writers (λ count. count ≤ 64)
  pub reports : IfSome settings.report (λ seconds. (1 ≤ seconds) × (seconds ≤ 86400))
  pub silences : IfSome settings.silent (λ seconds. (1 ≤ seconds) × (seconds ≤ 86400))
  pub connects : IfSome settings.per_address (λ count. (1 ≤ count) × (count ≤ 1024))
  pub announces : IfSome settings.mounts_per_address (λ count. (1 ≤ count) × (count ≤ 64))
  pub buffers : IsBounded settings.send_buffer

-- what is sent from its place in the ring is sent by no writer
abbrev pub SendsItself : Settings → Type 0
SendsItself settings = settings.is_direct ≡ true → IfSome settings.writers (λ count. count ≡ 0)

-- a send buffer that is set has 16 KiB at least
abbrev pub HasRoomToSend : SendBuffer → Type 0
HasRoomToSend buffer.Default = ⊤
HasRoomToSend buffer.System = ⊤
HasRoomToSend (buffer.Bytes bytes) = 16384 ≤ bytes

-- A server that is asked for has its numbers in their ranges, and no writers beside players that send themselves. The ring of a
-- pass keeps 1 to 4,095 packets. A pull has its times in their ranges.
abbrev pub IsServedInRange : Asked → Type 0
IsServedInRange (asks.Serve endpoints settings origins) = IsInRange settings × SendsItself settings × HasRoomToSend settings.send_buffer
IsServedInRange (asks.Talk word) = ⊤
IsServedInRange (asks.Steps stopped) = ⊤
IsServedInRange (asks.Pass passing) = (1 ≤ passing.keep) × (passing.keep ≤ 4095)
IsServedInRange (asks.Pull settings) = IsPulledInRange settings
IsServedInRange asks.Nothing = ⊤
