-- Replies that don't come.
use Rattle.std.specs.Prelude.{◌≡◌, ◌⊎◌, ℕ, None}
use Rattle.rtsp_client.specs.Clients.{State, connection_of, waiting_at, with_connection}
use Rattle.rtsp_client.specs.Connections.{with_requests}
use Rattle.rtsp_client.specs.Replies.{options_at}
use Rattle.rtsp_client.specs.SettingUp.{IsEnd}
use Rattle.rtsp_client.specs.Stopping.{IsClosed}
use Rattle.rtsp_client.specs.Requests.{IsLate, IsOnTime}
use Rattle.rtsp_client.specs.declared.asked.Asked.{Asked}
use Rattle.rtsp_client.specs.declared.asked.Late.{Late}
use Rattle.rtsp_client.specs.declared.asked.Late.TheVariants.{Ends, UsesOptions, Over}
use Rattle.rtsp_client.specs.declared.asked.Side.{Side}
use Rattle.rtsp_client.specs.declared.end.End.TheVariants as ends
use Rattle.rtsp_client.specs.declared.turn.Turn.{Turn}
use Rattle.rtsp_client.specs.declared.turn.Turn.TheVariants as turns

-- a side's request waits no longer
abbrev pub free_at : Side → State → State
free_at side state =
    with_connection side (with_requests (connection_of side state) (record (connection_of side state).requests { outstanding = None })) state

-- what a late reply means
abbrev pub Lacks : Late → Asked → Side → (old new : State) → Turn → Type 0
Lacks Ends asked side old new turn = IsEnd (ends.NoReply asked) old new turn
Lacks UsesOptions asked side old new turn = (new ≡ options_at side old) × (turn ≡ turns.GoesOn)
Lacks Over asked side old new turn = IsClosed side old new turn

-- a side's request waits for too long
abbrev pub IsOverdue : Side → (now : ℕ) → (old new : State) → Turn → Asked → Late → Type 0
IsOverdue side now old new turn asked late =
    IsLate (waiting_at side old) now asked late
    × Lacks late asked side (free_at side old) new turn

-- time passes: a side's reply is late, or nothing changes
abbrev pub Ticks : Side → (now : ℕ) → (old new : State) → Turn → Type 0
Ticks side now old new turn =
    ((asked : Asked) × (late : Late) × IsOverdue side now old new turn asked late)
    ⊎ (IsOnTime (waiting_at side old) now × (new ≡ old) × (turn ≡ turns.GoesOn))
