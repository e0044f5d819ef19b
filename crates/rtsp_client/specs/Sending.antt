-- The frames that come once a client is over, and those that the target's system has taken.
use Rattle.std.specs.Prelude.{ℕ, zero, suc, min, Bool, ◌||◌, is_some}
use Rattle.rtsp_client.specs.Accounts.{with_frame, with_sent as with_frames_sent}
use Rattle.rtsp_client.specs.Clients.{State}
use Rattle.rtsp_client.specs.Connections.{with_sent}
use Rattle.rtsp_client.specs.Passages.{with_account}
use Rattle.rtsp_client.specs.declared.frame_account.FrameFate.TheVariants.{Unsent}

-- it stops or has ended
abbrev pub is_over : State → Bool
is_over state = state.is_stopping || is_some state.end

-- a frame is cut by the end of the stream
abbrev pub after_cut : State → State
after_cut state = record state { passage = with_account state.passage (with_frame state.passage.account Unsent) }

-- they wait no longer
abbrev pub with_fewer_waiting : (frames : ℕ) → State → State
with_fewer_waiting frames state =
    record state { passage = with_account state.passage (with_frames_sent state.passage.account frames) }

-- if so many were taken, and it is some, the target's session is kept alive
abbrev pub with_alive : (taken : ℕ) → (now : ℕ) → State → State
with_alive zero now state = state
with_alive (suc others) now state = record state { target = with_sent state.target now }

-- at most those that wait are taken
abbrev pub after_sent : (frames : ℕ) → (now : ℕ) → State → State
after_sent frames now state = with_alive (min frames state.passage.account.unsent) now (with_fewer_waiting frames state)
