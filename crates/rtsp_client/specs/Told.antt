-- What a program says to a client. What doesn't fit the state changes nothing, and nothing does after the end.
use Rattle.std.specs.Prelude.{ℕ, zero, suc, min, Bool, true, false}
use Rattle.rtsp_client.specs.Clients.{State, unless_ended, with_end}
use Rattle.rtsp_client.specs.Connections.{new_connection}
use Rattle.rtsp_client.specs.Steps.{described_from, start}
use Rattle.rtsp_client.specs.declared.asked.Asked.{Asked}
use Rattle.rtsp_client.specs.declared.awaits.Awaits.{Awaits}
use Rattle.rtsp_client.specs.declared.awaits.Awaits.TheVariants.{Nothing, Description, Connection, Password, Again}
use Rattle.rtsp_client.specs.declared.end.End.{End}
use Rattle.rtsp_client.specs.declared.end.End.TheVariants as ends
use Rattle.rtsp_client.specs.declared.step.Step.{Step}
use Rattle.rtsp_client.specs.declared.step.Step.TheVariants as steps

-- the first reason counts
abbrev pub after_end : End → State → State
after_end end state = unless_ended state.end (with_end end state) state

-- the tracks are asked for, at most 16, if there are some
abbrev pub tracks_at : (tracks : ℕ) → State → State
tracks_at zero state = with_end ends.NoUsableTrack state
tracks_at (suc others) state = record state { awaits = Nothing; place = described_from (min (suc others) 16) state.place }

-- DESCRIBE is the request that was answered
abbrev pub tracks_in : Step → (tracks : ℕ) → State → State
tracks_in steps.Options tracks state = state
tracks_in steps.Describe tracks state = tracks_at tracks state
tracks_in (steps.SetUp track) tracks state = state
tracks_in steps.Announce tracks state = state
tracks_in (steps.SetUpTarget track) tracks state = state
tracks_in steps.Record tracks state = state
tracks_in steps.Play tracks state = state
tracks_in steps.Passing tracks state = state

abbrev pub described_at : Awaits → (tracks : ℕ) → State → State
described_at Description tracks state = tracks_in state.place.step tracks state
described_at Nothing tracks state = state
described_at Connection tracks state = state
described_at (Password asked) tracks state = state
described_at (Again asked) tracks state = state

abbrev pub after_description : (tracks : ℕ) → State → State
after_description tracks state = unless_ended state.end (described_at state.awaits tracks state) state

abbrev pub bad_at : Awaits → State → State
bad_at Description state = with_end ends.DescriptionUnusable state
bad_at Nothing state = state
bad_at Connection state = state
bad_at (Password asked) state = state
bad_at (Again asked) state = state

abbrev pub after_bad_description : State → State
after_bad_description state = unless_ended state.end (bad_at state.awaits state) state

-- a new connection to the source: it is asked from OPTIONS on
abbrev pub redirected_at : Awaits → State → State
redirected_at Connection state = record state { awaits = Nothing; place = start; source = new_connection }
redirected_at Nothing state = state
redirected_at Description state = state
redirected_at (Password asked) state = state
redirected_at (Again asked) state = state

abbrev pub after_redirect : State → State
after_redirect state = unless_ended state.end (redirected_at state.awaits state) state

-- the request that was challenged is sent once more if there is a password
abbrev pub answered : (has_password : Bool) → Asked → State → State
answered true asked state = record state { awaits = Again asked }
answered false asked state = with_end ends.PasswordRefused state

abbrev pub answered_at : Awaits → (has_password : Bool) → State → State
answered_at (Password asked) has state = answered has asked state
answered_at Nothing has state = state
answered_at Description has state = state
answered_at Connection has state = state
answered_at (Again asked) has state = state

abbrev pub after_answer : (has_password : Bool) → State → State
after_answer has state = unless_ended state.end (answered_at state.awaits has state) state
