-- A track that is set up at a side (RFC 2326, 10.4).
use Rattle.std.specs.Prelude.{◌≡◌, ◌⊎◌, ℕ, Option, Some, None, Result, Ok, Err}
use Rattle.transport_header.specs.Tracks.{MayHave}
use Rattle.transport_header.specs.declared.spec.ChannelPair.{ChannelPair}
use Rattle.rtsp_client.specs.Clients.{State, asked_pair, connection_of, session_at, with_connection, with_end}
use Rattle.rtsp_client.specs.Connections.{open_fault, opened_on}
use Rattle.rtsp_client.specs.Passages.{pairs_at, with_pair}
use Rattle.rtsp_client.specs.ReplyChannels.{pair_by}
use Rattle.rtsp_client.specs.Steps.{done_from, place_in, track_in}
use Rattle.rtsp_client.specs.declared.asked.Side.{Side}
use Rattle.rtsp_client.specs.declared.end.End.{End}
use Rattle.rtsp_client.specs.declared.end.End.TheVariants as ends
use Rattle.rtsp_client.specs.declared.opened.Opened.{Opened}
use Rattle.rtsp_client.specs.declared.opened.SessionFault.{SessionFault}
use Rattle.rtsp_client.specs.declared.reply_channels.ChannelFault.{ChannelFault}
use Rattle.rtsp_client.specs.declared.reply_channels.ChannelFault.TheVariants.{OfAnotherTrack}
use Rattle.rtsp_client.specs.declared.reply_facts.ReplyFacts.{ReplyFacts}
use Rattle.rtsp_client.specs.declared.turn.Turn.{Turn}
use Rattle.rtsp_client.specs.declared.turn.Turn.TheVariants as turns

-- nothing changes, and the program does this
abbrev pub IsSame : (old new : State) → (turn is : Turn) → Type 0
IsSame old new turn is = (new ≡ old) × (turn ≡ is)

-- the client ends for this reason
abbrev pub IsEnd : End → (old new : State) → Turn → Type 0
IsEnd end old new turn = (new ≡ with_end end old) × (turn ≡ turns.Ends end)

-- the first reply to SETUP opens the side's session
abbrev pub opened_at : Side → Result Opened SessionFault → (now : ℕ) → State → State
opened_at side session now state =
    with_connection side (opened_on (session_at side state) session side state.has_get_parameter now (connection_of side state)) state

-- the track has these channels at a side, and the next step is due
abbrev pub set_up_of : Side → ChannelPair → State → State
set_up_of side pair state = record state {
  place = done_from state.place;
  passage = with_pair side (place_in state.place) (track_in state.place.step) pair state.passage;
}

-- it has them if no other track has one of them, and else the client ends
abbrev pub SetsPair : Side → ChannelPair → (old new : State) → Turn → Type 0
SetsPair side pair old new turn =
    (MayHave (pairs_at side old.passage) (place_in old.place) pair × (new ≡ set_up_of side pair old) × (turn ≡ turns.GoesOn))
    ⊎ ((MayHave (pairs_at side old.passage) (place_in old.place) pair → ⊥) × IsEnd (ends.Channels side OfAnotherTrack) old new turn)

-- the channels that the reply gives it, if they can be used
abbrev pub SetsChannels : Result ChannelPair ChannelFault → Side → (old new : State) → Turn → Type 0
SetsChannels (Ok pair) side old new turn = SetsPair side pair old new turn
SetsChannels (Err fault) side old new turn = IsEnd (ends.Channels side fault) old new turn

-- if the reply opens no session and none is open, the client ends
abbrev pub SetsUpAfter : (fault : Option SessionFault) → Side → ReplyFacts → (now : ℕ) → (old new : State) → Turn → Type 0
SetsUpAfter (Some fault) side reply now old new turn = IsEnd (ends.Session side fault) (opened_at side reply.session now old) new turn
SetsUpAfter None side reply now old new turn =
    SetsChannels (pair_by reply.channels (asked_pair (track_in old.place.step))) side (opened_at side reply.session now old) new turn

-- SETUP of a track has succeeded at a side
abbrev pub SetsUp : Side → ReplyFacts → (now : ℕ) → (old new : State) → Turn → Type 0
SetsUp side reply now old new turn =
    SetsUpAfter (open_fault (session_at side old) reply.session) side reply now old new turn
