-- Which frames of a stream come out to a player, and as what.
use Rattle.std.specs.Prelude.{◌≡◌, ℕ, ◌≤◌, ◌⊎◌, List, [], ◌∷◌, Option, Some, length}
use Rattle.std.specs.List.{concat}
use Rattle.std.specs.Io.KnownBytes.{Appends}
use Rattle.interleaved.specs.Frame.{frame_of}
use Rattle.interleaved.specs.declared.frame.Frame.{Frame}
use Rattle.rtsp_message.specs.Stream.{Ending, Reads}
use Rattle.rtsp_message.specs.declared.unit.Unit.{Unit as StreamUnit}
use Rattle.transport_header.specs.declared.spec.ChannelPair.{ChannelPair}
use Rattle.transport_header.specs.Tracks.{channel_of}
use Rattle.publisher.specs.Fates.{IsOffered}
use Rattle.relay_pass.specs.Came.{frames_among}

module _ (from to : List (Option ChannelPair)) (room : ℕ) where
  -- the frame is RTP or RTCP of a track by the channel that it came on, it is an RTP packet if it is on an RTP channel, it
  -- has at most `room` bytes of data, and this is the player's channel for it
  pub record IsCarried (frame : Frame) (channel : ℕ) : Type 0 where
    pub tag : ℕ
    pub offered : IsOffered from frame tag
    pub fits : length frame.payload ≤ room
    pub goes_on : channel_of to tag ≡ Some channel

  -- what comes out of a frame: a frame with the same data on the player's channel if it is carried, and else nothing
  abbrev pub ComesOut : Frame → (text : List ℕ) → Type 0
  ComesOut frame text =
      ((channel : ℕ) × IsCarried frame channel × (text ≡ frame_of channel frame.payload))
      ⊎ (((channel : ℕ) → ¬ IsCarried frame channel) × (text ≡ []))

  -- what comes out of each of these frames, in order
  abbrev pub ComeOut : List Frame → (texts : List (List ℕ)) → Type 0
  ComeOut [] [] = Unit {0}
  ComeOut (frame ∷ frames) (text ∷ texts) = ComesOut frame text × ComeOut frames texts
  ComeOut [] (text ∷ texts) = ⊥
  ComeOut (frame ∷ frames) [] = ⊥

  -- what was written is what comes out of these frames, in order, and nothing else
  pub record AreWritten (frames : List Frame) (before after : Option (List ℕ)) : Type 0 where
    pub texts : List (List ℕ)
    pub come_out : ComeOut frames texts
    pub written : Appends before after (concat texts)

  -- what was written is what comes out of the frames of this stream, in order, and nothing else
  pub record IsRelayed (stream : List ℕ) (before after : Option (List ℕ)) : Type 0 where
    pub units : List StreamUnit
    pub ending : Ending
    pub reads : Reads stream units ending
    pub written : AreWritten (frames_among units) before after
