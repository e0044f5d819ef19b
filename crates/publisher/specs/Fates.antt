-- What becomes of the frames that a publisher sends (RFC 2326, 10.12; RFC 3550, 5.1).
use Rattle.std.specs.Prelude.{◌≡◌, ℕ, ◌+◌, ◌%◌, ◌<◌, ◌≤◌, Bool, true, false, List, [], ◌∷◌, Option, None, Some, length, cond, count_by}
use Rattle.std.specs.List.{flat_map}
use Rattle.interleaved.specs.declared.frame.Frame.{Frame}
use Rattle.transport_header.specs.declared.spec.ChannelPair.{ChannelPair}
use Rattle.transport_header.specs.Tracks.{IsTagOn}
use Rattle.cursor.specs.declared.packets.Packet.{Packet}
use Rattle.cursor.specs.declared.refusals.Refused.{Refused as Refusal}
use Rattle.cursor.specs.declared.refusals.Refused.TheVariants as refused
use Rattle.cursor.specs.Log.{packet_of}
use Rattle.publisher.specs.declared.fate.Fate.{Fate}
use Rattle.publisher.specs.declared.fate.Fate.TheVariants as fate
use Rattle.publisher.specs.declared.report.InReport.{InReport}
use Rattle.publisher.specs.Rtp.{IsRtp}

-- a frame that is offered to the feed with this tag: its channel is the tag's, and if the tag is one of RTP (an even
-- one), the frame is an RTP packet
pub record IsOffered (pairs : List (Option ChannelPair)) (frame : Frame) (tag : ℕ) : Type 0 where
  pub channel : IsTagOn pairs frame.channel (Some tag)
  pub rtp : tag % 2 ≡ 0 → IsRtp frame.payload

-- a frame on an RTP channel that is no RTP packet
pub record IsBadRtp (pairs : List (Option ChannelPair)) (frame : Frame) : Type 0 where
  pub tag : ℕ
  pub channel : IsTagOn pairs frame.channel (Some tag)
  pub is_rtp : tag % 2 ≡ 0
  pub bad : ¬ IsRtp frame.payload

-- a frame that was offered to a feed of packets of at most `room` bytes, which refused it with this refusal, one that it
-- may give
pub record IsRefused (pairs : List (Option ChannelPair)) (room : ℕ) (may : Refusal → Type 0) (frame : Frame) (refusal : Refusal) : Type 0 where
  pub tag : ℕ
  pub offered : IsOffered pairs frame tag
  pub may_be : may refusal
  pub too_long : refusal ≡ refused.TooLong → room < length frame.payload
  pub fits : (refusal ≡ refused.TooLong → ⊥) → length frame.payload ≤ room

-- what a frame may have as its fate: a stranger's channel is that of no track
abbrev pub HasFate : List (Option ChannelPair) → (room : ℕ) → (may : Refusal → Type 0) → Frame → Fate → Type 0
HasFate pairs room may frame (fate.Published tag) = IsOffered pairs frame tag × (length frame.payload ≤ room)
HasFate pairs room may frame fate.Pinned = (pins : ℕ) × IsRefused pairs room may frame (refused.Pinned pins)
HasFate pairs room may frame fate.Oversize = IsRefused pairs room may frame refused.TooLong
HasFate pairs room may frame fate.Worn = IsRefused pairs room may frame refused.Worn
HasFate pairs room may frame fate.Unkept = IsRefused pairs room may frame refused.OutOfMemory
HasFate pairs room may frame fate.BadRtp = IsBadRtp pairs frame
HasFate pairs room may frame fate.Stranger = IsTagOn pairs frame.channel None

-- one frame and its fate
pub record Handling : Type 0 where
  pub frame : Frame
  pub fate : Fate

-- the packet that a frame was published as
abbrev pub published_as : Frame → Fate → List Packet
published_as frame (fate.Published tag) = packet_of tag frame.payload ∷ []
published_as frame _ = []

-- the packets of those that were published, in order
abbrev pub published : List Handling → List Packet
published handlings = flat_map (λ (h : Handling). published_as h.frame h.fate) handlings

abbrev pub is_published : Fate → Bool
is_published (fate.Published tag) = true
is_published _ = false

abbrev pub is_pinned : Fate → Bool
is_pinned fate.Pinned = true
is_pinned _ = false

abbrev pub is_oversize : Fate → Bool
is_oversize fate.Oversize = true
is_oversize _ = false

abbrev pub is_worn : Fate → Bool
is_worn fate.Worn = true
is_worn _ = false

abbrev pub is_unkept : Fate → Bool
is_unkept fate.Unkept = true
is_unkept _ = false

abbrev pub is_bad_rtp : Fate → Bool
is_bad_rtp fate.BadRtp = true
is_bad_rtp _ = false

abbrev pub is_stranger : Fate → Bool
is_stranger fate.Stranger = true
is_stranger _ = false

-- how many of these frames have a fate that passes a test
abbrev pub count_of : (Fate → Bool) → List Handling → ℕ
count_of test handlings = count_by (λ (h : Handling). test h.fate) handlings

-- the sum of all seven counts
abbrev pub total : InReport → ℕ
total r = r.published + r.pinned + r.oversize + r.worn + r.unkept + r.bad_rtp + r.strangers

-- each frame is counted once, by its fate
pub record AreCounted (handlings : List Handling) (r : InReport) : Type 0 where
  pub published : r.published ≡ count_of is_published handlings
  pub pinned : r.pinned ≡ count_of is_pinned handlings
  pub oversize : r.oversize ≡ count_of is_oversize handlings
  pub worn : r.worn ≡ count_of is_worn handlings
  pub unkept : r.unkept ≡ count_of is_unkept handlings
  pub bad_rtp : r.bad_rtp ≡ count_of is_bad_rtp handlings
  pub strangers : r.strangers ≡ count_of is_stranger handlings
  pub all : total r ≡ length handlings

-- 1 if the test holds, else 0
abbrev pub one_if : Bool → ℕ
one_if b = cond b 1 0

-- one more frame is counted
pub record CountsOne (old : InReport) (fate : Fate) (new : InReport) : Type 0 where
  pub published : new.published ≡ old.published + one_if (is_published fate)
  pub pinned : new.pinned ≡ old.pinned + one_if (is_pinned fate)
  pub oversize : new.oversize ≡ old.oversize + one_if (is_oversize fate)
  pub worn : new.worn ≡ old.worn + one_if (is_worn fate)
  pub unkept : new.unkept ≡ old.unkept + one_if (is_unkept fate)
  pub bad_rtp : new.bad_rtp ≡ old.bad_rtp + one_if (is_bad_rtp fate)
  pub strangers : new.strangers ≡ old.strangers + one_if (is_stranger fate)
