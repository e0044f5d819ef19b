-- Which spec of a Transport header is taken, with which channels, and how the answer is written
-- (RFC 2326, 12.39 and 10.12).
use Rattle.std.specs.Prelude.{◌≡◌, ◌≢◌, ◌≤◌, ℕ, ◌+◌, ◌%◌, Bool, true, false, List, [], ◌∷◌, ◌++◌, Option, None, Some, All, codes, decimal}
use Rattle.std.specs.List.{Contains}
use Rattle.transport_header.specs.declared.spec.Spec.{Spec}
use Rattle.transport_header.specs.declared.spec.ChannelPair.{ChannelPair}
use Rattle.transport_header.specs.declared.spec.Protocol.TheVariants.{Tcp}
use Rattle.transport_header.specs.declared.spec.Mode.TheVariants.{Record}
use Rattle.transport_header.specs.declared.chosen.Chosen.{Chosen}

-- over TCP, and not multicast: a spec that says neither unicast nor multicast is unicast
abbrev pub IsAcceptable : Spec → Type 0
IsAcceptable spec = (spec.protocol ≡ Tcp) × (spec.multicast ≡ false)

-- an acceptable spec, with no acceptable one before it
abbrev pub IsFirstAcceptable : List Spec → Spec → Type 0
IsFirstAcceptable specs spec =
    (before : List Spec) × (after : List Spec) × (specs ≡ before ++ spec ∷ after)
    × All (λ earlier. ¬ IsAcceptable earlier) before × IsAcceptable spec

-- used has neither channel
abbrev pub AreUnused : List ℕ → ℕ → ℕ → Type 0
AreUnused used a b = ¬ Contains used a × ¬ Contains used b

-- a pair that is given where it is asked for: two channels, neither of them used
abbrev pub IsUsable : List ℕ → ChannelPair → Type 0
IsUsable used pair = (pair.first ≢ pair.second) × AreUnused used pair.first pair.second

-- an even channel e, unused as the next one
abbrev pub IsFreeAt : List ℕ → ℕ → Type 0
IsFreeAt used e = (e % 2 ≡ 0) × AreUnused used e (e + 1)

-- the least even channel that is unused as the next one, and that next one
abbrev pub IsLeastFree : List ℕ → ℕ → ℕ → Type 0
IsLeastFree used rtp rtcp = (rtcp ≡ rtp + 1) × IsFreeAt used rtp × ((e : ℕ) → IsFreeAt used e → rtp ≤ e)

-- the channels that are given where these are asked for: these if they are usable, else the least free
abbrev pub IsGiven : List ℕ → Option ChannelPair → ℕ → ℕ → Type 0
IsGiven used None rtp rtcp = IsLeastFree used rtp rtcp
IsGiven used (Some asked) rtp rtcp =
    (IsUsable used asked → (rtp ≡ asked.first) × (rtcp ≡ asked.second))
    × (¬ IsUsable used asked → IsLeastFree used rtp rtcp)

-- what is chosen of the specs, where the other tracks of the session use these channels: the first
-- acceptable spec, or nothing where none is acceptable
abbrev pub IsChosen : List Spec → List ℕ → Option Chosen → Type 0
IsChosen specs used None = All (λ spec. ¬ IsAcceptable spec) specs
IsChosen specs used (Some chosen) =
    (spec : Spec) × IsFirstAcceptable specs spec
    × IsGiven used spec.interleaved chosen.rtp chosen.rtcp
    × ((chosen.recording ≡ true → spec.mode ≡ Record) × (spec.mode ≡ Record → chosen.recording ≡ true))

-- a recording session's mode
abbrev pub mode_text : Bool → List ℕ
mode_text true = codes ";mode=\"RECORD\""
mode_text false = []

-- the value of the Transport header of the reply to SETUP
unfoldable pub transport_text : Chosen → List ℕ
transport_text chosen =
    codes "RTP/AVP/TCP;unicast;interleaved=" ++ decimal chosen.rtp ++ codes "-" ++ decimal chosen.rtcp
    ++ mode_text chosen.recording
