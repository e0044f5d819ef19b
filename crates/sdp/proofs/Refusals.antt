-- Why a text is refused.
use Rattle.std.proofs.Common.{ℕ, List, inr}
use Rattle.sdp.specs.declared.fault.SdpFault.{SdpFault}
use Rattle.sdp.specs.declared.fault.SdpFault.TheVariants.{NoVersion, BadLine, UnknownLetter, BadMedia, NoMedia, TooManyTracks, OutOfMemory}
use Rattle.sdp.specs.Readings.{HasBadLine, IsRefused}

-- a text with a bad line is refused
pub refused_line : (text : List ℕ) (fault : SdpFault) → HasBadLine text fault → IsRefused text fault
refused_line text NoVersion p = inr p
refused_line text BadLine p = p
refused_line text UnknownLetter p = p
refused_line text BadMedia p = p
refused_line text NoMedia p = absurd p.wrong
refused_line text TooManyTracks p = p
refused_line text OutOfMemory p = tt
