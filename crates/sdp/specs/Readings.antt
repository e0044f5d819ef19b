-- What a text of a description reads as, and why it is refused: the first bad line decides, and a text without a
-- media section is refused last.
use Rattle.std.specs.Prelude.{◌≡◌, ◌<◌, ℕ, List, [], ◌∷◌, ◌++◌, ◌⊎◌, length}
use Rattle.sdp.specs.declared.fault.SdpFault.{SdpFault}
use Rattle.sdp.specs.declared.fault.SdpFault.TheVariants.{NoVersion, BadLine, UnknownLetter, BadMedia, NoMedia, TooManyTracks, OutOfMemory}
use Rattle.sdp.specs.declared.sections.Sections.{Sections}
use Rattle.sdp.specs.Lines.{AreLines}
use Rattle.sdp.specs.Sections.{announced, AreGood}
use Rattle.sdp.specs.Faults.{IsFaultAfter}

-- The text is these sections: its lines are theirs, none more and none less, all of them good, with a track among them.
pub record Reads (text : List ℕ) (sections : Sections) : Type 0 where
  pub lines : AreLines text (announced sections)
  pub good : AreGood sections
  pub some : 0 < length sections.tracks

-- Good lines, and then one with this fault.
pub record HasBadLine (text : List ℕ) (fault : SdpFault) : Type 0 where
  pub before : Sections
  pub line : List ℕ
  pub after : List (List ℕ)
  pub lines : AreLines text (announced before ++ line ∷ after)
  pub good : AreGood before
  pub wrong : IsFaultAfter before line fault

-- Good lines alone, one or more of them, and no track.
pub record HasNoTrack (text : List ℕ) : Type 0 where
  pub sections : Sections
  pub lines : AreLines text (announced sections)
  pub good : AreGood sections
  pub some : 0 < length (announced sections)
  pub none : sections.tracks ≡ []

-- why a text is refused; memory may run out at any text
abbrev pub IsRefused : List ℕ → SdpFault → Type 0
IsRefused text NoVersion = AreLines text [] ⊎ HasBadLine text NoVersion
IsRefused text BadLine = HasBadLine text BadLine
IsRefused text UnknownLetter = HasBadLine text UnknownLetter
IsRefused text BadMedia = HasBadLine text BadMedia
IsRefused text NoMedia = HasNoTrack text
IsRefused text TooManyTracks = HasBadLine text TooManyTracks
IsRefused text OutOfMemory = Unit {0}
