-- What a spec of a Transport header asks for by its parts, apart from how it is read (RFC 2326, 12.39).
use Rattle.std.specs.Prelude.{◌≡◌, ℕ, Bool, true, false, List, [], ◌∷◌, Option, None, Some, codes}
use Rattle.std.specs.List.{join_with_byte}
use Rattle.base_syntax.specs.Blanks.{IsTrimOf}
use Rattle.base_syntax.specs.Names.{same_name}
use Rattle.base_syntax.specs.Quotes.{AreParts}
use Rattle.transport_header.specs.Separators.{semicolon}
use Rattle.transport_header.specs.Parameter.{IsFirstNamed, NoneHasName}
use Rattle.transport_header.specs.Interleaved.{AsksFor}
use Rattle.transport_header.specs.Recording.{AsksRecord}
use Rattle.transport_header.specs.declared.spec.Spec.{Spec}
use Rattle.transport_header.specs.declared.spec.ChannelPair.{ChannelPair}
use Rattle.transport_header.specs.declared.spec.Protocol.{Protocol}
use Rattle.transport_header.specs.declared.spec.Protocol.TheVariants.{Tcp, Other}
use Rattle.transport_header.specs.declared.spec.Mode.{Mode}
use Rattle.transport_header.specs.declared.spec.Mode.TheVariants.{Play, Record}

-- texts, each without the blanks at its ends
abbrev pub AreTrimsOf : List (List ℕ) → List (List ℕ) → Type 0
AreTrimsOf [] [] = Unit {0}
AreTrimsOf [] (core ∷ cores) = ⊥
AreTrimsOf (text ∷ texts) [] = ⊥
AreTrimsOf (text ∷ texts) (core ∷ cores) = IsTrimOf text core × AreTrimsOf texts cores

-- The text is a transport and parameters: its parts between semicolons outside of quotes, without the blanks at
-- their ends.
pub record HasParts (text transport : List ℕ) (parameters : List (List ℕ)) : Type 0 where
  pub first : List ℕ
  pub others : List (List ℕ)
  pub cut : AreParts semicolon (first ∷ others)
  pub joined : join_with_byte semicolon (first ∷ others) ≡ text
  pub transport_is : IsTrimOf first transport
  pub parameters_are : AreTrimsOf others parameters

abbrev pub NamesProtocol : List ℕ → Protocol → Type 0
NamesProtocol transport Tcp = same_name transport (codes "RTP/AVP/TCP") ≡ true
NamesProtocol transport Other = same_name transport (codes "RTP/AVP/TCP") ≡ false

-- whether a parameter of this name is there
abbrev pub IsNamed : (parameters : List (List ℕ)) → (name : List ℕ) → Bool → Type 0
IsNamed parameters name true = (value : List ℕ) × IsFirstNamed parameters name value
IsNamed parameters name false = NoneHasName name parameters

-- the channels that the first `interleaved` asks for; none where it is absent or unreadable
abbrev pub AsksChannels : List (List ℕ) → Option ChannelPair → Type 0
AsksChannels parameters (Some pair) = (value : List ℕ) × IsFirstNamed parameters (codes "interleaved") value × AsksFor value pair
AsksChannels parameters None = (value : List ℕ) (pair : ChannelPair) → IsFirstNamed parameters (codes "interleaved") value → ¬ AsksFor value pair

-- recording where the first `mode` asks for it, else playing
abbrev pub AsksMode : List (List ℕ) → Mode → Type 0
AsksMode parameters Record = (value : List ℕ) × IsFirstNamed parameters (codes "mode") value × AsksRecord value
AsksMode parameters Play = (value : List ℕ) → IsFirstNamed parameters (codes "mode") value → ¬ AsksRecord value

-- The text holds this spec: the first part names the transport, the others are its parameters.
pub record IsSpec (text : List ℕ) (spec : Spec) : Type 0 where
  pub transport : List ℕ
  pub parameters : List (List ℕ)
  pub parts : HasParts text transport parameters
  pub protocol : NamesProtocol transport spec.protocol
  pub multicast : IsNamed parameters (codes "multicast") spec.multicast
  pub interleaved : AsksChannels parameters spec.interleaved
  pub mode : AsksMode parameters spec.mode
