-- The form of an `m=` line, apart from how it is read (RFC 4566, 5.14: m=<media> <port>/<number of ports> <proto> <fmt> ..).
use Rattle.std.specs.Prelude.{◌≡◌, ◌<◌, ◌≤◌, ◌-◌, ℕ, false, List, [], ◌∷◌, ◌++◌, ◌⊎◌, length, codes, slice_index}
use Rattle.std.specs.List.{All, AllPass}
use Rattle.std.specs.Str.Parse.{IsNumeral}
use Rattle.base_syntax.specs.Blanks.{is_blank}
use Rattle.base_syntax.specs.Numbers.{IsNumberUpTo}
use Rattle.sdp.specs.Media.{MediaLine, is_space}

-- one byte or more, and no space
pub record IsWord (word : List ℕ) : Type 0 where
  pub some : 1 ≤ length word
  pub unbroken : All (λ b. is_space b ≡ false) word

-- one or more spaces
pub record AreSpaces (gap : List ℕ) : Type 0 where
  pub some : 1 ≤ length gap
  pub spaces : AllPass is_space gap

-- words in order, with one or more spaces between two
abbrev pub AreWords : List ℕ → List (List ℕ) → Type 0
AreWords text [] = ⊥
AreWords text (word ∷ []) = (text ≡ word) × IsWord word
AreWords text (word ∷ next ∷ others) = (gap rest : List ℕ) × (text ≡ word ++ (gap ++ rest)) × IsWord word × AreSpaces gap × AreWords rest (next ∷ others)

-- at most five digits, of a value up to 65,535
pub record IsPortNumber (text : List ℕ) : Type 0 where
  pub number : ℕ
  pub value : IsNumberUpTo 65535 text number
  pub short : length text ≤ 5

-- a port, and after a slash the number of ports, if it is given
abbrev pub IsPort : List ℕ → Type 0
IsPort text = IsPortNumber text ⊎ ((port count : List ℕ) × (text ≡ port ++ 47 ∷ count) × IsPortNumber port × IsNumeral 10 count)

-- the last byte is neither a space nor a tab
abbrev pub HasBareEnd : List ℕ → Type 0
HasBareEnd text = (0 < length text) × (is_blank (slice_index text (length text - 1)) ≡ false)

-- What stands after `m=`: media, a port, the one protocol that this profile takes and one format or more, and spaces
-- and tabs at the end that don't count.
pub record IsMedia (value : List ℕ) (named : MediaLine) : Type 0 where
  pub text : List ℕ
  pub blanks : List ℕ
  pub whole : value ≡ text ++ blanks
  pub blank : AllPass is_blank blanks
  pub ends : HasBareEnd text
  pub port : List ℕ
  pub good : IsPort port
  pub words : AreWords text (named.media ∷ port ∷ codes "RTP/AVP" ∷ named.formats)
  pub some : 1 ≤ length named.formats
