-- How the format is read: lines, and a text up to the byte that ends it, with its escapes.
use Rattle.std.specs.Prelude.{◌≡◌, ◌≢◌, ℕ, ◌==◌, Bool, true, false, if◌then◌else◌, List, [], ◌∷◌, ◌++◌, Option, None, Some, All, length, map, codes}
use Rattle.std.specs.Option.{option_map}
use Rattle.std.specs.Str.Lossy.{utf8_lossy}
use Rattle.std.specs.Str.Parse.{AllDigits, IsNumeral, digits_value}
use Rattle.exposition.specs.Exposition.{LabelPair, line_feed, backslash}

-- a text that was read, and the bytes after the byte that ended it
pub record Read : Type 0 where
  pub text : List ℕ
  pub rest : List ℕ

-- the byte that is meant by a byte after a backslash: `n` is a line feed, and any other byte is itself
abbrev pub meant : ℕ → ℕ
meant byte = if byte == 110 then line_feed else byte

abbrev pub after_byte : ℕ → Read → Read
after_byte byte read = record read { text = byte ∷ read.text }

-- the text up to the first end byte that is not escaped, if there is one; `escaped` says that a backslash precedes the bytes
abbrev pub read_from : (end : ℕ) → (escaped : Bool) → List ℕ → Option Read
read_from end escaped [] = None
read_from end true (byte ∷ bytes) = option_map (after_byte (meant byte)) (read_from end false bytes)
read_from end false (byte ∷ bytes) =
    if byte == end then Some (record { text = []; rest = bytes })
    else (if byte == backslash then read_from end true bytes else option_map (after_byte byte) (read_from end false bytes))

abbrev pub read_until : (end : ℕ) → List ℕ → Option Read
read_until end bytes = read_from end false bytes

-- no byte is a line feed
abbrev pub IsInLine : List ℕ → Type 0
IsInLine bytes = All (λ byte. byte ≢ line_feed) bytes

-- the text is one line: its last byte is a line feed, and no other byte is one
abbrev pub IsLine : List ℕ → Type 0
IsLine text = (line : List ℕ) × (text ≡ line ++ line_feed ∷ []) × IsInLine line

abbrev pub names_of : List LabelPair → List (List ℕ)
names_of labels = map (λ label. label.name) labels

-- the values of labels, as they are read
abbrev pub values_of : List LabelPair → List (List ℕ)
values_of labels = map (λ label. utf8_lossy label.value) labels

-- The text writes milliseconds as seconds with three decimals: without its point, its digits write the milliseconds.
pub record IsSeconds (text : List ℕ) (milliseconds : ℕ) : Type 0 where
  pub seconds : List ℕ
  pub decimals : List ℕ
  pub parts : text ≡ seconds ++ codes "." ++ decimals
  pub numeral : IsNumeral 10 seconds
  pub digits : AllDigits 10 decimals
  pub three : length decimals ≡ 3
  pub value : digits_value 10 (seconds ++ decimals) ≡ milliseconds
