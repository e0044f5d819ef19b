-- What an `m=` line says (RFC 4566, 5.14: m=<media> <port>/<number of ports> <proto> <fmt> ..).
use Rattle.std.specs.Prelude.{ℕ, Bool, true, ◌&&◌, ◌==◌, nat_le, if◌then◌else◌, List, ◌∷◌, length, take, drop, filter, codes, Option, None, Some, is_some}
use Rattle.std.specs.List.{slice_split, before_first}
use Rattle.std.specs.Str.{bytes_eq}
use Rattle.base_syntax.specs.Blanks.{without_trailing_blanks}
use Rattle.base_syntax.specs.Cuts.{behind_first}
use Rattle.base_syntax.specs.Lines.{has_bytes}
use Rattle.base_syntax.specs.Numbers.{is_numeral, number_up_to}

-- what an `m=` line names: what is sent, and the payload formats in order
pub record MediaLine : Type 0 where
  pub media : List ℕ
  pub formats : List (List ℕ)

abbrev pub is_space : ℕ → Bool
is_space b = b == 32

-- the words of a text, with one or more spaces between them
abbrev pub words : List ℕ → List (List ℕ)
words text = filter has_bytes (slice_split is_space text)

-- media, and formats that stand in a text
abbrev pub media_line : List ℕ → List ℕ → MediaLine
media_line media text = record { media = media; formats = words text }

-- a port: one to five digits, of a value up to 65,535
abbrev pub is_port_number : List ℕ → Bool
is_port_number text = nat_le (length text) 5 && is_some (number_up_to 65535 text)

-- the number of ports, if it is given
abbrev pub is_count : Option (List ℕ) → Bool
is_count None = true
is_count (Some count) = is_numeral count

-- a port, and after a slash the number of ports
abbrev pub is_port : List ℕ → Bool
is_port text = is_port_number (before_first (λ b. b == 47) text) && is_count (behind_first 47 text)

-- a port, and the one transport protocol that this profile takes
abbrev pub names_transport : List ℕ → List ℕ → Bool
names_transport port proto = is_port port && bytes_eq proto (codes "RTP/AVP")

-- media, port, the one transport protocol that this profile takes, and one format or more
abbrev pub named_by : List (List ℕ) → Option MediaLine
named_by (media ∷ port ∷ proto ∷ format ∷ formats) =
    if names_transport port proto then Some (record { media = media; formats = format ∷ formats }) else None
named_by _ = None

abbrev pub begins_with_space : List ℕ → Bool
begins_with_space text = bytes_eq (take 1 text) (codes " ")

-- what an `m=` line names; nothing where it has another form
unfoldable pub media_of : List ℕ → Option MediaLine
media_of line = if begins_with_space (drop 2 line) then None else named_by (words (without_trailing_blanks (drop 2 line)))
