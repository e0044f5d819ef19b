-- Values of JSON (RFC 8259).
use Rattle.std.specs.Prelude.{ℕ, ◌+◌, ◌-◌, ◌==◌, Bool, nat_lt, if◌then◌else◌, List, [], ◌∷◌, ◌++◌, codes}
use Rattle.std.specs.List.{flat_map}
use Rattle.std.specs.Str.Lossy.{utf8_lossy}
use Rattle.std.specs.Net.Text.{socket_text}
use Rattle.std.specs.declared.net.socket_addr.SocketAddr.{SocketAddr}
use Rattle.status_json.specs.declared.key.Key.{Key}
use Rattle.status_json.specs.declared.key.Key.TheVariants as keys
use Rattle.status_json.specs.Keys.{key_text}

-- the hexadecimal digit of a number below 16
abbrev pub digit_of : ℕ → ℕ
digit_of number = if nat_lt number 10 then 48 + number else 97 + (number - 10)

-- a byte of a text as it is written: a quote and a backslash after a backslash, a control character by its number (7)
abbrev pub byte_text : ℕ → List ℕ
byte_text byte =
    if byte == 34 then codes "\\\""
    else if byte == 92 then codes "\\\\"
    else if nat_lt byte 16 then codes "\\u000" ++ digit_of byte ∷ []
    else if nat_lt byte 32 then codes "\\u001" ++ digit_of (byte - 16) ∷ []
    else byte ∷ []

-- a value behind what is before it
unfoldable pub keyed : (key : Key) → (value : List ℕ) → List ℕ
keyed key value = key_text key ++ value

-- a text in quotes, as UTF-8: what isn't is U+FFFD
unfoldable pub string_text : List ℕ → List ℕ
string_text text = keyed keys.Quote (flat_map byte_text (utf8_lossy text)) ++ codes "\""

abbrev pub truth_text : Bool → List ℕ
truth_text is = if is then codes "true" else codes "false"

-- a value that isn't the first of a list (5)
abbrev pub next_text : List ℕ → List ℕ
next_text value = keyed keys.Item value

-- values behind the first one of a list
unfoldable pub others_text : {X : Type 0} → (X → List ℕ) → List X → List ℕ
others_text text xs = flat_map (λ x. next_text (text x)) xs

-- values in brackets
unfoldable pub items_text : {X : Type 0} → (X → List ℕ) → X → List X → List ℕ
items_text text x xs = keyed keys.FirstItem (text x) ++ others_text text xs ++ codes "]"

abbrev pub list_text : {X : Type 0} → (X → List ℕ) → List X → List ℕ
list_text text [] = codes "[]"
list_text text (x ∷ xs) = items_text text x xs

-- members of an object that are a list, in braces
unfoldable pub some_members_text : {X : Type 0} → (X → List ℕ) → X → List X → List ℕ
some_members_text text x xs = keyed keys.FirstMember (text x) ++ others_text text xs ++ codes "}"

abbrev pub members_text : {X : Type 0} → (X → List ℕ) → List X → List ℕ
members_text text [] = codes "{}"
members_text text (x ∷ xs) = some_members_text text x xs

-- the text of an address, in quotes
unfoldable pub addr_text : SocketAddr → List ℕ
addr_text addr = string_text (socket_text addr)
