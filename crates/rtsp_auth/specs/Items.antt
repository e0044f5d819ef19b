-- What a field of challenges has, in order (RFC 7235, 2.1: challenge = auth-scheme [ 1*SP ( token68 / #auth-param ) ];
-- 4.1: WWW-Authenticate = 1#challenge).
use Rattle.std.specs.Prelude.{ℕ, ◌==◌, Bool, nat_lt, if◌then◌else◌, List, [], ◌∷◌, Option, None, Some, length, codes}
use Rattle.std.specs.List.{flat_map, list_any}
use Rattle.base_syntax.specs.Blanks.{trimmed}
use Rattle.base_syntax.specs.Names.{same_name}
use Rattle.rtsp_auth.specs.declared.item.Item.{Item}
use Rattle.rtsp_auth.specs.declared.item.Item.TheVariants as items
use Rattle.rtsp_auth.specs.declared.item.Scheme.{Scheme}
use Rattle.rtsp_auth.specs.declared.item.Scheme.TheVariants as schemes
use Rattle.rtsp_auth.specs.Pieces.{pieces}
use Rattle.rtsp_auth.specs.Values.{value_in}
use Rattle.rtsp_auth.specs.Words.{behind_word, word_of}

-- auth-scheme, in any case
abbrev pub scheme_of : (name : List ℕ) → Scheme
scheme_of name =
    if same_name name (codes "Digest") then schemes.Digest
    else if same_name name (codes "Basic") then schemes.Basic
    else schemes.Other

abbrev pub scheme_item : (name : List ℕ) → Item
scheme_item [] = items.Fault
scheme_item (byte ∷ bytes) = items.Scheme (scheme_of (byte ∷ bytes))

abbrev pub item_with : (name : List ℕ) (value : Option (List ℕ)) → Item
item_with name None = items.Fault
item_with name (Some value) = items.Parameter (record { name = name; value = value })

-- auth-param = token BWS "=" BWS ( token / quoted-string )
abbrev pub parameter_item : (name text : List ℕ) → Item
parameter_item [] text = items.Fault
parameter_item (byte ∷ bytes) text = item_with (byte ∷ bytes) (value_in (trimmed text))

-- the parameter of this name, if an equals sign is after the name
abbrev pub parameter_behind : (name behind : List ℕ) → Item
parameter_behind name [] = items.Fault
parameter_behind name (byte ∷ bytes) = if byte == 61 then parameter_item name bytes else items.Fault

abbrev pub parameter_in : List ℕ → Item
parameter_in text = parameter_behind (word_of text) (behind_word text)

-- a piece that begins with this word: the word is a scheme, with nothing or a parameter after it, or it is the name of a parameter
abbrev pub items_behind : (word behind : List ℕ) → List Item
items_behind word [] = scheme_item word ∷ []
items_behind word (byte ∷ bytes) =
    if byte == 61 then parameter_item word bytes ∷ [] else scheme_item word ∷ parameter_in (byte ∷ bytes) ∷ []

-- an empty piece has nothing (RFC 7230, 7)
abbrev pub items_of_text : List ℕ → List Item
items_of_text [] = []
items_of_text (byte ∷ bytes) = items_behind (word_of (byte ∷ bytes)) (behind_word (byte ∷ bytes))

abbrev pub items_in : (piece : List ℕ) → List Item
items_in piece = items_of_text (trimmed piece)

-- what a field has
abbrev pub field_items : (field : List ℕ) → List Item
field_items field = flat_map items_in (pieces field)

-- several fields are as one, with commas between them (RFC 7230, 3.2.2)
abbrev pub fields_items : (fields : List (List ℕ)) → List Item
fields_items fields = flat_map field_items fields

-- a field of a server has more than 4,096 bytes
abbrev pub has_long : (fields : List (List ℕ)) → Bool
has_long fields = list_any (λ field. nat_lt 4096 (length field)) fields
