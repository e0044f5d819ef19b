-- The parameters of a challenge: the items after its scheme, up to the next scheme (RFC 7616, 3.3).
use Rattle.std.specs.Prelude.{ℕ, Bool, true, false, nat_lt, if◌then◌else◌, List, [], ◌∷◌, Option, None, Some, length, codes}
use Rattle.std.specs.List.{list_any}
use Rattle.std.specs.Option.{option_map_or}
use Rattle.base_syntax.specs.Blanks.{trimmed}
use Rattle.base_syntax.specs.Names.{same_name}
use Rattle.base_syntax.specs.Quotes.{parts}
use Rattle.rtsp_auth.specs.declared.algorithm.Algorithm.{Algorithm}
use Rattle.rtsp_auth.specs.declared.algorithm.Algorithm.TheVariants as algorithms
use Rattle.rtsp_auth.specs.declared.item.Item.{Item}
use Rattle.rtsp_auth.specs.declared.item.Item.TheVariants as items

-- something among them is no parameter
abbrev pub has_fault : List Item → Bool
has_fault [] = false
has_fault (items.Scheme scheme ∷ others) = false
has_fault (items.Parameter parameter ∷ others) = has_fault others
has_fault (items.Fault ∷ others) = true

-- the value of the first parameter with a name, in any case
abbrev pub value_named : (name : List ℕ) → List Item → Option (List ℕ)
value_named name [] = None
value_named name (items.Scheme scheme ∷ others) = None
value_named name (items.Parameter parameter ∷ others) =
    if same_name parameter.name name then Some parameter.value else value_named name others
value_named name (items.Fault ∷ others) = value_named name others

-- its value has more than 1,024 bytes
abbrev pub is_long : (name : List ℕ) → List Item → Bool
is_long name parameters = option_map_or (λ value. nat_lt 1024 (length value)) (value_named name parameters) false

-- algorithm: a challenge that names none has MD5
abbrev pub algorithm_of : (name : List ℕ) → Option Algorithm
algorithm_of name =
    if same_name name (codes "MD5") then Some algorithms.Md5
    else if same_name name (codes "SHA-256") then Some algorithms.Sha256
    else None

abbrev pub algorithm_in : List Item → Option Algorithm
algorithm_in parameters = option_map_or algorithm_of (value_named (codes "algorithm") parameters) (Some algorithms.Md5)

-- qop: words with commas between them. One that has no `auth` can't be answered.
abbrev pub is_auth : (word : List ℕ) → Bool
is_auth word = same_name (trimmed word) (codes "auth")

abbrev pub offers_auth : (words : List ℕ) → Bool
offers_auth words = list_any is_auth (parts 44 words)

abbrev pub qop_of : (words : List ℕ) → Option Bool
qop_of words = if offers_auth words then Some true else None

abbrev pub qop_in : List Item → Option Bool
qop_in parameters = option_map_or qop_of (value_named (codes "qop") parameters) (Some false)

-- stale: only `true` says that the nonce was too old
abbrev pub is_stale : List Item → Bool
is_stale parameters = option_map_or (λ value. same_name value (codes "true")) (value_named (codes "stale") parameters) false
