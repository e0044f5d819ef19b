-- Cutting a text outside of double quotes (RFC 2326, 15.1: quoted-string).
use Rattle.std.specs.Prelude.{◌≡◌, ℕ, suc, ◌<◌, ◌==◌, ◌&&◌, Bool, true, false, not, cond, List, [], ◌∷◌, Option, None, Some, length, take, slice_index}
use Rattle.std.specs.List.{fold, onto_first}

abbrev pub double_quote : ℕ
double_quote = 34

-- a double quote opens a quoted text, and the next one closes it
abbrev pub quoted_after : Bool → ℕ → Bool
quoted_after quoted b = cond (b == double_quote) (not quoted) quoted

-- the byte is the separator, outside of quotes
abbrev pub cuts : ℕ → Bool → ℕ → Bool
cuts separator quoted b = not quoted && b == separator

-- the parts of a text that begins inside of quotes or outside
abbrev pub parts_from : ℕ → Bool → List ℕ → List (List ℕ)
parts_from separator quoted [] = [] ∷ []
parts_from separator quoted (b ∷ bs) =
    cond (cuts separator quoted b) ([] ∷ parts_from separator false bs) (onto_first b (parts_from separator (quoted_after quoted b) bs))

-- the parts of a text between the separators that stand outside of double quotes; a quote that isn't
-- closed reaches to the end of the text
abbrev pub parts : ℕ → List ℕ → List (List ℕ)
parts separator text = parts_from separator false text

-- the parts of what is left of a text, where something is
abbrev pub rest_parts : ℕ → Option (List ℕ) → List (List ℕ)
rest_parts separator None = []
rest_parts separator (Some text) = parts separator text

-- how much is left of it
abbrev pub rest_size : Option (List ℕ) → ℕ
rest_size None = 0
rest_size (Some text) = suc (length text)

-- whether a quote is open after some bytes: each double quote opens one or closes it
abbrev pub is_open : List ℕ → Bool
is_open bytes = fold quoted_after false bytes

-- each separator among the bytes stands inside of quotes
abbrev pub IsUncut : ℕ → List ℕ → Type 0
IsUncut separator bytes = (k : ℕ) → k < length bytes → slice_index bytes k ≡ separator → is_open (take k bytes) ≡ true

-- the parts of some text: one or more, none of them to be cut, each but the last with its quotes closed
abbrev pub AreParts : ℕ → List (List ℕ) → Type 0
AreParts separator [] = ⊥
AreParts separator (part ∷ []) = IsUncut separator part
AreParts separator (part ∷ next ∷ others) = IsUncut separator part × (is_open part ≡ false) × AreParts separator (next ∷ others)
