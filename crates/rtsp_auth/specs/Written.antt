-- A field of challenges as a server writes it (RFC 7235, 2.1 and 4.1), apart from how it is read.
use Rattle.std.specs.Prelude.{◌≡◌, ◌<◌, ℕ, Bool, true, false, List, [], ◌∷◌, ◌++◌, Option, None, Some, length, map, codes}
use Rattle.std.specs.Char.{is_ascii_control}
use Rattle.std.specs.List.{AllByRecursion, flat_map, join_with_byte}
use Rattle.base_syntax.specs.Blanks.{HasBareEnds, is_blank}
use Rattle.rtsp_auth.specs.declared.item.Item.{Item}
use Rattle.rtsp_auth.specs.declared.item.Item.TheVariants as items
use Rattle.rtsp_auth.specs.Answers.{quoted_byte}
use Rattle.rtsp_auth.specs.Items.{scheme_of}
use Rattle.rtsp_auth.specs.Values.{is_bare_byte}
use Rattle.rtsp_auth.specs.Words.{is_token_byte}

-- token = 1*tchar
abbrev pub IsToken : List ℕ → Type 0
IsToken text = (0 < length text) × AllByRecursion (λ byte. is_token_byte byte ≡ true) text

abbrev pub HasNoControl : List ℕ → Type 0
HasNoControl text = AllByRecursion (λ byte. is_ascii_control byte ≡ false) text

abbrev pub AreBlanks : List ℕ → Type 0
AreBlanks text = AllByRecursion (λ byte. is_blank byte ≡ true) text

-- A parameter, with the scheme before it if it is the first of its challenge, between blanks.
pub record Part : Type 0 where
  pub front : List ℕ
  pub scheme : Option (List ℕ)
  pub name : List ℕ
  pub is_quoted : Bool
  pub value : List ℕ
  pub back : List ℕ

-- One or more bytes of a value without quotes, with no blank at the ends. RFC 7235 has tokens, which are such texts.
pub record IsBare (value : List ℕ) : Type 0 where
  pub some : 0 < length value
  pub bytes : AllByRecursion (λ byte. is_bare_byte byte ≡ true) value
  pub ends : HasBareEnds value

-- token / quoted-string
abbrev pub value_text : (is_quoted : Bool) (value : List ℕ) → List ℕ
value_text true value = codes "\"" ++ (flat_map quoted_byte value ++ codes "\"")
value_text false value = value

-- auth-scheme 1*SP
abbrev pub scheme_text : Option (List ℕ) → List ℕ
scheme_text None = []
scheme_text (Some scheme) = scheme ++ codes " "

-- auth-param = token "=" ( token / quoted-string ), where a text with blanks may be in place of a token
abbrev pub parameter_text : Part → List ℕ
parameter_text part = part.name ++ (codes "=" ++ value_text part.is_quoted part.value)

abbrev pub part_text : Part → List ℕ
part_text part = part.front ++ ((scheme_text part.scheme ++ parameter_text part) ++ part.back)

-- the field: parts with commas between them
abbrev pub parts_text : List Part → List ℕ
parts_text parts = join_with_byte 44 (map part_text parts)

abbrev pub IsScheme : Option (List ℕ) → Type 0
IsScheme None = Unit {0}
IsScheme (Some scheme) = IsToken scheme

abbrev pub IsValue : (is_quoted : Bool) (value : List ℕ) → Type 0
IsValue true value = HasNoControl value
IsValue false value = IsBare value

-- The part can be written.
pub record IsPart (part : Part) : Type 0 where
  pub front : AreBlanks part.front
  pub scheme : IsScheme part.scheme
  pub name : IsToken part.name
  pub value : IsValue part.is_quoted part.value
  pub back : AreBlanks part.back

-- what a part says
abbrev pub scheme_items : Option (List ℕ) → List Item
scheme_items None = []
scheme_items (Some scheme) = items.Scheme (scheme_of scheme) ∷ []

abbrev pub part_items : Part → List Item
part_items part = scheme_items part.scheme ++ items.Parameter (record { name = part.name; value = part.value }) ∷ []
