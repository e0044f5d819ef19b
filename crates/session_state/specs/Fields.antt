-- What the Accept and Content-Type fields of a request say (RFC 2326, 12.1 and 12.16; RFC 2068, 3.7 and 14.1).
use Rattle.std.specs.Prelude.{ℕ, ◌==◌, ◌||◌, Bool, if◌then◌else◌, List, [], ◌∷◌, codes}
use Rattle.std.specs.List.{before_first, list_any, onto_first}
use Rattle.base_syntax.specs.Blanks.{trimmed}
use Rattle.base_syntax.specs.Names.{same_name}

abbrev comma : ℕ
comma = 44

abbrev semicolon : ℕ
semicolon = 59

-- the parts of a text between commas
abbrev pub parts_at_commas : List ℕ → List (List ℕ)
parts_at_commas [] = [] ∷ []
parts_at_commas (b ∷ bs) = if b == comma then [] ∷ parts_at_commas bs else onto_first b (parts_at_commas bs)

-- a media type without its parameters
abbrev pub media_type : List ℕ → List ℕ
media_type text = trimmed (before_first (λ b. b == semicolon) text)

-- the media type of descriptions (RFC 2326, C.1)
abbrev pub sdp_type : List ℕ
sdp_type = codes "application/sdp"

abbrev pub is_sdp : List ℕ → Bool
is_sdp text = same_name (media_type text) sdp_type

-- a media range that has descriptions in it
abbrev pub has_sdp : List ℕ → Bool
has_sdp range = is_sdp range || same_name (media_type range) (codes "application/*") || same_name (media_type range) (codes "*/*")

abbrev pub accepts_sdp : List ℕ → Bool
accepts_sdp text = list_any has_sdp (parts_at_commas text)
