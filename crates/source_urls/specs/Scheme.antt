-- The scheme of an absolute URI (RFC 3986, 3.1; RFC 2326, 3.2 has `rtsp` and `rtspu`, and RFC 7826, 4.2 `rtsps`).
use Rattle.std.specs.Prelude.{ℕ, ◌==◌, ◌&&◌, ◌||◌, Bool, false, not, nat_eq, List, [], ◌∷◌, Option, None, Some, codes}
use Rattle.std.specs.Char.{is_ascii_alphabetic, is_ascii_alphanumeric}
use Rattle.std.specs.List.{before_first, list_all, starts_with}
use Rattle.base_syntax.specs.Cuts.{behind_first}
use Rattle.source_urls.specs.Parts.{has_scheme}

-- a letter, a digit, a plus sign, a hyphen or a dot
abbrev pub is_scheme_byte : ℕ → Bool
is_scheme_byte b = ((is_ascii_alphanumeric b || b == 43) || b == 45) || b == 46

-- a letter, and such bytes
abbrev pub is_scheme : List ℕ → Bool
is_scheme [] = false
is_scheme (b ∷ bs) = is_ascii_alphabetic b && list_all is_scheme_byte bs

-- two slashes begin what is behind a colon, as they do before a host
abbrev pub begins_location : (behind : Option (List ℕ)) → Bool
begins_location None = false
begins_location (Some behind) = starts_with nat_eq behind (codes "//")

-- the text begins with a scheme, a colon and two slashes
abbrev pub is_absolute : List ℕ → Bool
is_absolute text = is_scheme (before_first (λ b. b == 58) text) && begins_location (behind_first 58 text)

-- it does, and the scheme isn't `rtsp`, without regard to case
abbrev pub has_other_scheme : List ℕ → Bool
has_other_scheme text = not (has_scheme (codes "rtsp://") text) && is_absolute text
