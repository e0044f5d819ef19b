-- The methods that a server says it has (RFC 2326, 12.28).
use Rattle.std.specs.Prelude.{ℕ, Bool, List}
use Rattle.std.specs.List.{list_any}
use Rattle.std.specs.Str.{bytes_eq}
use Rattle.base_syntax.specs.Blanks.{trimmed}
use Rattle.base_syntax.specs.Quotes.{parts}

-- a part of a list between commas is this method
abbrev pub is_method : (method : List ℕ) → List ℕ → Bool
is_method method part = bytes_eq (trimmed part) method

-- the value names it: one of its parts between commas is it
abbrev pub names_method : (method : List ℕ) → List ℕ → Bool
names_method method public = list_any (is_method method) (parts 44 public)
