-- Names (RFC 2068, 4.2: field names are compared without regard to case).
use Rattle.std.specs.Prelude.{ℕ, Bool, List}
use Rattle.std.specs.Str.{str_eq_ignore_ascii_case}

-- the two are one name: they differ in the case of ASCII letters alone
abbrev pub same_name : List ℕ → List ℕ → Bool
same_name a b = str_eq_ignore_ascii_case a b
