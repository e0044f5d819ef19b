-- The bytes that have a meaning in these headers, as they are written (RFC 2326, 15.1: tspecials).
use Rattle.std.specs.Prelude.{ℕ}

abbrev pub comma : ℕ
comma = 44

abbrev pub semicolon : ℕ
semicolon = 59

abbrev pub equals_sign : ℕ
equals_sign = 61

abbrev pub dash : ℕ
dash = 45
