-- The status of a reply (RFC 2326, 7.1.1).
use Rattle.std.specs.Prelude.{ℕ, List, unwrap_or}
use Rattle.base_syntax.specs.Numbers.{number_up_to}

-- the status that three digits write
abbrev pub status_of : List ℕ → ℕ
status_of digits = unwrap_or (number_up_to 999 digits) 0
