-- Decimal numbers (RFC 2326, 15.1: 1*DIGIT).
use Rattle.std.specs.Prelude.{◌≡◌, ◌≤◌, ℕ, Bool, ◌&&◌, nat_le, nat_lt, if◌then◌else◌, List, Option, None, Some, length}
use Rattle.std.specs.List.{list_all}
use Rattle.std.specs.Char.{is_ascii_digit}
use Rattle.std.specs.Str.Parse.{IsNumeral, digits_value}

-- one or more decimal digits
abbrev pub is_numeral : List ℕ → Bool
is_numeral text = nat_lt 0 (length text) && list_all is_ascii_digit text

-- the number that decimal digits write, where it is at most the limit
abbrev pub number_up_to : ℕ → List ℕ → Option ℕ
number_up_to limit text = if is_numeral text && nat_le (digits_value 10 text) limit then Some (digits_value 10 text) else None

-- The text is decimal digits, one or more, that write this number, and it is at most the limit.
pub record IsNumberUpTo (limit : ℕ) (text : List ℕ) (number : ℕ) : Type 0 where
  pub numeral : IsNumeral 10 text
  pub value : digits_value 10 text ≡ number
  pub most : number ≤ limit
