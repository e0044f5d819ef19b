-- Numbers of 64 bits, as the files of /proc write them.
use Rattle.std.specs.Prelude.{ℕ, min, List, Option}
use Rattle.base_syntax.specs.Numbers.{number_up_to}

-- the greatest number of 64 bits, 2^64 - 1
abbrev pub most : ℕ
most = 18446744073709551615

-- a number, or the greatest one of 64 bits if it is greater
abbrev pub capped : ℕ → ℕ
capped number = min number most

-- the number that a text spells: decimal digits, one or more, and nothing else. No number of more than 64 bits is spelled
abbrev pub number_of : (text : List ℕ) → Option ℕ
number_of text = number_up_to most text
