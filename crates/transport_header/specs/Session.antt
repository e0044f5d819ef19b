-- The session identifier (RFC 2326, 3.4 and 12.37).
use Rattle.std.specs.Prelude.{ℕ, ◌/◌, ◌%◌, ◌^◌, ◌==◌, ◌-◌, false, List, [], ◌∷◌, ◌++◌, Option, drop, map, codes}
use Rattle.std.specs.Fmt.{digit_glyph}
use Rattle.std.specs.List.{before_first}
use Rattle.std.specs.Option.{option_and_then}
use Rattle.base_syntax.specs.Blanks.{trimmed}
use Rattle.base_syntax.specs.Numbers.{number_up_to}
use Rattle.base_syntax.specs.Quotes.{parts}
use Rattle.transport_header.specs.Separators.{semicolon}
use Rattle.transport_header.specs.Transport.{value_named}

-- the lower-case hexadecimal digit of n that stands for its multiples of 16 ^ place
abbrev pub digit_at : ℕ → ℕ → ℕ
digit_at n place = digit_glyph false (n / 16 ^ place % 16)

-- the eight hexadecimal digits of a number below 2 ^ 32
abbrev pub eight_digits : ℕ → List ℕ
eight_digits n = digit_at n 7 ∷ digit_at n 6 ∷ digit_at n 5 ∷ digit_at n 4 ∷ digit_at n 3 ∷ digit_at n 2 ∷ digit_at n 1 ∷ digit_at n 0 ∷ []

-- a session's identifier: its number in the first eight digits, its word in the last eight
unfoldable pub identifier_text : ℕ → ℕ → List ℕ
identifier_text number word = eight_digits number ++ eight_digits word

-- the identifier that a Session header's value holds: what stands before the first ';'
unfoldable pub identifier_in : List ℕ → List ℕ
identifier_in text = trimmed (before_first (λ b. b == semicolon) text)

-- the seconds that the first parameter `timeout` of a Session header's value names, if it has one and that is a number
unfoldable pub timeout_in : List ℕ → Option ℕ
timeout_in text = option_and_then (number_up_to (2 ^ 32 - 1)) (value_named (codes "timeout") (map trimmed (drop 1 (parts semicolon text))))
