-- What the text of a time means.
use Rattle.std.proofs.Common.{◌≡◌, ℕ, ◌+◌, ◌*◌, ◌/◌, ◌%◌, ◌<◌, ◌≤◌, ◌^◌, List, [], ◌∷◌, ◌++◌, decimal, refl, ap, append_assoc, arith}
use Rattle.std.proofs.lemmas.Fmt.{decimal_is_IsNumeral}
use Rattle.std.proofs.lemmas.Int.Digits.{digits_value_push}
use Rattle.std.proofs.lemmas.Str.{digit_value_digit}
use Rattle.std.specs.Char.{digit_value}
use Rattle.std.specs.Str.Parse.{digits_value}
use Rattle.exposition.specs.Exposition.{three_digits, seconds_text}
use Rattle.exposition.specs.Reading.{IsSeconds}

-- the number of some digits and three more
three_more : (ds : List ℕ) (a b c : ℕ) → digits_value 10 (ds ++ (a ∷ b ∷ c ∷ [])) ≡ ((digits_value 10 ds * 10 + digit_value a) * 10 + digit_value b) * 10 + digit_value c
three_more ds a b c =
    let one : List ℕ = ds ++ a ∷ [] in
    let two : List ℕ = one ++ b ∷ [] in
    let pushed : two ++ c ∷ [] ≡ ds ++ (a ∷ b ∷ c ∷ []) = simp append_assoc in
    omega (arith, ap (digits_value 10) pushed, digits_value_push 10 two c, digits_value_push 10 one b, digits_value_push 10 ds a)

digit_is : (digit : ℕ) → digit < 10 → digit_value (48 + digit) ≡ digit
digit_is digit below =
    let low : 48 ≤ 48 + digit = omega arith in
    let high : 48 + digit ≤ 57 = omega arith in
    omega (arith, digit_value_digit (48 + digit) (low, high))

pub seconds_are : (milliseconds : ℕ) → milliseconds < 2 ^ 64 → IsSeconds (seconds_text milliseconds) milliseconds
seconds_are milliseconds fits =
    let seconds = milliseconds / 1000 in
    let number = milliseconds % 1000 in
    let numeral = decimal_is_IsNumeral seconds (omega arith) in
    let a = digit_is (number / 100) (omega arith) in
    let b = digit_is (number / 10 % 10) (omega arith) in
    let c = digit_is (number % 10) (omega arith) in
    record {
      seconds = decimal seconds;
      decimals = three_digits number;
      parts = refl;
      numeral = numeral.0;
      digits = (omega (arith, a), (omega (arith, b), (omega (arith, c), tt)));
      three = refl;
      value = omega (arith, three_more (decimal seconds) (48 + number / 100) (48 + number / 10 % 10) (48 + number % 10), numeral.1, a, b, c);
    }
