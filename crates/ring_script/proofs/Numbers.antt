-- Numbers of up to nine digits.
use Rattle.std.proofs.Common.{ℕ, ◌^◌, ◌<◌, ◌≤◌, List, length, arith}
use Rattle.std.specs.Str.Parse.{IsNumeral, digits_value}
use Rattle.std.proofs.Math.Nat.{pow-le-pow_right}
use Rattle.std.proofs.lemmas.Int.Digits.{digits_value-lt}

pub nine_digits : (text : List ℕ) → IsNumeral 10 text → length text ≤ 9 → digits_value 10 text ≤ 999999999
nine_digits text numeral few =
    let less : digits_value 10 text < 10 ^ length text = digits_value-lt 10 text numeral.1 in
    let some : 0 < 10 = omega arith in
    let most : 10 ^ length text ≤ 1000000000 = pow-le-pow_right some few in
    omega arith
