-- Digits of a text, one by one, and the number that they write.
use Rattle.std.proofs.Common.{◌≡◌, ◌<◌, ◌≤◌, ℕ, ◌+◌, ◌-◌, ◌*◌, min, take, get_or, Bool, true, false, List, [], ◌∷◌, Some, None, length, refl, ap, sym, ◌∙◌, arith}
use Rattle.std.specs.Prelude.{nat_le, nat_lt}
use Rattle.std.specs.Char.{is_ascii_digit, digit_value}
use Rattle.std.specs.List.{list_all}
use Rattle.std.specs.Str.Parse.{AllDigits, IsNumeral, digits_value}
use Rattle.std.proofs.lemmas.Bool.{and_parts, leb-true, lt-ltb, le-leb, ltb-true, ne_eqb}
use Rattle.std.proofs.lemmas.Bool.Decides.{nat_tests}
use Rattle.std.proofs.lemmas.Int.Digits.{digits_value_more}
use Rattle.std.proofs.lemmas.List.Folds.{list_all_more}
use Rattle.base_syntax.specs.Cuts.{HasNone}
use Rattle.base_syntax.specs.Numbers.{IsNumberUpTo, is_numeral, number_up_to}

digit_to : (c : ℕ) → is_ascii_digit c ≡ true → digit_value c < 10
digit_to c h = grind (arith, nat_tests)

digit_from : (c : ℕ) → digit_value c < 10 → is_ascii_digit c ≡ true
digit_from c h = grind (arith, nat_tests)

pub digits_to : (ds : List ℕ) → list_all is_ascii_digit ds ≡ true → AllDigits 10 ds
digits_to [] h = tt
digits_to (c ∷ cs) h = let parts = and_parts (is_ascii_digit c) (list_all is_ascii_digit cs) h in (digit_to c parts.0, digits_to cs parts.1)

pub digits_from : (ds : List ℕ) → AllDigits 10 ds → list_all is_ascii_digit ds ≡ true
digits_from [] h = refl
digits_from (c ∷ cs) h = rw (digit_from c h.0, digits_from cs h.1) refl

-- one or more digits, by test and by form
pub numeral_to : (text : List ℕ) → is_numeral text ≡ true → IsNumeral 10 text
numeral_to text h = let parts = and_parts (nat_lt 0 (length text)) (list_all is_ascii_digit text) h in (ltb-true 0 (length text) parts.0, digits_to text parts.1)

pub numeral_from : (text : List ℕ) → IsNumeral 10 text → is_numeral text ≡ true
numeral_from text h = rw (lt-ltb 0 (length text) h.0, digits_from text h.1) refl

none_some : {n : ℕ} {P : Type 0} → None ≡ Some n → P
none_some e = absurd (cc)

pub number_read : (limit : ℕ) (text : List ℕ) (number : ℕ) → IsNumberUpTo limit text number → number_up_to limit text ≡ Some number
number_read limit text number p =
    let small : digits_value 10 text ≤ limit = omega (arith, p.value, p.most) in
    rw (numeral_from text p.numeral, le-leb (digits_value 10 text) limit small) (ap (λ (n : ℕ). Some n) p.value)

pub number_only : (limit : ℕ) (text : List ℕ) (number : ℕ) → number_up_to limit text ≡ Some number → IsNumberUpTo limit text number
number_only limit text number = go (is_numeral text) (nat_le (digits_value 10 text) limit) refl refl
  where
    go : (numeral small : Bool) → is_numeral text ≡ numeral → nat_le (digits_value 10 text) limit ≡ small → number_up_to limit text ≡ Some number → IsNumberUpTo limit text number
    go false small e f h = none_some (sym (rw e refl) ∙ h)
    go true false e f h = none_some (sym (rw (e, f) refl) ∙ h)
    go true true e f h =
        let found : Some (digits_value 10 text) ≡ Some number = sym (rw (e, f) refl) ∙ h in
        let same : digits_value 10 text ≡ number = cc in
        record { numeral = numeral_to text e; value = same; most = omega (arith, leb-true (digits_value 10 text) limit f, same) }

digit_is : (c : ℕ) → is_ascii_digit c ≡ true → digit_value c ≡ c - 48
digit_is c h = grind (arith, nat_tests)

-- one digit more, where numbers past the limit count as one past it
pub more_digits : (text : List ℕ) (i value step limit : ℕ) → i < length text → list_all is_ascii_digit (take i text) ≡ true → value ≡ min (digits_value 10 (take i text)) (limit + 1)
    → is_ascii_digit (get_or text i 0) ≡ true → step ≡ get_or text i 0 - 48
    → (list_all is_ascii_digit (take (i + 1) text) ≡ true) × (min (value * 10 + step) (limit + 1) ≡ min (digits_value 10 (take (i + 1) text)) (limit + 1))
more_digits text i value step limit below digits value_is digit step_is = (
  list_all_more is_ascii_digit text i 0 below ∙ rw (digits, digit) refl,
  omega (arith, value_is, step_is, digits_value_more 10 text i below, digit_is (get_or text i 0) digit),
)

-- a byte that is no digit stands nowhere among digits
pub none_in_digits : (byte : ℕ) → 10 ≤ digit_value byte → (digits : List ℕ) → AllDigits 10 digits → HasNone byte digits
none_in_digits byte past [] h = tt
none_in_digits byte past (c ∷ cs) h = (ne_eqb c byte (λ e. omega (arith, h.0, past, ap digit_value e)), none_in_digits byte past cs h.1)
