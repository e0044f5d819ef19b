-- The controls that players are given, and what ends in one.
use Rattle.std.proofs.Common.{◌≡◌, ℕ, zero, suc, ◌+◌, ◌<◌, ◌≤◌, ◌^◌, Some, List, [], ◌∷◌, ◌++◌, length, length-append, take, drop, get_or, refl, sym, ap, ◌∙◌, arith, codes}
use Rattle.std.specs.Fmt.{decimal}
use Rattle.std.specs.Str.Parse.{AllDigits, digits_value}
use Rattle.std.proofs.lemmas.Fmt.{decimal_digit, decimal_injective, decimal_is_IsNumeral, decimal-digits_value, first_decimal}
use Rattle.std.proofs.lemmas.Str.Parse.{IsNumeralModel}
use Rattle.std.proofs.lemmas.List.{append_cancel_left}
use Rattle.base_syntax.specs.Numbers.{number_up_to}
use Rattle.base_syntax.proofs.Digits.{number_only, number_read}
use Rattle.sdp.specs.Written.{track_control}
use Rattle.mounts.specs.Names.{EndsInTrack, HasTrackAt, IsShortNumeral}
use Rattle.mounts.specs.Uri.{slash}
use Rattle.mounts.proofs.Finding.{slash_at}

own : IsNumeralModel (AllDigits 10) (digits_value 10)
own = record { to = λ ds h. h; from = λ ds h. h; same = λ ds h. refl }

-- what is written of a number is short
pub short_decimal : (n : ℕ) → n < 2 ^ 64 → IsShortNumeral (decimal n)
short_decimal n small = record { numeral = (decimal_is_IsNumeral n small).0; short = by n small }
  where
    by : (k : ℕ) → k < 2 ^ 64 → get_or (decimal k) 0 0 ≡ 48 → length (decimal k) ≡ 1
    by zero low first = ap length (decimal_digit 0 (omega arith))
    by (suc k) low first = let more = first_decimal (suc k) (omega arith) low in absurd (omega arith)

-- and read again
pub decimal_read : (limit n : ℕ) → n < 2 ^ 64 → n ≤ limit → number_up_to limit (decimal n) ≡ Some n
decimal_read limit n small most = let is = decimal_is_IsNumeral n small in number_read limit (decimal n) n (record { numeral = is.0; value = is.1; most = most })

-- a short numeral that is read is what is written of its number
pub read_decimal : (limit n : ℕ) (digits : List ℕ) → limit < 2 ^ 64 → IsShortNumeral digits → number_up_to limit digits ≡ Some n → decimal n ≡ digits
read_decimal limit n digits small short read =
    let is = number_only limit digits n read in
    let most = is.most in
    let value = is.value in
    ap decimal (sym value) ∙ decimal-digits_value own digits short.numeral.1 short.numeral.0 short.short (omega (arith, most, value))

same_digits : (a b : List ℕ) → codes "trackID=" ++ a ≡ codes "trackID=" ++ b → a ≡ b
same_digits a b e = append_cancel_left (codes "trackID=") a b e

-- a track's control that is read is that of this number alone
pub control_read : (text digits : List ℕ) (k : ℕ) → k ≤ 15 → text ≡ codes "trackID=" ++ digits → text ≡ track_control k → number_up_to 15 digits ≡ Some k
control_read text digits k few is control = ap (number_up_to 15) (same_digits digits (decimal k) (sym is ∙ control)) ∙ decimal_read 15 k (omega arith) few

pub read_control : (text digits : List ℕ) (k : ℕ) → IsShortNumeral digits → text ≡ codes "trackID=" ++ digits → number_up_to 15 digits ≡ Some k → text ≡ track_control k
read_control text digits k short is read = is ∙ ap (λ ds. codes "trackID=" ++ ds) (sym (read_decimal 15 k digits (omega arith) short read))

-- two tracks' controls differ
pub control_injective : (j k : ℕ) → j < 2 ^ 64 → k < 2 ^ 64 → track_control j ≡ track_control k → j ≡ k
control_injective j k a b e = decimal_injective j k a b (same_digits (decimal j) (decimal k) e)

-- a track's name after a slash ends the path, and nothing else does
pub ends_at : (path : List ℕ) (place : ℕ) → place < length path → HasTrackAt path place → EndsInTrack path
ends_at path place within h =
    let one : suc place ≡ place + 1 = omega arith in
    record {
      front = take place path;
      digits = h.digits;
      numeral = h.numeral;
      ends = slash_at path place within h.cut ∙ ap (λ n. take place path ++ slash ∷ drop n path) one ∙ ap (λ rest. take place path ++ slash ∷ rest) h.ends;
    }

front_read : (front rest : List ℕ) → get_or (front ++ slash ∷ rest) (length front) 0 ≡ slash
front_read [] rest = refl
front_read (b ∷ front) rest = front_read front rest

front_dropped : (front rest : List ℕ) → drop (suc (length front)) (front ++ slash ∷ rest) ≡ rest
front_dropped [] rest = refl
front_dropped (b ∷ front) rest = front_dropped front rest

pub stands_at : (path : List ℕ) (h : EndsInTrack path) → (length h.front < length path) × HasTrackAt path (length h.front)
stands_at path h =
    let one : length h.front + 1 ≡ suc (length h.front) = omega arith in
    let long = ap length h.ends in (
      omega (arith, long, length-append h.front (slash ∷ (codes "trackID=" ++ h.digits))),
      record {
        cut = ap (λ p. get_or p (length h.front) 0) h.ends ∙ front_read h.front (codes "trackID=" ++ h.digits);
        digits = h.digits;
        numeral = h.numeral;
        ends = ap (λ n. drop n path) one ∙ ap (drop (suc (length h.front))) h.ends ∙ front_dropped h.front (codes "trackID=" ++ h.digits);
      },
    )
