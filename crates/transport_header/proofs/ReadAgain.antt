-- Session identifiers are read as they are written, and tell sessions apart.
use Rattle.std.proofs.Common.{◌≡◌, ◌<◌, ◌-◌, ◌/◌, ◌%◌, ◌^◌, ◌==◌, ℕ, zero, suc, false, List, [], ◌∷◌, ◌++◌, length, take, drop, get_or, sym, ap, ◌∙◌, arith, append-nil}
use Rattle.std.specs.Fmt.{digit_glyph}
use Rattle.std.specs.List.{AllByRecursion}
use Rattle.std.proofs.lemmas.Bool.Decides.{nat_tests}
use Rattle.base_syntax.specs.Blanks.{is_blank, trimmed}
use Rattle.base_syntax.specs.Cuts.{HasNone}
use Rattle.base_syntax.proofs.Cuts.{uncut}
use Rattle.base_syntax.proofs.Trims.{only_core}
use Rattle.transport_header.specs.Session.{digit_at, eight_digits, identifier_text, identifier_in}

-- a byte that neither ends an identifier nor is dropped at its ends
abbrev pub IsPlain : ℕ → Type 0
IsPlain b = ((b == 59) ≡ false) × (is_blank b ≡ false)

-- where each byte is plain, nothing is cut off
pub plain_at : (text : List ℕ) → AllByRecursion IsPlain text → (k : ℕ) → k < length text → IsPlain (get_or text k 0)
plain_at [] h k below = absurd (omega arith)
plain_at (b ∷ bs) h zero below = h.0
plain_at (b ∷ bs) h (suc k) below = plain_at bs h.1 k (omega arith)

no_semicolon : (text : List ℕ) → AllByRecursion IsPlain text → HasNone 59 text
no_semicolon [] h = tt
no_semicolon (b ∷ bs) h = (h.0.0, no_semicolon bs h.1)

pub plain_trimmed : (text : List ℕ) → AllByRecursion IsPlain text → trimmed text ≡ text
plain_trimmed text plain = sym (only_core text text (record {
  front = [];
  back = [];
  whole = sym (append-nil text);
  front_blank = λ k d below. absurd (omega arith);
  back_blank = λ k d below. absurd (omega arith);
  bare = λ some. ((plain_at text plain 0 some).1, (plain_at text plain (length text - 1) (omega arith)).1);
}))

plain_identifier : (text : List ℕ) → AllByRecursion IsPlain text → identifier_in text ≡ text
unfolding identifier_in
plain_identifier text plain = ap trimmed (uncut 59 text (no_semicolon text plain)).0 ∙ plain_trimmed text plain

plain_glyph : (d : ℕ) → IsPlain (digit_glyph false (d % 16))
plain_glyph d = (grind (arith, nat_tests), grind (arith, nat_tests))

plain_digits : (n : ℕ) (rest : List ℕ) → AllByRecursion IsPlain rest → AllByRecursion IsPlain (eight_digits n ++ rest)
plain_digits n rest plain =
    let at : (place : ℕ) → IsPlain (digit_at n place) = λ place. plain_glyph (n / 16 ^ place) in
    (at 7, (at 6, (at 5, (at 4, (at 3, (at 2, (at 1, (at 0, plain))))))))

plain_text : (number word : ℕ) → AllByRecursion IsPlain (identifier_text number word)
unfolding identifier_text
plain_text number word = plain_digits number (eight_digits word) (plain_digits word [] tt)

pub read_again : (number word : ℕ) → identifier_in (identifier_text number word) ≡ identifier_text number word
read_again number word = plain_identifier (identifier_text number word) (plain_text number word)

-- the digits of a number tell it
glyph_tells : (a b : ℕ) → digit_glyph false (a % 16) ≡ digit_glyph false (b % 16) → a % 16 ≡ b % 16
glyph_tells a b h = grind (arith, nat_tests)

up : (a b : ℕ) → a / 16 ≡ b / 16 → a % 16 ≡ b % 16 → a ≡ b
up a b high low = omega arith

tells : (n m : ℕ) → n < 2 ^ 32 → m < 2 ^ 32 → eight_digits n ≡ eight_digits m → n ≡ m
tells n m small small' same =
    let last : n % 16 ≡ m % 16 = omega (arith, glyph_tells (n / 16 ^ 0) (m / 16 ^ 0) (ap (λ t. get_or t 7 0) same)) in
    let at_7 : n / 16 ^ 7 ≡ m / 16 ^ 7 = omega (arith, glyph_tells (n / 16 ^ 7) (m / 16 ^ 7) (ap (λ t. get_or t 0 0) same)) in
    let at_6 : n / 16 ^ 6 ≡ m / 16 ^ 6 = let above : n / 16 ^ 6 / 16 ≡ m / 16 ^ 6 / 16 = omega (arith, at_7) in up _ _ above (glyph_tells (n / 16 ^ 6) (m / 16 ^ 6) (ap (λ t. get_or t 1 0) same)) in
    let at_5 : n / 16 ^ 5 ≡ m / 16 ^ 5 = let above : n / 16 ^ 5 / 16 ≡ m / 16 ^ 5 / 16 = omega (arith, at_6) in up _ _ above (glyph_tells (n / 16 ^ 5) (m / 16 ^ 5) (ap (λ t. get_or t 2 0) same)) in
    let at_4 : n / 16 ^ 4 ≡ m / 16 ^ 4 = let above : n / 16 ^ 4 / 16 ≡ m / 16 ^ 4 / 16 = omega (arith, at_5) in up _ _ above (glyph_tells (n / 16 ^ 4) (m / 16 ^ 4) (ap (λ t. get_or t 3 0) same)) in
    let at_3 : n / 16 ^ 3 ≡ m / 16 ^ 3 = let above : n / 16 ^ 3 / 16 ≡ m / 16 ^ 3 / 16 = omega (arith, at_4) in up _ _ above (glyph_tells (n / 16 ^ 3) (m / 16 ^ 3) (ap (λ t. get_or t 4 0) same)) in
    let at_2 : n / 16 ^ 2 ≡ m / 16 ^ 2 = let above : n / 16 ^ 2 / 16 ≡ m / 16 ^ 2 / 16 = omega (arith, at_3) in up _ _ above (glyph_tells (n / 16 ^ 2) (m / 16 ^ 2) (ap (λ t. get_or t 5 0) same)) in
    let at_1 : n / 16 ^ 1 ≡ m / 16 ^ 1 = let above : n / 16 ^ 1 / 16 ≡ m / 16 ^ 1 / 16 = omega (arith, at_2) in up _ _ above (glyph_tells (n / 16 ^ 1) (m / 16 ^ 1) (ap (λ t. get_or t 6 0) same)) in
    up n m (omega (arith, at_1)) last

pub apart : (number word number' word' : ℕ) → number < 2 ^ 32 → word < 2 ^ 32 → number' < 2 ^ 32 → word' < 2 ^ 32 → identifier_text number word ≡ identifier_text number' word' → (number ≡ number') × (word ≡ word')
unfolding identifier_text
apart n w n' w' a b a' b' same = (tells n n' a a' (ap (λ t. take 8 t) same), tells w w' b b' (ap (λ t. drop 8 t) same))
