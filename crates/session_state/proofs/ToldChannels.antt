-- The text of a reply's Transport field tells its channels, where they are numbers below 256.
use Rattle.std.proofs.Common.{◌≡◌, ℕ, zero, suc, ◌+◌, ◌/◌, ◌%◌, ◌^◌, ◌<◌, ◌≤◌, ◌==◌, Bool, true, false, cond, List, [], ◌∷◌, ◌++◌, length, inl, inr, ◌⊎◌, None, Some, codes, decimal, refl, ap, sym, ◌∙◌, arith, append_assoc, append-nil, lit≤, pow-suc}
use Rattle.std.specs.Char.{digit_value}
use Rattle.std.specs.Fmt.{digit_glyph, digits, digits_onto}
use Rattle.std.specs.List.{before_first}
use Rattle.std.specs.Str.Parse.{AllDigits, digits_value}
use Rattle.std.proofs.lemmas.Bool.{cases_lt, eqb-true}
use Rattle.std.proofs.lemmas.Bool.Decides.{nat_tests}
use Rattle.std.proofs.lemmas.Fmt.{decimal_is_IsNumeral_wide, length-decimal-le_wide}
use Rattle.std.proofs.lemmas.List.{append_cancel_left}
use Rattle.base_syntax.specs.Cuts.{HasNone, behind_first}
use Rattle.base_syntax.proofs.Cuts.{only_behind, only_front}
use Rattle.base_syntax.proofs.Digits.{none_in_digits}
use Rattle.transport_header.specs.declared.chosen.Chosen.{Chosen}
use Rattle.transport_header.specs.Chosen.{mode_text, transport_text}

-- what is written of any number is digits
is_digit : (n : ℕ) → digit_value (digit_glyph false (n % 10)) < 10
is_digit n = grind (arith, nat_tests)

digits_on : (k n : ℕ) (text : List ℕ) → AllDigits 10 text → AllDigits 10 (digits_onto k 10 false n text)
digits_on zero n text are = are
digits_on (suc k) n text are = by (n / 10 == 0) (digits_on k (n / 10) (digit_glyph false (n % 10) ∷ text) (is_digit n, are))
  where
    by : (last : Bool) → AllDigits 10 (digits_onto k 10 false (n / 10) (digit_glyph false (n % 10) ∷ text))
        → AllDigits 10 (cond last (digit_glyph false (n % 10) ∷ text) (digits_onto k 10 false (n / 10) (digit_glyph false (n % 10) ∷ text)))
    by true more = (is_digit n, are)
    by false more = more

are_digits : (n : ℕ) → AllDigits 10 (decimal n)
unfolding digits
are_digits n = digits_on 64 n [] tt

-- a number that is too large has all the digits that there is place for
some : (k : ℕ) → 1 ≤ 10 ^ k
some zero = omega arith
some (suc k) = let more = pow-suc 10 k in let few = some k in omega (arith, more, few)

long : (k n : ℕ) (text : List ℕ) → 10 ^ k ≤ n → length (digits_onto k 10 false n text) ≡ k + length text
long zero n text large = omega arith
long (suc k) n text large = by (n / 10 == 0) refl (long k (n / 10) (digit_glyph false (n % 10) ∷ text) still)
  where
    still : 10 ^ k ≤ n / 10
    still = let more = pow-suc 10 k in omega (arith, more, large)

    by : (last : Bool) → (n / 10 == 0) ≡ last → length (digits_onto k 10 false (n / 10) (digit_glyph false (n % 10) ∷ text)) ≡ k + suc (length text)
        → length (cond last (digit_glyph false (n % 10) ∷ text) (digits_onto k 10 false (n / 10) (digit_glyph false (n % 10) ∷ text))) ≡ suc k + length text
    by true last more = let none = eqb-true (n / 10) 0 last in let one = some k in let large = still in absurd (omega (arith, none, one, large))
    by false last more = omega (arith, more)

all_places : (n : ℕ) → 10 ^ 64 ≤ n → length (decimal n) ≡ 64
unfolding digits
all_places n large = let all = long 64 n [] large in omega (arith, all)

-- a small number's digits are those of no other
one_number : (n m : ℕ) → m < 256 → decimal n ≡ decimal m → n ≡ m
one_number n m small same = by (cases_lt n (10 ^ 64))
  where
    low : m < 10 ^ 64
    low = omega (arith, small)

    by : (n < 10 ^ 64) ⊎ (10 ^ 64 ≤ n) → n ≡ m
    by (inl few) = sym (decimal_is_IsNumeral_wide n few).1 ∙ ap (digits_value 10) same ∙ (decimal_is_IsNumeral_wide m low).1
    by (inr large) =
        let all = all_places n large in
        let short = length-decimal-le_wide 3 m (omega arith) (omega (arith, small)) low in
        let lengths = ap length same in
        absurd (omega (arith, all, short, lengths))

no_dash : (n : ℕ) → HasNone 45 (decimal n)
no_dash n = none_in_digits 45 (lit≤ tt) (decimal n) (are_digits n)

no_semicolon : (n : ℕ) → HasNone 59 (decimal n)
no_semicolon n = none_in_digits 59 (lit≤ tt) (decimal n) (are_digits n)

-- the text in its parts
abbrev head_text : List ℕ
head_text = codes "RTP/AVP/TCP;unicast;interleaved="

abbrev behind : Chosen → List ℕ
behind chosen = decimal chosen.rtcp ++ mode_text chosen.recording

in_parts : (chosen : Chosen) → transport_text chosen ≡ head_text ++ (decimal chosen.rtp ++ 45 ∷ behind chosen)
unfolding transport_text
in_parts chosen =
    ap (λ text. head_text ++ text)
    (append_assoc (decimal chosen.rtp ++ 45 ∷ []) (decimal chosen.rtcp) (mode_text chosen.recording) ∙ append_assoc (decimal chosen.rtp) (45 ∷ []) (behind chosen))

before_mode : (text : List ℕ) (recording : Bool) → HasNone 59 text → text ≡ before_first (λ b. b == 59) (text ++ mode_text recording)
before_mode text false none = only_front 59 (text ++ []) text None (append-nil text, none)
before_mode text true none = only_front 59 (text ++ mode_text true) text (Some (codes "mode=\"RECORD\"")) (refl, none)

-- the same text tells the same channels
pub one_text : (one other : Chosen) → other.rtp < 256 → other.rtcp < 256 → transport_text one ≡ transport_text other → (one.rtp ≡ other.rtp) × (one.rtcp ≡ other.rtcp)
one_text one other rtp rtcp same =
    let text : Chosen → List ℕ = λ chosen. decimal chosen.rtp ++ 45 ∷ behind chosen in
    let parts : text one ≡ text other = append_cancel_left head_text (text one) (text other) (sym (in_parts one) ∙ same ∙ in_parts other) in
    let first : decimal one.rtp ≡ decimal other.rtp = only_front 45 (text one) (decimal one.rtp) (Some (behind one)) (refl, no_dash one.rtp) ∙ ap (before_first (λ b. b == 45)) parts
    ∙ sym (only_front 45 (text other) (decimal other.rtp) (Some (behind other)) (refl, no_dash other.rtp)) in
    let rests : Some (behind one) ≡ Some (behind other) = only_behind 45 (text one) (decimal one.rtp) (Some (behind one)) (refl, no_dash one.rtp) ∙ ap (behind_first 45) parts
    ∙ sym (only_behind 45 (text other) (decimal other.rtp) (Some (behind other)) (refl, no_dash other.rtp)) in
    let rest : behind one ≡ behind other = cc in
    let second : decimal one.rtcp ≡ decimal other.rtcp = before_mode (decimal one.rtcp) one.recording (no_semicolon one.rtcp) ∙ ap (before_first (λ b. b == 59)) rest
    ∙ sym (before_mode (decimal other.rtcp) other.recording (no_semicolon other.rtcp)) in
    (one_number one.rtp other.rtp rtp first, one_number one.rtcp other.rtcp rtcp second)
