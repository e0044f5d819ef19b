-- Values without quotes. Each token is one.
use Rattle.std.proofs.Common.{◌≡◌, ◌<◌, ◌≤◌, ◌-◌, ◌==◌, ◌&&◌, ℕ, suc, Bool, true, false, List, [], ◌∷◌, length, get_or, refl, ap, sym, ◌∙◌, ⊎_elim, arith}
use Rattle.std.specs.Prelude.{nat_le, not}
use Rattle.std.specs.Char.{is_ascii_control}
use Rattle.std.specs.Int.{is_in_range}
use Rattle.std.specs.List.{AllByRecursion, list_all, list_any}
use Rattle.std.proofs.lemmas.Bool.{and_parts, cases_Bool, leb-true, lt-leb, ne_eqb, or_cases, true≢false}
use Rattle.base_syntax.specs.Blanks.{is_blank}
use Rattle.rtsp_auth.specs.Values.{is_bare_byte}
use Rattle.rtsp_auth.specs.Words.{is_token_byte, token_marks}
use Rattle.rtsp_auth.specs.Written.{IsBare, IsToken}
use Rattle.rtsp_auth.proofs.Tokens.{AreTokenBytes, EndsBare, comma_unfit, differs, ends_token, equals_unfit, last_bare, not_blank, quote_unfit}

-- what a byte of such a value isn't
pub record IsPlainByte (byte : ℕ) : Type 0 where
  pub control : is_ascii_control byte ≡ false
  pub no_quote : (byte == 34) ≡ false
  pub no_comma : (byte == 44) ≡ false
  pub no_equals : (byte == 61) ≡ false

was_false : (test : Bool) → not test ≡ true → test ≡ false
was_false true h = absurd (true≢false (sym h))
was_false false h = refl

pub bare_byte : (byte : ℕ) → is_bare_byte byte ≡ true → IsPlainByte byte
bare_byte byte h =
    let equals = and_parts ((not (is_ascii_control byte) && not (byte == 34)) && not (byte == 44)) (not (byte == 61)) h in
    let comma = and_parts (not (is_ascii_control byte) && not (byte == 34)) (not (byte == 44)) equals.0 in
    let quote = and_parts (not (is_ascii_control byte)) (not (byte == 34)) comma.0 in
    record {
      control = was_false (is_ascii_control byte) quote.0;
      no_quote = was_false (byte == 34) quote.1;
      no_comma = was_false (byte == 44) comma.1;
      no_equals = was_false (byte == 61) equals.1;
    }

is_bare : (byte : ℕ) → IsPlainByte byte → is_bare_byte byte ≡ true
is_bare byte h = rw (h.control, h.no_quote, h.no_comma, h.no_equals) refl

-- a control character may not be in a token
marks_above : list_all (λ mark. nat_le 33 mark) token_marks ≡ true
unfolding token_marks
marks_above = refl

delete_unfit : is_token_byte 127 ≡ false
unfolding token_marks
delete_unfit = refl

none_below : (byte : ℕ) (marks : List ℕ) → byte < 33 → list_all (λ mark. nat_le 33 mark) marks ≡ true → list_any (λ mark. mark == byte) marks ≡ false
none_below byte [] low h = refl
none_below byte (mark ∷ marks) low h =
    let both = and_parts (nat_le 33 mark) (list_all (λ m. nat_le 33 m) marks) h in
    let above : 33 ≤ mark = leb-true 33 mark both.0 in
    let other : (mark == byte) ≡ false = ne_eqb mark byte (λ e. absurd (omega (arith, e))) in
    rw (other, none_below byte marks low both.1) refl

low_unfit : (byte : ℕ) → byte < 33 → is_token_byte byte ≡ false
low_unfit byte low =
    let no_digit : nat_le 48 byte ≡ false = lt-leb 48 byte (omega arith) in
    let no_capital : nat_le 65 byte ≡ false = lt-leb 65 byte (omega arith) in
    let no_letter : nat_le 97 byte ≡ false = lt-leb 97 byte (omega arith) in
    rw (no_digit, no_capital, no_letter) (none_below byte token_marks low marks_above)

control_unfit : (byte : ℕ) → is_ascii_control byte ≡ true → is_token_byte byte ≡ false
control_unfit byte control = ⊎_elim
    (λ low. let parts = and_parts (nat_le 0 byte) (nat_le byte 31) low in low_unfit byte (omega (arith, leb-true byte 31 parts.1)))
    (λ delete. let parts = and_parts (nat_le 127 byte) (nat_le byte 127) delete in
    let same : byte ≡ 127 = omega (arith, leb-true 127 byte parts.0, leb-true byte 127 parts.1) in
    ap is_token_byte same ∙ delete_unfit)
    (or_cases (is_in_range 0 31 byte) (is_in_range 127 127 byte) control)

token_clean : (byte : ℕ) → is_token_byte byte ≡ true → is_ascii_control byte ≡ false
token_clean byte fit = ⊎_elim
    (λ control. absurd (true≢false (sym fit ∙ control_unfit byte control)))
    (λ clean. clean)
    (cases_Bool (is_ascii_control byte))

token_byte_bare : (byte : ℕ) → is_token_byte byte ≡ true → is_bare_byte byte ≡ true
token_byte_bare byte fit = is_bare byte (record {
  control = token_clean byte fit;
  no_quote = differs 34 byte quote_unfit fit;
  no_comma = differs 44 byte comma_unfit fit;
  no_equals = differs 61 byte equals_unfit fit;
})

tokens_bare : (text : List ℕ) → AreTokenBytes text → AllByRecursion (λ byte. is_bare_byte byte ≡ true) text
tokens_bare [] h = tt
tokens_bare (byte ∷ bytes) h = (token_byte_bare byte h.0, tokens_bare bytes h.1)

pub token_bare : (value : List ℕ) → IsToken value → IsBare value
token_bare [] h = absurd (omega arith)
token_bare (byte ∷ bytes) h = record {
  some = h.0;
  bytes = tokens_bare (byte ∷ bytes) h.1;
  ends = λ some. (not_blank byte h.1.0, last_bare byte bytes (ends_token byte bytes h.1));
}

-- such a value ends in no blank
ends_in : (byte : ℕ) (bytes : List ℕ) → is_blank (get_or (byte ∷ bytes) (length (byte ∷ bytes) - 1) 0) ≡ false → EndsBare (byte ∷ bytes)
ends_in byte [] h = h
ends_in byte (next ∷ bytes) h =
    let place : length (byte ∷ next ∷ bytes) - 1 ≡ suc (length (next ∷ bytes) - 1) = omega arith in
    ends_in next bytes (sym (ap (λ (i : ℕ). is_blank (get_or (byte ∷ next ∷ bytes) i 0)) place) ∙ h)

pub bare_ends : (byte : ℕ) (bytes : List ℕ) → IsBare (byte ∷ bytes) → EndsBare (byte ∷ bytes)
bare_ends byte bytes h = ends_in byte bytes (h.ends h.some).1

pub bare_start : (byte : ℕ) (bytes : List ℕ) → IsBare (byte ∷ bytes) → is_blank byte ≡ false
bare_start byte bytes h = (h.ends h.some).0

pub all_bare : (text : List ℕ) → AllByRecursion (λ byte. is_bare_byte byte ≡ true) text → list_all is_bare_byte text ≡ true
all_bare [] h = refl
all_bare (byte ∷ bytes) h = rw (h.0, all_bare bytes h.1) refl
