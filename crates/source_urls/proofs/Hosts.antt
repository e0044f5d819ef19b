-- The host of an address, and the port behind it.
use Rattle.std.proofs.Common.{◌≡◌, ◌==◌, ◌&&◌, ℕ, suc, ◌+◌, ◌-◌, ◌<◌, Bool, true, false, List, [], ◌∷◌, ◌++◌, inl, inr, Option, None, Some, length, take, drop, refl, sym, ap, subst, ◌∙◌, append_assoc, arith}
use Rattle.std.specs.Prelude.{⊤, slice_index, nat_le, nat_lt, cond}
use Rattle.std.specs.List.{list_all, list_any, before_first}
use Rattle.std.specs.Char.{is_ascii_digit}
use Rattle.std.proofs.lemmas.Bool.{and_parts, eqb-true, false≢true, ltb-true, or_cases}
use Rattle.std.proofs.lemmas.List.{append-nil, drop_all, length-take, take-append-drop}
use Rattle.std.proofs.lemmas.Option.{cond_some, option_and_then_some}
use Rattle.std.proofs.Math.Seq.{drop-cons, take-append-add}
use Rattle.std.specs.Str.Parse.{digits_value}
use Rattle.base_syntax.specs.Cuts.{HasNone}
use Rattle.base_syntax.specs.Numbers.{is_numeral, number_up_to}
use Rattle.base_syntax.proofs.Cuts.{cut_behind, uncut}
use Rattle.source_urls.specs.Host.{inside, is_address, is_bracketed, is_host, is_literal, is_literal_byte, is_name, is_name_byte}
use Rattle.source_urls.specs.Parts.{has_bracket, host_in}
use Rattle.source_urls.specs.Port.{digits_port, port_number, positive}
use Rattle.source_urls.proofs.Cutting.{different, none_append, none_passing}

-- the bytes that end or separate parts of a location: `#`, `/`, `?` and `@`
pub record HasNoMark (text : List ℕ) : Type 0 where
  pub no_sign : HasNone 35 text
  pub no_slash : HasNone 47 text
  pub no_question : HasNone 63 text
  pub no_at : HasNone 64 text

pub no_mark-append : (xs ys : List ℕ) → HasNoMark xs → HasNoMark ys → HasNoMark (xs ++ ys)
no_mark-append xs ys h k = record {
  no_sign = none_append 35 xs ys h.no_sign k.no_sign;
  no_slash = none_append 47 xs ys h.no_slash k.no_slash;
  no_question = none_append 63 xs ys h.no_question k.no_question;
  no_at = none_append 64 xs ys h.no_at k.no_at;
}

name_unmarked : (host : List ℕ) → list_all is_name_byte host ≡ true → HasNoMark host
name_unmarked host h = record {
  no_sign = none_passing is_name_byte 35 host refl h;
  no_slash = none_passing is_name_byte 47 host refl h;
  no_question = none_passing is_name_byte 63 host refl h;
  no_at = none_passing is_name_byte 64 host refl h;
}

literal_unmarked : (text : List ℕ) → list_all is_literal_byte text ≡ true → HasNoMark text
literal_unmarked text h = record {
  no_sign = none_passing is_literal_byte 35 text refl h;
  no_slash = none_passing is_literal_byte 47 text refl h;
  no_question = none_passing is_literal_byte 63 text refl h;
  no_at = none_passing is_literal_byte 64 text refl h;
}

digits_unmarked : (text : List ℕ) → list_all is_ascii_digit text ≡ true → HasNoMark text
digits_unmarked text h = record {
  no_sign = none_passing is_ascii_digit 35 text refl h;
  no_slash = none_passing is_ascii_digit 47 text refl h;
  no_question = none_passing is_ascii_digit 63 text refl h;
  no_at = none_passing is_ascii_digit 64 text refl h;
}

one_unmarked : (b : ℕ) → (b == 35) ≡ false → (b == 47) ≡ false → (b == 63) ≡ false → (b == 64) ≡ false → HasNoMark (b ∷ [])
one_unmarked b sign slash question at = record { no_sign = (sign, tt); no_slash = (slash, tt); no_question = (question, tt); no_at = (at, tt) }

-- a list that has elements ends in its last one
ends_in : (xs : List ℕ) → 0 < length xs → xs ≡ take (length xs - 1) xs ++ slice_index xs (length xs - 1) ∷ []
ends_in xs h =
    let n : ℕ = length xs - 1 in
    let below : n < length xs = omega arith in
    let past : drop (suc n) xs ≡ [] = drop_all (suc n) xs (omega arith) in
    sym (take-append-drop n xs) ∙ ap (λ (l : List ℕ). take n xs ++ l) (drop-cons xs n 0 below ∙ ap (λ (l : List ℕ). slice_index xs n ∷ l) past)

-- what a host in brackets is
pub record IsInBrackets (host : List ℕ) : Type 0 where
  pub whole : host ≡ 91 ∷ (inside host ++ 93 ∷ [])
  pub bytes : list_all is_literal_byte (inside host) ≡ true

pub in_brackets : (host : List ℕ) → is_literal host ≡ true → IsInBrackets host
in_brackets [] h = absurd (false≢true h)
in_brackets (x ∷ xs) h =
    let tests = and_parts (is_bracketed (x ∷ xs)) (is_address (inside (x ∷ xs))) h in
    let ends = and_parts (has_bracket (x ∷ xs)) (slice_index (x ∷ xs) (length (x ∷ xs) - 1) == 93) tests.0 in
    let address = and_parts (nat_lt 0 (length (inside (x ∷ xs))) && list_all is_literal_byte (inside (x ∷ xs))) (list_any (λ b. b == 58) (inside (x ∷ xs))) tests.1 in
    let bytes = and_parts (nat_lt 0 (length (inside (x ∷ xs)))) (list_all is_literal_byte (inside (x ∷ xs))) address.0 in
    let opened : x ≡ 91 = eqb-true x 91 ends.0 in
    let closed : slice_index (x ∷ xs) (length (x ∷ xs) - 1) ≡ 93 = eqb-true (slice_index (x ∷ xs) (length (x ∷ xs) - 1)) 93 ends.1 in
    let some : 0 < length (take (length (x ∷ xs) - 2) xs) = ltb-true 0 (length (take (length (x ∷ xs) - 2) xs)) bytes.0 in
    let more : 0 < length xs = omega (arith, length-take (length (x ∷ xs) - 2) xs) in
    let shorter : length (x ∷ xs) - 2 ≡ length xs - 1 = omega arith in
    let last : length (x ∷ xs) - 1 ≡ suc (length xs - 1) = omega arith in
    let closing : slice_index xs (length xs - 1) ≡ 93 = sym (ap (slice_index (x ∷ xs)) last) ∙ closed in
    record {
      whole = ap (λ (n : ℕ). n ∷ xs) opened ∙ ap (λ (l : List ℕ). 91 ∷ l) (ends_in xs more
          ∙ (ap (λ (n : ℕ). take (length xs - 1) xs ++ n ∷ []) closing ∙ ap (λ (n : ℕ). take n xs ++ 93 ∷ []) (sym shorter)));
      bytes = bytes.1;
    }

pub host_unmarked : (host : List ℕ) → is_host host ≡ true → HasNoMark host
host_unmarked host h = elim (or_cases (is_name host) (is_literal host) h) [
  | inl name ↦ name_unmarked host (and_parts (nat_lt 0 (length host)) (list_all is_name_byte host) name).1
  | inr literal ↦
      let r = in_brackets host literal in
      subst HasNoMark (sym r.whole)
      (no_mark-append (91 ∷ []) (inside host ++ 93 ∷ []) (one_unmarked 91 refl refl refl refl)
      (no_mark-append (inside host) (93 ∷ []) (literal_unmarked (inside host) r.bytes) (one_unmarked 93 refl refl refl refl)))
]

-- nothing, or a colon and digits
abbrev pub IsPort : List ℕ → Type 0
IsPort [] = ⊤
IsPort (b ∷ digits) = (b ≡ 58) × (list_all is_ascii_digit digits ≡ true)

chosen : (b : Bool) (o : Option ℕ) (n : ℕ) → cond b o None ≡ Some n → (b ≡ true) × (o ≡ Some n)
chosen true o n h = (refl, h)
chosen false o n h = absurd (cc)

digits_form : (digits : List ℕ) (n : ℕ) → digits_port digits ≡ Some n → list_all is_ascii_digit digits ≡ true
digits_form [] n h = refl
digits_form (d ∷ ds) n h =
    option_and_then_some positive (number_up_to 65535 (d ∷ ds)) n h
    (λ x read kept.
    let test = cond_some (is_numeral (d ∷ ds) && nat_le (digits_value 10 (d ∷ ds)) 65535) (digits_value 10 (d ∷ ds)) x read in
    let numeral = and_parts (is_numeral (d ∷ ds)) (nat_le (digits_value 10 (d ∷ ds)) 65535) test.0 in
    (and_parts (nat_lt 0 (length (d ∷ ds))) (list_all is_ascii_digit (d ∷ ds)) numeral.0).1)

pub port_form : (port : List ℕ) (n : ℕ) → port_number port ≡ Some n → IsPort port
port_form [] n h = tt
port_form (b ∷ digits) n h =
    let test = chosen (b == 58) (digits_port digits) n h in
    (eqb-true b 58 test.0, digits_form digits n test.1)

pub port_unmarked : (port : List ℕ) → IsPort port → HasNoMark port
port_unmarked [] h = record { no_sign = tt; no_slash = tt; no_question = tt; no_at = tt }
port_unmarked (b ∷ digits) h =
    subst (λ (n : ℕ). HasNoMark (n ∷ digits)) (sym h.0)
    (no_mark-append (58 ∷ []) digits (one_unmarked 58 refl refl refl refl) (digits_unmarked digits h.1))

before_port : (host port : List ℕ) → HasNone 58 host → IsPort port → before_first (λ b. b == 58) (host ++ port) ≡ host
before_port host [] none h = ap (before_first (λ b. b == 58)) (append-nil host) ∙ (uncut 58 host none).0
before_port host (b ∷ digits) none h =
    ap (λ (n : ℕ). before_first (λ x. x == 58) (host ++ n ∷ digits)) h.0 ∙ (cut_behind 58 host digits none).0

-- the host of an address is what is before its port
name_is : (host port : List ℕ) → is_name host ≡ true → IsPort port → host_in (host ++ port) ≡ host
name_is [] port name h = absurd (false≢true name)
name_is (x ∷ xs) port name h =
    let bytes = (and_parts (nat_lt 0 (length (x ∷ xs))) (list_all is_name_byte (x ∷ xs)) name).1 in
    let bare : (x == 91) ≡ false = different is_name_byte 91 x refl (and_parts (is_name_byte x) (list_all is_name_byte xs) bytes).0 in
    rw bare (before_port (x ∷ xs) port (none_passing is_name_byte 58 (x ∷ xs) refl bytes) h)

literal_is : (host port : List ℕ) → is_literal host ≡ true → host_in (host ++ port) ≡ host
literal_is host port literal =
    let r = in_brackets host literal in
    let front : List ℕ = 91 ∷ inside host in
    let none : HasNone 93 front = (refl, none_passing is_literal_byte 93 (inside host) refl r.bytes) in
    let whole : host ++ port ≡ front ++ 93 ∷ port = ap (λ (l : List ℕ). l ++ port) r.whole ∙ append_assoc front (93 ∷ []) port in
    let len : length (before_first (λ b. b == 93) (front ++ 93 ∷ port)) ≡ length front = ap (length {A = ℕ}) (cut_behind 93 front port none).0 in
    ap host_in whole ∙ (ap (λ (n : ℕ). take (n + 1) (front ++ 93 ∷ port)) len ∙ (take-append-add front (93 ∷ port) 1 ∙ sym r.whole))

pub host_is : (host port : List ℕ) → is_host host ≡ true → IsPort port → host_in (host ++ port) ≡ host
host_is host port h k = elim (or_cases (is_name host) (is_literal host) h) [
  | inl name ↦ name_is host port name k
  | inr literal ↦ literal_is host port literal
]
