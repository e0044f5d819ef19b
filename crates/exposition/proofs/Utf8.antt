-- A label's value is written as UTF-8.
use Rattle.std.proofs.Common.{◌≡◌, ℕ, zero, suc, ◌+◌, ◌<◌, ◌≤◌, nat_lt, Bool, true, cond, List, [], ◌∷◌, ◌++◌, Option, None, Some, length, take, drop, slice_index, All, IsUtf8, refl, sym, subst, ap, ◌∙◌, ⊎_elim, arith, append-nil, length-drop, take_all}
use Rattle.std.proofs.lemmas.Bool.{cases_Bool, cases_lt, cases_eq, cond-true, cond-false, cond_both, and_parts, and_from}
use Rattle.std.proofs.lemmas.Bool.Decides.{eqb_tells}
use Rattle.std.proofs.lemmas.List.Concat.{flat_map-append}
use Rattle.std.proofs.lemmas.List.Elements.{All-from_get_or, All-head, All-tail}
use Rattle.std.proofs.lemmas.Str.{IsUtf8-nil, IsUtf8-append, IsUtf8-from_is_utf8, encode_ascii, inside_one, utf8_lossy-IsUtf8, utf8_lossy_empty, utf8_lossy_step, utf8_valid_len_le}
use Rattle.std.specs.List.{flat_map}
use Rattle.std.specs.Int.{is_in_range}
use Rattle.std.specs.Option.{unwrap_or}
use Rattle.std.specs.Str.{is_utf8}
use Rattle.std.specs.Str.Lossy.{after_first_chunk, error_len_after_one, error_len_after_two, replacement_bytes, utf8_error_len, utf8_invalid_len, utf8_lossy, utf8_valid_len, valid_len_up_to}
use lib.Utf8.{encode, encodes, scalar, scalars}
use Rattle.exposition.specs.Exposition.{line_feed, double_quote, backslash, value_byte, label_text}

front_up_to : (bs : List ℕ) (m : ℕ) → IsUtf8 (take (valid_len_up_to bs m) bs)
front_up_to bs zero = ([], (refl, refl))
front_up_to bs (suc m) =
    let P : ℕ → Type 0 = λ n. IsUtf8 (take n bs) in
    ⊎_elim
    (λ yes. let is : valid_len_up_to bs (suc m) ≡ suc m = cond-true _ _ _ yes in subst P (sym is) (IsUtf8-from_is_utf8 _ yes))
    (λ no. let is : valid_len_up_to bs (suc m) ≡ valid_len_up_to bs m = cond-false _ _ _ no in subst P (sym is) (front_up_to bs m))
    (cases_Bool (is_utf8 (take (suc m) bs)))

valid_front : (bs : List ℕ) → IsUtf8 (take (utf8_valid_len bs) bs)
unfolding utf8_valid_len
valid_front bs = front_up_to bs (length bs)

-- the length of an invalid sequence, or of all n bytes, is more than 0
record HasSome (error_len : Option ℕ) (n : ℕ) : Type 0 where
  some : 0 < unwrap_or error_len n

choice_some : (b : Bool) (o p : Option ℕ) (n : ℕ) → HasSome o n → HasSome p n → HasSome (cond b o p) n
choice_some b o p n one other = cond_both b o p (λ q. HasSome q n) (λ e. one) (λ e. other)

-- U+FFFD stands for one byte or more
invalid_some : (bs : List ℕ) → 0 < length bs → 0 < utf8_invalid_len bs
unfolding utf8_error_len
invalid_some bs some =
    let n = length bs in
    let one : HasSome (Some 1) n = record { some = omega arith } in
    let two : HasSome (Some 2) n = record { some = omega arith } in
    let three : HasSome (Some 3) n = record { some = omega arith } in
    let none : HasSome None n = record { some = some } in
    let after_two : HasSome (error_len_after_two bs) n =
    choice_some (nat_lt n 3) _ _ _ none (choice_some (is_in_range 0x80 0xBF (slice_index bs 2)) _ _ _ (choice_some (nat_lt n 4) _ _ _ none three) two) in
    let after_one : HasSome (error_len_after_one bs) n = choice_some _ _ _ _ none (choice_some _ _ _ _ after_two one) in
    let any : HasSome (utf8_error_len bs) n = choice_some _ _ _ _ none (choice_some _ _ _ _ after_one one) in
    any.some

lossy_up_to : (k : ℕ) (bs : List ℕ) → length bs ≤ k → IsUtf8 (utf8_lossy bs)
unfolding encode
lossy_up_to zero bs le = subst IsUtf8 (sym (utf8_lossy_empty bs (omega arith))) IsUtf8-nil
lossy_up_to (suc k) bs le =
    let n = utf8_valid_len bs in
    ⊎_elim
    (λ (whole : n ≡ length bs).
    let utf8 : IsUtf8 bs = subst IsUtf8 (take_all n bs (omega arith)) (valid_front bs) in
    subst IsUtf8 (sym (utf8_lossy-IsUtf8 bs utf8)) utf8)
    (λ (cut : n ≡ length bs → ⊥).
    let short : n < length bs = omega (arith, utf8_valid_len_le bs, cut) in
    let some : 0 < length (drop n bs) = omega (arith, length-drop n bs) in
    let len = utf8_invalid_len (drop n bs) in
    let shorter : length (after_first_chunk bs) ≤ k = omega (arith, length-drop (n + len) bs, invalid_some (drop n bs) some) in
    let replaced : IsUtf8 replacement_bytes = (0xFFFD ∷ [], (refl, refl)) in
    subst IsUtf8 (sym (utf8_lossy_step bs cut)) (IsUtf8-append _ _ (valid_front bs) (IsUtf8-append _ _ replaced (lossy_up_to k (after_first_chunk bs) shorter))))
    (cases_eq n (length bs))

-- one character is UTF-8
char_utf8 : (c : ℕ) → scalar c ≡ true → IsUtf8 (encode c)
char_utf8 c is = (c ∷ [], (and_from _ _ is refl, append-nil (encode c)))

-- an ASCII character, escaped
ascii_utf8 : (c : ℕ) → IsUtf8 (c ∷ []) → IsUtf8 (value_byte c)
unfolding encode
ascii_utf8 c plain =
    let P : ℕ → Type 0 = λ b. IsUtf8 (value_byte b) in
    ⊎_elim
    (λ quote. subst P (sym quote.1) (92 ∷ 34 ∷ [], (refl, refl)))
    (λ no_quote. ⊎_elim
    (λ slash. subst P (sym slash.1) (92 ∷ 92 ∷ [], (refl, refl)))
    (λ no_slash. ⊎_elim
    (λ feed. subst P (sym feed.1) (92 ∷ 110 ∷ [], (refl, refl)))
    (λ no_feed. simp (no_quote.0, no_slash.0, no_feed.0) plain)
    (eqb_tells c line_feed))
    (eqb_tells c backslash))
    (eqb_tells c double_quote)

-- a byte of another character is not escaped
high_byte : (b : ℕ) → 128 ≤ b → value_byte b ≡ b ∷ []
high_byte b high =
    ⊎_elim
    (λ quote. absurd (omega (arith, quote.1)))
    (λ no_quote. ⊎_elim
    (λ slash. absurd (omega (arith, slash.1)))
    (λ no_slash. ⊎_elim
    (λ feed. absurd (omega (arith, feed.1)))
    (λ no_feed. simp (no_quote.0, no_slash.0, no_feed.0) refl)
    (eqb_tells b line_feed))
    (eqb_tells b backslash))
    (eqb_tells b double_quote)

high_bytes : (bs : List ℕ) → All (λ b. 128 ≤ b) bs → flat_map value_byte bs ≡ bs
high_bytes [] all = refl
high_bytes (b ∷ bs) all =
    let P : ℕ → Type 0 = λ x. 128 ≤ x in
    ap (λ (t : List ℕ). t ++ flat_map value_byte bs) (high_byte b (All-head P b bs all)) ∙ ap (λ (t : List ℕ). b ∷ t) (high_bytes bs (All-tail P b bs all))

escaped_char : (c : ℕ) → scalar c ≡ true → IsUtf8 (flat_map value_byte (encode c))
escaped_char c is = ⊎_elim
    (λ (low : c < 128).
    let byte : encode c ≡ c ∷ [] = encode_ascii c low in
    let P : List ℕ → Type 0 = λ t. IsUtf8 (flat_map value_byte t) in
    subst P (sym byte) (subst IsUtf8 (sym (append-nil (value_byte c))) (ascii_utf8 c (subst IsUtf8 byte (char_utf8 c is)))))
    (λ (high : 128 ≤ c).
    let bytes : All (λ b. 128 ≤ b) (encode c) = All-from_get_or (λ b. 128 ≤ b) (encode c) 0 (λ i within. ⊎_elim
    (λ below. absurd (omega (arith, inside_one c [] (encode c) i (sym (append-nil (encode c))) within below)))
    (λ above. above)
    (cases_lt _ 128)) in
    subst IsUtf8 (sym (high_bytes (encode c) bytes)) (char_utf8 c is))
    (cases_lt c 128)

escaped_chars : (cs : List ℕ) → scalars cs ≡ true → IsUtf8 (flat_map value_byte (encodes cs))
escaped_chars [] all = IsUtf8-nil
escaped_chars (c ∷ cs) all =
    let both = and_parts _ _ all in
    subst IsUtf8 (sym (flat_map-append value_byte (encode c) (encodes cs))) (IsUtf8-append _ _ (escaped_char c both.0) (escaped_chars cs both.1))

pub value_utf8 : (value : List ℕ) → IsUtf8 (label_text value)
value_utf8 value =
    let utf8 = lossy_up_to (length value) value (omega arith) in
    let P : List ℕ → Type 0 = λ t. IsUtf8 (flat_map value_byte t) in
    subst P utf8.1.1 (escaped_chars utf8.0 utf8.1.0)
