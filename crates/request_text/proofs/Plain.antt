-- Header fields that announce no length: each is read as it was written.
use Rattle.std.proofs.Common.{◌≡◌, ◌<◌, ◌≤◌, ◌-◌, ◌^◌, ℕ, Bool, true, false, List, [], ◌∷◌, ◌++◌, Option, None, Some, codes, decimal, length, map, get_or, refl, sym, ap, subst, ◌∙◌, arith, append_assoc, append-nil}
use Rattle.std.specs.Char.{digit_value}
use Rattle.std.specs.List.{list_all, find, flat_map}
use Rattle.std.specs.Option.{option_and_then, option_map}
use Rattle.std.specs.Str.Parse.{AllDigits}
use Rattle.std.proofs.lemmas.Bool.{and_parts, ne_eqb}
use Rattle.std.proofs.lemmas.Bool.Decides.{nat_tests}
use Rattle.std.proofs.lemmas.Fmt.{decimal_is_IsNumeral}
use Rattle.std.proofs.lemmas.List.Sums.{AllPass-from_list_all}
use Rattle.std.proofs.lemmas.Str.Parse.{digit_at}
use Rattle.base_syntax.specs.Blanks.{HasBareEnds, is_blank}
use Rattle.base_syntax.specs.Lines.{HasNoLf, ended}
use Rattle.base_syntax.specs.Names.{same_name}
use Rattle.base_syntax.specs.Numbers.{number_up_to}
use Rattle.base_syntax.proofs.LineEnds.{said-cr}
use Rattle.rtsp_message.specs.declared.byte_class.ByteClass.{ByteClass}
use Rattle.rtsp_message.specs.declared.byte_class.ByteClass.TheVariants.{Token, Value}
use Rattle.rtsp_message.specs.declared.headers.Header.{Header}
use Rattle.rtsp_message.specs.Heads.{AreHeaders, IsGoodHeader, joined}
use Rattle.rtsp_message.specs.Lengths.{announced, field_fault, is_content_length}
use Rattle.rtsp_message.specs.Limits.{body_limit}
use Rattle.rtsp_message.specs.Lines.{Each, IsHeaderLine, OneOrMore, is_in}
use Rattle.rtsp_message.proofs.Runs.{false_is_true}
use Rattle.request_text.specs.Faults.{IsFieldValue, IsGivenValue}
use Rattle.request_text.specs.Fields.{field_text, given_field, header, line_end}

-- bytes of a class that the line feed is not of
pub no_feed : (class : ByteClass) → is_in class 10 ≡ false → (bytes : List ℕ) → Each class bytes → HasNoLf bytes
no_feed class none [] h = tt
no_feed class none (b ∷ bs) h = (ne_eqb b 10 (λ e. false_is_true (sym none ∙ ap (is_in class) (sym e) ∙ h.0)), no_feed class none bs h.1)

pub no_feed_joined : (front back : List ℕ) → HasNoLf front → HasNoLf back → HasNoLf (front ++ back)
no_feed_joined [] back p q = q
no_feed_joined (b ∷ front) back p q = (p.0, no_feed_joined front back p.1 q)

pub each_of : (class : ByteClass) (bytes : List ℕ) → list_all (is_in class) bytes ≡ true → Each class bytes
each_of class [] h = tt
each_of class (b ∷ bs) h = let parts = and_parts (is_in class b) (list_all (is_in class) bs) h in (parts.0, each_of class bs parts.1)

-- a line that a CR ends
abbrev pub with_cr : List ℕ → List ℕ
with_cr text = text ++ 13 ∷ []

pub ended_cr : (text : List ℕ) → ended (with_cr text) ≡ text ++ line_end
ended_cr text = append_assoc text (13 ∷ []) (10 ∷ [])

abbrev pub content : Header → List ℕ
content field = field.name ++ codes ": " ++ field.value

abbrev pub line_of : Header → List ℕ
line_of field = with_cr (content field)

pub joined_lines : (fields : List Header) → flat_map field_text fields ≡ joined (map line_of fields)
unfolding field_text
joined_lines [] = refl
joined_lines (field ∷ fields) =
    ap (λ (l : List ℕ). l ++ flat_map field_text fields) (sym (ended_cr (content field)))
    ∙ ap (λ (l : List ℕ). ended (line_of field) ++ l) (joined_lines fields)

-- A field with a name and a value as its reader takes them.
pub record IsPlain (field : Header) : Type 0 where
  pub name : OneOrMore Token field.name
  pub value : IsFieldValue field.value

-- each is so, and none announces a length
abbrev pub ArePlain : List Header → Type 0
ArePlain [] = Unit {0}
ArePlain (field ∷ fields) = IsPlain field × (is_content_length field.name ≡ false) × ArePlain fields

pub plain_joined : (front back : List Header) → ArePlain front → ArePlain back → ArePlain (front ++ back)
plain_joined [] back p q = q
plain_joined (field ∷ front) back p q = (p.0, p.1, plain_joined front back p.2 q)

line_reads : (field : Header) → IsPlain field → IsHeaderLine (content field) field
line_reads field p = record {
  text = 32 ∷ field.value;
  whole = append_assoc field.name (codes ": ") field.value;
  name_bytes = p.name;
  value = record {
    front = 32 ∷ [];
    back = [];
    whole = ap (λ (l : List ℕ). 32 ∷ l) (sym (append-nil field.value));
    front_blank = AllPass-from_list_all is_blank (32 ∷ []) refl;
    back_blank = AllPass-from_list_all is_blank [] refl;
    bare = p.value.bare;
  };
  value_bytes = p.value.bytes;
}

pub good : (before : List Header) (field : Header) → IsPlain field → field_fault before field ≡ None → IsGoodHeader before (line_of field) field
good before field p allowed = record {
  unbroken = no_feed_joined (content field) (13 ∷ [])
      (no_feed_joined (field.name ++ codes ": ") field.value (no_feed_joined field.name (codes ": ") (no_feed Token refl field.name p.name.1) (refl, (refl, tt))) (no_feed Value refl field.value p.value.bytes))
      (refl, tt);
  field = subst (λ (l : List ℕ). IsHeaderLine l field) (sym (said-cr (content field))) (line_reads field p);
  allowed = allowed;
}

-- plain fields, and then more
pub plain_then : (before fields tail : List Header) → ArePlain fields → AreHeaders (before ++ fields) (map line_of tail) tail → AreHeaders before (map line_of (fields ++ tail)) (fields ++ tail)
plain_then before [] tail p rest = subst (λ (l : List Header). AreHeaders l (map line_of tail) tail) (append-nil before) rest
plain_then before (field ∷ fields) tail p rest = (
  good before field p.0 (rw (p.1) refl),
  plain_then (before ++ field ∷ []) fields tail p.2 (subst (λ (l : List Header). AreHeaders l (map line_of tail) tail) (sym (append_assoc before (field ∷ []) fields)) rest),
)

abbrev announces : Header → Bool
announces field = same_name field.name (codes "Content-Length")

skipped : (fields tail : List Header) → ArePlain fields → find announces (fields ++ tail) ≡ find announces tail
skipped [] tail p = refl
skipped (field ∷ fields) tail p = rw (p.1) (skipped fields tail p.2)

-- plain fields announce nothing
pub announced_after : (fields tail : List Header) → ArePlain fields → announced (fields ++ tail) ≡ announced tail
announced_after fields tail p = ap (λ (o : Option Header). option_and_then (number_up_to body_limit) (option_map (λ field. field.value) o)) (skipped fields tail p)

pub announced_none : (fields : List Header) → ArePlain fields → announced fields ≡ None
announced_none fields p = ap announced (sym (append-nil fields)) ∙ announced_after fields [] p

value_digit : (b : ℕ) → digit_value b < 10 → is_in Value b ≡ true
value_digit b h = grind (arith, nat_tests)

value_digits : (digits : List ℕ) → AllDigits 10 digits → Each Value digits
value_digits [] h = tt
value_digits (b ∷ bs) h = (value_digit b h.0, value_digits bs h.1)

no_blank : (b : ℕ) → 48 ≤ b → is_blank b ≡ false
no_blank b h = grind (arith, nat_tests)

-- a number is the value of a field
pub decimal_value : (number : ℕ) → number < 2 ^ 64 → IsFieldValue (decimal number)
decimal_value number fits =
    let digits = (decimal_is_IsNumeral number fits).0.1 in
    record {
      bare = λ some. (no_blank (get_or (decimal number) 0 0) (omega (arith, digit_at (decimal number) 0 digits some)), no_blank (get_or (decimal number) (length (decimal number) - 1) 0) (omega (arith, some, digit_at (decimal number) (length (decimal number) - 1) digits (omega (arith, some)))));
      bytes = value_digits (decimal number) digits;
    }

pub one_plain : (name value : List ℕ) → 0 < length name → list_all (is_in Token) name ≡ true → is_content_length name ≡ false → IsFieldValue value → ArePlain (header name value ∷ [])
one_plain name value some token other is = (record { name = (some, each_of Token name token); value = is }, other, tt)

pub fixed : (value : List ℕ) → list_all (is_in Value) value ≡ true → HasBareEnds value → IsFieldValue value
fixed value bytes bare = record { bare = bare; bytes = each_of Value value bytes }

pub given_plain : (name : List ℕ) → 0 < length name → list_all (is_in Token) name ≡ true → is_content_length name ≡ false → (value : Option (List ℕ)) → IsGivenValue value → ArePlain (given_field name value)
given_plain name some token other None is = tt
given_plain name some token other (Some value) is = one_plain name value some token other is
