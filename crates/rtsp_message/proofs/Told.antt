-- The length that header fields announce, as they come.
use Rattle.std.proofs.Common.{◌≡◌, ◌==◌, ℕ, Bool, true, false, not, ◌&&◌, nat_le, nat_lt, if◌then◌else◌, List, [], ◌∷◌, ◌++◌, Option, None, Some, refl, sym, ap, ◌∙◌, arith}
use Rattle.std.specs.Prelude.{cond, find, codes}
use Rattle.std.specs.Option.{option_map, option_and_then}
use Rattle.std.specs.Str.Parse.{digits_value}
use Rattle.std.proofs.lemmas.Bool.{eqb-true}
use Rattle.std.proofs.lemmas.Bool.Decides.{nat_tests}
use Rattle.base_syntax.specs.Numbers.{is_numeral, number_up_to}
use Rattle.rtsp_message.specs.Limits.{body_limit}
use Rattle.rtsp_message.specs.declared.headers.Header.{Header}
use Rattle.rtsp_message.specs.declared.fault.Fault.{Fault}
use Rattle.rtsp_message.specs.declared.fault.Fault.TheVariants.{BadLength, BodyTooLong}
use Rattle.rtsp_message.specs.Headers.{value_of}
use Rattle.rtsp_message.specs.Lengths.{is_content_length, announced, second_fault, length_fault, field_fault}
use Rattle.rtsp_message.specs.Knowns.{Tell}

abbrev value : Header → List ℕ
value header = header.value

abbrev is_length : Header → Bool
is_length header = is_content_length header.name

first_none : (test : Bool) (header : Header) (rest : Option Header) → option_map value (cond test (Some header) rest) ≡ None → (test ≡ false) × (option_map value rest ≡ None)
first_none true header rest e = absurd (cc)
first_none false header rest e = (refl, e)

first_some : (test : Bool) (header : Header) (rest more : Option Header) (v : List ℕ) → (option_map value rest ≡ Some v → option_map value more ≡ Some v) → option_map value (cond test (Some header) rest) ≡ Some v → option_map value (cond test (Some header) more) ≡ Some v
first_some true header rest more v h e = e
first_some false header rest more v h e = h e

found_first : (test : Bool) (header : Header) (rest : Option Header) → test ≡ true → option_map value (cond test (Some header) rest) ≡ Some header.value
found_first true header rest e = refl
found_first false header rest e = absurd (cc)

not_first : (test : Bool) (header : Header) (rest : Option Header) → test ≡ false → cond test (Some header) rest ≡ rest
not_first true header rest e = absurd (cc)
not_first false header rest e = refl

-- another field after them changes nothing
find_other : (before : List Header) (header : Header) → is_length header ≡ false → find is_length (before ++ header ∷ []) ≡ find is_length before
find_other [] header other = not_first (is_length header) header None other
find_other (h ∷ before) header other = ap (λ (r : Option Header). cond (is_length h) (Some h) r) (find_other before header other)

-- where none was a Content-Length field, the one after them is the first
find_new : (before : List Header) (header : Header) → is_length header ≡ true → option_map value (find is_length before) ≡ None → option_map value (find is_length (before ++ header ∷ [])) ≡ Some header.value
find_new [] header same none = found_first (is_length header) header None same
find_new (h ∷ before) header same none =
    let first = first_none (is_length h) h (find is_length before) none in
    ap (option_map value) (not_first (is_length h) h (find is_length (before ++ header ∷ [])) first.0) ∙ find_new before header same first.1

-- the first such field stays the first
find_old : (before : List Header) (header : Header) (v : List ℕ) → option_map value (find is_length before) ≡ Some v → option_map value (find is_length (before ++ header ∷ [])) ≡ Some v
find_old [] header v e = absurd (cc)
find_old (h ∷ before) header v e = first_some (is_length h) h (find is_length before) (find is_length (before ++ header ∷ [])) v (find_old before header v) e

no_fault : (test : Bool) (fault : Option Fault) → test ≡ false → (if test then fault else None) ≡ None
no_fault true fault e = absurd (cc)
no_fault false fault e = refl

same_fault : (test : Bool) (fault : Option Fault) → fault ≡ None → (if test then fault else None) ≡ None
same_fault true fault e = e
same_fault false fault e = refl

pub tell_other : (before : List Header) (header : Header) (told : Option ℕ) → is_content_length header.name ≡ false → Tell before told → (field_fault before header ≡ None) × Tell (before ++ header ∷ []) told
tell_other before header told other p =
    let same : value_of (before ++ header ∷ []) (codes "Content-Length") ≡ value_of before (codes "Content-Length") = ap (option_map value) (find_other before header other) in (
      no_fault (is_content_length header.name) (length_fault (announced before) header.value) other,
      record { length_is = ap (option_and_then (number_up_to body_limit)) same ∙ p.length_is; none = λ e. same ∙ p.none e },
    )

good_length : (numeral over : Bool) (second : Option Fault) → (if not numeral then Some BadLength else (if over then Some BodyTooLong else second)) ≡ None → (numeral ≡ true) × (over ≡ false) × (second ≡ None)
good_length false over second e = absurd (cc)
good_length true true second e = absurd (cc)
good_length true false second e = (refl, refl, e)

number_is : (numeral : Bool) (n : ℕ) → numeral ≡ true → nat_lt body_limit n ≡ false → (if numeral && nat_le n body_limit then Some n else None) ≡ Some n
number_is false n e over = absurd (cc)
number_is true n e over = let low : nat_le n body_limit ≡ true = grind (arith, nat_tests) in rw low refl

same_length : (same : Bool) → (if same then None else Some BadLength) ≡ None → same ≡ true
same_length true e = refl
same_length false e = absurd (cc)

some_text : (text : Option (List ℕ)) (n : ℕ) → option_and_then (number_up_to body_limit) text ≡ Some n → (v : List ℕ) × (text ≡ Some v)
some_text None n e = absurd (cc)
some_text (Some v) n e = (v, refl)

tell_new : (before : List Header) (header : Header) (told : Option ℕ) (n : ℕ) → is_content_length header.name ≡ true → second_fault told n ≡ None → number_up_to body_limit header.value ≡ Some n → Tell before told → announced (before ++ header ∷ []) ≡ Some n
tell_new before header None n same second number p = ap (option_and_then (number_up_to body_limit)) (find_new before header same (p.none refl)) ∙ number
tell_new before header (Some x) n same second number p =
    let text = some_text (value_of before (codes "Content-Length")) x p.length_is in
    let equal : x ≡ n = eqb-true x n (same_length (x == n) second) in
    ap (option_and_then (number_up_to body_limit)) (find_old before header text.0 text.1 ∙ sym text.1) ∙ p.length_is ∙ ap Some equal

pub tell_length : (before : List Header) (header : Header) (told : Option ℕ) → is_content_length header.name ≡ true → length_fault told header.value ≡ None → Tell before told → (field_fault before header ≡ None) × Tell (before ++ header ∷ []) (number_up_to body_limit header.value)
tell_length before header told same good p =
    let n = digits_value 10 header.value in
    let parts = good_length (is_numeral header.value) (nat_lt body_limit n) (second_fault told n) good in
    let number : number_up_to body_limit header.value ≡ Some n = number_is (is_numeral header.value) n parts.0 parts.1 in (
      same_fault (is_content_length header.name) (length_fault (announced before) header.value) (ap (λ (o : Option ℕ). length_fault o header.value) p.length_is ∙ good),
      record {
        length_is = tell_new before header told n same parts.2 number p ∙ sym number;
        none = λ e. absurd (cc (number, e));
      },
    )
