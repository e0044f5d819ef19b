-- A port is found where its form stands.
use Rattle.std.proofs.Common.{◌≡◌, ◌==◌, ◌≤◌, ℕ, true, List, Option, None, Some, inl, inr, length, refl, sym, subst, ap, ◌∙◌, lit≤}
use Rattle.std.specs.Prelude.{nat_le, is_some}
use Rattle.std.specs.List.{before_first}
use Rattle.std.proofs.lemmas.Bool.{and_parts, leb-true, le-leb}
use Rattle.base_syntax.specs.Cuts.{HasNone, IsCut, behind_first}
use Rattle.base_syntax.specs.Numbers.{number_up_to}
use Rattle.base_syntax.proofs.Cuts.{is_cut, cut_behind, uncut}
use Rattle.base_syntax.proofs.Digits.{none_in_digits, numeral_to, numeral_from, number_read, number_only}
use Rattle.sdp.specs.Media.{is_port_number, is_count, is_port}
use Rattle.sdp.specs.MediaForm.{IsPortNumber, IsPort}

number_tells : (text : List ℕ) → is_port_number text ≡ true → IsPortNumber text
number_tells text is =
    let parts = and_parts (nat_le (length text) 5) (is_some (number_up_to 65535 text)) is in
    go (number_up_to 65535 text) refl parts.1 (leb-true (length text) 5 parts.0)
  where
    go : (read : Option ℕ) → number_up_to 65535 text ≡ read → is_some read ≡ true → length text ≤ 5 → IsPortNumber text
    go None e some short = absurd (cc)
    go (Some number) e some short = record { number = number; value = number_only 65535 text number e; short = short }

number_is : (text : List ℕ) → IsPortNumber text → is_port_number text ≡ true
number_is text p =
    let short = le-leb (length text) 5 p.short in
    let read = number_read 65535 text p.number p.value in
    rw (short, read) refl

-- digits hold no slash
no_slash : {text : List ℕ} → IsPortNumber text → HasNone 47 text
no_slash {text = text} p = none_in_digits 47 (lit≤ tt) text p.value.numeral.1

pub port_tells : (text : List ℕ) → is_port text ≡ true → IsPort text
port_tells text is =
    let parts = and_parts (is_port_number (before_first (λ b. b == 47) text)) (is_count (behind_first 47 text)) is in
    go (behind_first 47 text) (is_cut 47 text) (number_tells _ parts.0) parts.1
  where
    go : (count : Option (List ℕ)) → IsCut 47 text (before_first (λ b. b == 47) text) count → IsPortNumber (before_first (λ b. b == 47) text) → is_count count ≡ true → IsPort text
    go None cut port counted = inl (subst IsPortNumber (sym cut.0) port)
    go (Some count) cut port counted = inr (before_first (λ b. b == 47) text, count, cut.0, port, numeral_to count counted)

pub port_is : (text : List ℕ) → IsPort text → is_port text ≡ true
port_is text (inl p) = let whole = uncut 47 text (no_slash p) in rw (whole.0, whole.1) (rw (number_is text p) refl)
port_is text (inr p) =
    let parts = cut_behind 47 p.0 p.1 (no_slash p.3) in
    let port = number_is p.0 p.3 in
    let counted = numeral_from p.1 p.4 in
    ap is_port p.2 ∙ rw (parts.0, parts.1) (rw (port, counted) refl)
