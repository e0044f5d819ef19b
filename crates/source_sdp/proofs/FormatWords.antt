-- The formats of an `m=` line that is announced.
use Rattle.std.proofs.Common.{◌≡◌, ℕ, ◌<◌, ◌≤◌, ◌-◌, ◌==◌, true, false, not, nat_lt, List, [], ◌∷◌, ◌++◌, length, get_or, codes, refl, sym, subst, ◌∙◌, inl, inr, arith, append-nil}
use Rattle.std.specs.List.{list_all, flat_map}
use Rattle.std.proofs.lemmas.Bool.{and_parts}
use Rattle.std.proofs.lemmas.Bool.Decides.{eqb_tells, leb_tells}
use Rattle.std.proofs.lemmas.List.Sums.{AllPass-from_list_all}
use Rattle.base_syntax.specs.Blanks.{is_blank}
use Rattle.sdp.specs.Fields.{is_value_byte}
use Rattle.sdp.specs.Media.{is_space}
use Rattle.sdp.specs.MediaForm.{HasBareEnd, IsWord, AreSpaces, AreWords}
use Rattle.sdp.proofs.Cuts.{true_false}
use Rattle.source_sdp.specs.Usable.{is_format_byte, is_format}
use Rattle.source_sdp.specs.Announced.{spaced}
use Rattle.source_sdp.proofs.Texts.{both_pass, bare_join}

over_32 : (b : ℕ) → is_format_byte b ≡ true → 32 < b
over_32 b h = let parts = and_parts (nat_lt 32 b) (not (b == 127)) h in elim (leb_tells 33 b) [ inl over ↦ over.1 | inr under ↦ absurd (true_false (sym parts.0 ∙ under.0)) ]

unequal : (b c : ℕ) → b < c → (c == b) ≡ false
unequal b c h = elim (eqb_tells c b) [ inl same ↦ absurd (omega (arith, same.1, h)) | inr other ↦ other.0 ]

no_space : (b : ℕ) → is_format_byte b ≡ true → is_space b ≡ false
no_space b h = unequal 32 b (over_32 b h)

no_blank : (b : ℕ) → is_format_byte b ≡ true → is_blank b ≡ false
no_blank b h = let over = over_32 b h in rw (unequal 32 b over, unequal 9 b (omega (arith, over))) refl

a_value : (b : ℕ) → is_format_byte b ≡ true → is_value_byte b ≡ true
a_value b h =
    let over = over_32 b h in
    rw (unequal 0 b (omega (arith, over)), unequal 10 b (omega (arith, over)), unequal 13 b (omega (arith, over))) refl

some_bytes : (text : List ℕ) → is_format text ≡ true → 1 ≤ length text
some_bytes text h = let parts = and_parts (nat_lt 0 (length text)) (list_all is_format_byte text) h in elim (leb_tells 1 (length text)) [ inl some ↦ some.1 | inr none ↦ absurd (true_false (sym parts.0 ∙ none.0)) ]

format_bytes : (text : List ℕ) → is_format text ≡ true → list_all is_format_byte text ≡ true
format_bytes text h = (and_parts (nat_lt 0 (length text)) (list_all is_format_byte text) h).1

pub format_word : (text : List ℕ) → is_format text ≡ true → IsWord text
format_word text h = record {
  some = some_bytes text h;
  unbroken = λ k d below. no_space (get_or text k d) (AllPass-from_list_all is_format_byte text (format_bytes text h) k d below);
}

bare_format : (text : List ℕ) → is_format text ≡ true → HasBareEnd text
bare_format text h =
    let some = some_bytes text h in
    (omega (arith, some), no_blank (get_or text (length text - 1) 0) (AllPass-from_list_all is_format_byte text (format_bytes text h) (length text - 1) 0 (omega (arith, some))))

pub bare_formats : (formats : List (List ℕ)) → 1 ≤ length formats → list_all is_format formats ≡ true → HasBareEnd (flat_map spaced formats)
bare_formats [] some h = absurd (omega (arith, some))
bare_formats (f ∷ []) some h =
    let parts = and_parts (is_format f) true h in
    subst HasBareEnd (sym (append-nil (spaced f))) (bare_join (32 ∷ []) f (bare_format f parts.0))
bare_formats (f ∷ g ∷ formats) some h =
    let parts = and_parts (is_format f) (list_all is_format (g ∷ formats)) h in
    bare_join (spaced f) (flat_map spaced (g ∷ formats)) (bare_formats (g ∷ formats) (omega arith) parts.1)

values_of : (text : List ℕ) → list_all is_format_byte text ≡ true → list_all is_value_byte text ≡ true
values_of [] h = refl
values_of (b ∷ text) h = let parts = and_parts (is_format_byte b) (list_all is_format_byte text) h in rw (a_value b parts.0) (values_of text parts.1)

pub format_values : (formats : List (List ℕ)) → list_all is_format formats ≡ true → list_all is_value_byte (flat_map spaced formats) ≡ true
format_values [] h = refl
format_values (f ∷ formats) h =
    let parts = and_parts (is_format f) (list_all is_format formats) h in
    both_pass is_value_byte (spaced f) (flat_map spaced formats) (values_of f (format_bytes f parts.0)) (format_values formats parts.1)

pub one_space : AreSpaces (codes " ")
one_space = record { some = omega arith; spaces = AllPass-from_list_all is_space (codes " ") refl }

-- a word, and formats after it
pub format_words : (word : List ℕ) (formats : List (List ℕ)) → IsWord word → list_all is_format formats ≡ true → AreWords (word ++ flat_map spaced formats) (word ∷ formats)
format_words word [] p h = (append-nil word, p)
format_words word (f ∷ formats) p h =
    let parts = and_parts (is_format f) (list_all is_format formats) h in
    (codes " ", f ++ flat_map spaced formats, refl, p, one_space, format_words f formats (format_word f parts.0) parts.1)
