-- An absolute control of another scheme is refused.
use Rattle.std.proofs.Common.{◌≡◌, ◌≢◌, ◌+◌, ◌==◌, ◌&&◌, ℕ, Bool, true, false, List, [], ◌∷◌, ◌++◌, None, Some, take, refl, sym, ap, ◌∙◌, ⊎_elim, arith, codes}
use Rattle.std.specs.Prelude.{nat_lt}
use Rattle.std.specs.Char.{is_ascii_alphabetic, to_ascii_lowercase}
use Rattle.std.specs.List.{list_all}
use Rattle.std.specs.Str.{bytes_eq, str_to_ascii_lowercase}
use Rattle.std.proofs.lemmas.Bool.{and_parts, and_right, cases_Bool, cond-false, cond-true, false≢true, ltb-false, ne_eqb, true≢false}
use Rattle.base_syntax.specs.Cuts.{HasNone}
use Rattle.base_syntax.specs.Names.{same_name}
use Rattle.base_syntax.proofs.Cuts.{cut_behind}
use Rattle.source_urls.specs.Control.{base_fault, control_fault, text_fault}
use Rattle.source_urls.specs.Parts.{has_scheme}
use Rattle.source_urls.specs.Scheme.{has_other_scheme, is_scheme, is_scheme_byte}
use Rattle.source_urls.specs.UriText.{has_uri_bytes, is_long}
use Rattle.source_urls.proofs.Cutting.{different, none_passing}
use Rattle.source_urls.proofs.Guards.{guard, guard_not, neither}

-- a byte of a scheme is no colon, in either case
lowered : (b : ℕ) → to_ascii_lowercase b ≡ 58 → b ≡ 58
lowered b e = ⊎_elim
    (λ low. let is : to_ascii_lowercase b ≡ b = cond-true _ _ _ low in sym is ∙ e)
    (λ high. ⊎_elim
    (λ capital. let is : to_ascii_lowercase b ≡ b + 32 = cond-false _ _ _ high ∙ cond-true _ _ _ capital in absurd (omega (arith, ltb-false b 65 high, sym is ∙ e)))
    (λ above. let is : to_ascii_lowercase b ≡ b = cond-false _ _ _ high ∙ cond-false _ _ _ above in sym is ∙ e)
    (cases_Bool (nat_lt b 91)))
    (cases_Bool (nat_lt b 65))

no_colon : (b : ℕ) → is_scheme_byte b ≡ true → (to_ascii_lowercase b == 58) ≡ false
no_colon b fit = ne_eqb (to_ascii_lowercase b) 58 (λ e. true≢false (sym fit ∙ ap is_scheme_byte (lowered b e)))

scheme_bare : (scheme : List ℕ) → is_scheme scheme ≡ true → HasNone 58 scheme
scheme_bare [] h = absurd (false≢true h)
scheme_bare (b ∷ bs) h =
    let both = and_parts (is_ascii_alphabetic b) (list_all is_scheme_byte bs) h in
    (different is_ascii_alphabetic 58 b refl both.0, none_passing is_scheme_byte 58 bs refl both.1)

-- the text begins with `rtsp://` only if its scheme is `rtsp`
before : (a b : Bool) → a ≡ false → (a && b) ≡ false
before a b h = ap (λ (x : Bool). x && b) h

after : (a b : Bool) → b ≡ false → (a && b) ≡ false
after a b h = and_right a b h

not_rtsp : (scheme behind : List ℕ) → is_scheme scheme ≡ true → same_name scheme (codes "rtsp") ≡ false → has_scheme (codes "rtsp://") (scheme ++ 58 ∷ 47 ∷ 47 ∷ behind) ≡ false
not_rtsp [] behind is other = absurd (false≢true is)
not_rtsp (a ∷ []) behind is other = after (to_ascii_lowercase a == 114) false refl
not_rtsp (a ∷ b ∷ []) behind is other = after (to_ascii_lowercase a == 114) ((to_ascii_lowercase b == 116) && false) (after (to_ascii_lowercase b == 116) false refl)
not_rtsp (a ∷ b ∷ c ∷ []) behind is other =
    after (to_ascii_lowercase a == 114) ((to_ascii_lowercase b == 116) && ((to_ascii_lowercase c == 115) && false))
    (after (to_ascii_lowercase b == 116) ((to_ascii_lowercase c == 115) && false) (after (to_ascii_lowercase c == 115) false refl))
not_rtsp (a ∷ b ∷ c ∷ d ∷ []) behind is other = other
not_rtsp (a ∷ b ∷ c ∷ d ∷ e ∷ more) behind is other =
    let tail = (and_parts (is_ascii_alphabetic a) (list_all is_scheme_byte (b ∷ c ∷ d ∷ e ∷ more)) is).1 in
    let from_c = (and_parts (is_scheme_byte b) (list_all is_scheme_byte (c ∷ d ∷ e ∷ more)) tail).1 in
    let from_d = (and_parts (is_scheme_byte c) (list_all is_scheme_byte (d ∷ e ∷ more)) from_c).1 in
    let from_e = (and_parts (is_scheme_byte d) (list_all is_scheme_byte (e ∷ more)) from_d).1 in
    let fifth = (and_parts (is_scheme_byte e) (list_all is_scheme_byte more) from_e).0 in
    let one : Bool = to_ascii_lowercase a == 114 in
    let two : Bool = to_ascii_lowercase b == 116 in
    let three : Bool = to_ascii_lowercase c == 115 in
    let four : Bool = to_ascii_lowercase d == 112 in
    let five : Bool = to_ascii_lowercase e == 58 in
    let others : Bool = bytes_eq (str_to_ascii_lowercase (take 2 (more ++ 58 ∷ 47 ∷ 47 ∷ behind))) (codes "//") in
    after one (two && (three && (four && (five && others))))
    (after two (three && (four && (five && others)))
    (after three (four && (five && others))
    (after four (five && others) (before five others (no_colon e fifth)))))

has_other : (scheme behind : List ℕ) → is_scheme scheme ≡ true → same_name scheme (codes "rtsp") ≡ false → has_other_scheme (scheme ++ 58 ∷ 47 ∷ 47 ∷ behind) ≡ true
has_other scheme behind is other =
    let cut = cut_behind 58 scheme (47 ∷ 47 ∷ behind) (scheme_bare scheme is) in
    rw (not_rtsp scheme behind is other, cut.0, cut.1, is) refl

other_text : (control : List ℕ) → has_other_scheme control ≡ true → text_fault control ≢ None
other_text control other h =
    let short = guard (is_long control) _ _ h in
    let visible = guard_not (has_uri_bytes control) _ _ short.1 in
    let own = guard (has_other_scheme control) _ _ visible.1 in
    true≢false (sym other ∙ own.0)

pub other_scheme : (base scheme behind : List ℕ) → is_scheme scheme ≡ true → same_name scheme (codes "rtsp") ≡ false
    → control_fault base (Some (scheme ++ (codes "://" ++ behind))) ≢ None
unfolding control_fault
other_scheme base scheme behind is other h =
    let control : List ℕ = scheme ++ (codes "://" ++ behind) in
    other_text control (has_other scheme behind is other) (neither (base_fault base) (text_fault control) h).1
