-- Values that are read have no control character.
use Rattle.std.proofs.Common.{◌≡◌, ◌==◌, ℕ, Bool, true, false, List, [], ◌∷◌, Option, None, Some, refl, sym, subst, ◌∙◌, ⊎_elim}
use Rattle.std.specs.Char.{is_ascii_control}
use Rattle.std.specs.List.{list_all}
use Rattle.std.specs.Option.{option_map}
use Rattle.std.proofs.lemmas.Bool.{and_parts, cases_Bool, cond-false, cond-true}
use Rattle.rtsp_auth.specs.declared.values.Mark.{Mark}
use Rattle.rtsp_auth.specs.declared.values.Mark.TheVariants as marks
use Rattle.rtsp_auth.specs.Values.{bare_in, closed, is_bare_byte, mark_of, unquoted, unquoted_from, value_by, value_in}
use Rattle.rtsp_auth.specs.Written.{HasNoControl}
use Rattle.rtsp_auth.proofs.BareValues.{bare_byte}

-- a value without quotes
bare_clean : (text : List ℕ) → list_all is_bare_byte text ≡ true → HasNoControl text
bare_clean [] h = tt
bare_clean (byte ∷ bytes) h =
    let both = and_parts (is_bare_byte byte) (list_all is_bare_byte bytes) h in
    ((bare_byte byte both.0).control, bare_clean bytes both.1)

bare_in_clean : (text value : List ℕ) → bare_in text ≡ Some value → HasNoControl value
bare_in_clean text value e = ⊎_elim
    (λ all. let is : bare_in text ≡ Some text = cond-true _ _ _ all in
    let found : Some text ≡ Some value = sym is ∙ e in
    let same : text ≡ value = cc in
    subst HasNoControl same (bare_clean text all))
    (λ some. let is : bare_in text ≡ None = cond-false _ _ _ some in
    let nothing : None ≡ Some value = sym is ∙ e in
    absurd (cc))
    (cases_Bool (list_all is_bare_byte text))

-- a quoted string
text_clean : (is_escaped : Bool) (byte : ℕ) → mark_of is_escaped byte ≡ marks.Text → is_ascii_control byte ≡ false
text_clean is_escaped byte e = ⊎_elim
    (λ control. let is : mark_of is_escaped byte ≡ marks.Control = cond-true _ _ _ control in
    let clash : marks.Control ≡ marks.Text = sym is ∙ e in
    absurd (cc))
    (λ clean. clean)
    (cases_Bool (is_ascii_control byte))

closed_clean : (behind value : List ℕ) → closed [] behind ≡ Some value → HasNoControl value
closed_clean [] value e = let same : [] ≡ value = cc in subst HasNoControl same tt
closed_clean (byte ∷ bytes) value e = absurd (cc)

more_clean : (byte : ℕ) (others : Option (List ℕ)) (value : List ℕ) → is_ascii_control byte ≡ false → ((rest : List ℕ) → others ≡ Some rest → HasNoControl rest)
    → option_map (λ rest. byte ∷ rest) others ≡ Some value → HasNoControl value
more_clean byte None value plain clean e = absurd (cc)
more_clean byte (Some rest) value plain clean e =
    let same : byte ∷ rest ≡ value = cc in
    subst HasNoControl same (plain, clean rest refl)

by_mark : (mark : Mark) (byte : ℕ) (behind : List ℕ) (if_escape if_text : Option (List ℕ)) (value : List ℕ) → (mark ≡ marks.Text → is_ascii_control byte ≡ false)
    → ((rest : List ℕ) → if_escape ≡ Some rest → HasNoControl rest) → ((rest : List ℕ) → if_text ≡ Some rest → HasNoControl rest)
    → value_by mark byte behind if_escape if_text ≡ Some value → HasNoControl value
by_mark marks.Control byte behind if_escape if_text value plain escape text e = absurd (cc)
by_mark marks.Close byte behind if_escape if_text value plain escape text e = closed_clean behind value e
by_mark marks.Escape byte behind if_escape if_text value plain escape text e = escape value e
by_mark marks.Text byte behind if_escape if_text value plain escape text e = more_clean byte if_text value (plain refl) text e

unquoted_clean : (is_escaped : Bool) (text value : List ℕ) → unquoted_from is_escaped text ≡ Some value → HasNoControl value
unquoted_clean is_escaped [] value e = absurd (cc)
unquoted_clean is_escaped (byte ∷ bytes) value e =
    by_mark (mark_of is_escaped byte) byte bytes (unquoted_from true bytes) (unquoted_from false bytes) value (text_clean is_escaped byte)
    (λ rest r. unquoted_clean true bytes rest r) (λ rest r. unquoted_clean false bytes rest r) e

pub value_clean : (text value : List ℕ) → value_in text ≡ Some value → HasNoControl value
value_clean [] value e = absurd (cc)
value_clean (byte ∷ bytes) value e = ⊎_elim
    (λ quote. let is : value_in (byte ∷ bytes) ≡ unquoted bytes = cond-true _ _ _ quote in unquoted_clean false bytes value (sym is ∙ e))
    (λ other. let is : value_in (byte ∷ bytes) ≡ bare_in (byte ∷ bytes) = cond-false _ _ _ other in bare_in_clean (byte ∷ bytes) value (sym is ∙ e))
    (cases_Bool (byte == 34))
