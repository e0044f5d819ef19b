-- A part of a field is read as what was written.
use Rattle.std.proofs.Common.{◌≡◌, ℕ, Bool, true, false, List, [], ◌∷◌, ◌++◌, Option, None, Some, refl, ap, sym, ◌∙◌, arith, append_assoc, append-nil}
use Rattle.std.specs.List.{flat_map}
use Rattle.std.proofs.lemmas.Bool.{cond-true, cond-false}
use Rattle.base_syntax.specs.Blanks.{is_blank, trimmed}
use Rattle.rtsp_auth.specs.declared.item.Item.{Item}
use Rattle.rtsp_auth.specs.declared.item.Item.TheVariants as items
use Rattle.rtsp_auth.specs.Answers.{quoted_byte}
use Rattle.rtsp_auth.specs.Items.{item_with, items_behind, items_in, items_of_text, parameter_behind, parameter_in, parameter_item, scheme_item, scheme_of}
use Rattle.rtsp_auth.specs.Values.{value_in}
use Rattle.rtsp_auth.specs.Words.{behind_word, is_token_byte, word_of}
use Rattle.rtsp_auth.specs.Written.{AreBlanks, IsPart, IsScheme, IsToken, IsValue, Part, part_items, part_text, scheme_items, scheme_text, value_text}
use Rattle.rtsp_auth.proofs.BareValues.{all_bare, bare_byte, bare_ends, bare_start}
use Rattle.rtsp_auth.proofs.Tokens.{EndsBare, behind_is, differs, ends_behind, equals_unfit, not_blank, space_unfit, trimmed_bare, trimmed_between, word_is}
use Rattle.rtsp_auth.proofs.WrittenAgain.{read_again}

-- a value
pub value_read : (is_quoted : Bool) (value : List ℕ) → IsValue is_quoted value → value_in (trimmed (value_text is_quoted value)) ≡ Some value
value_read true value h =
    ap value_in (trimmed_bare 34 (flat_map quoted_byte value ++ 34 ∷ []) refl (ends_behind (34 ∷ flat_map quoted_byte value) (34 ∷ []) refl)) ∙ read_again value h
value_read false [] h = absurd (omega (arith, h.some))
value_read false (byte ∷ bytes) h =
    ap value_in (trimmed_bare byte bytes (bare_start byte bytes h) (bare_ends byte bytes h))
    ∙ cond-false _ _ _ (bare_byte byte h.bytes.0).no_quote
    ∙ cond-true _ _ _ (all_bare (byte ∷ bytes) h.bytes)

value_ends : (is_quoted : Bool) (value : List ℕ) → IsValue is_quoted value → EndsBare (61 ∷ value_text is_quoted value)
value_ends true value h = ends_behind (61 ∷ 34 ∷ flat_map quoted_byte value) (34 ∷ []) refl
value_ends false [] h = absurd (omega (arith, h.some))
value_ends false (byte ∷ bytes) h = bare_ends byte bytes h

-- a parameter: its text, and what is read of it
abbrev text_of : (name : List ℕ) (is_quoted : Bool) (value : List ℕ) → List ℕ
text_of name is_quoted value = name ++ 61 ∷ value_text is_quoted value

abbrev item_of : (name value : List ℕ) → Item
item_of name value = items.Parameter (record { name = name; value = value })

equals_behind : (name : List ℕ) (is_quoted : Bool) (value : List ℕ) → IsToken name → IsValue is_quoted value → behind_word (text_of name is_quoted value) ≡ 61 ∷ value_text is_quoted value
equals_behind name is_quoted value is_name is_value =
    behind_is name (value_text is_quoted value) 61 is_name.1 equals_unfit
    ∙ trimmed_bare 61 (value_text is_quoted value) refl (value_ends is_quoted value is_value)

named : (name : List ℕ) (is_quoted : Bool) (value : List ℕ) → IsToken name → IsValue is_quoted value → parameter_item name (value_text is_quoted value) ≡ item_of name value
named [] is_quoted value is_name is_value = absurd (omega arith)
named (byte ∷ bytes) is_quoted value is_name is_value = ap (item_with (byte ∷ bytes)) (value_read is_quoted value is_value)

parameter_read : (name : List ℕ) (is_quoted : Bool) (value : List ℕ) → IsToken name → IsValue is_quoted value → parameter_in (text_of name is_quoted value) ≡ item_of name value
parameter_read name is_quoted value is_name is_value =
    ap (λ (behind : List ℕ). parameter_behind (word_of (text_of name is_quoted value)) behind) (equals_behind name is_quoted value is_name is_value)
    ∙ ap (λ (word : List ℕ). parameter_item word (value_text is_quoted value)) (word_is name (value_text is_quoted value) 61 is_name.1 equals_unfit)
    ∙ named name is_quoted value is_name is_value

-- a part between blanks, without and with a scheme
text_ends : (name : List ℕ) (is_quoted : Bool) (value : List ℕ) → IsValue is_quoted value → EndsBare (text_of name is_quoted value)
text_ends name is_quoted value is_value = ends_behind name (61 ∷ value_text is_quoted value) (value_ends is_quoted value is_value)

pub more_read : (front back name : List ℕ) (is_quoted : Bool) (value : List ℕ) → AreBlanks front → AreBlanks back → IsToken name → IsValue is_quoted value
    → items_in (front ++ (text_of name is_quoted value ++ back)) ≡ item_of name value ∷ []
more_read front back [] is_quoted value before behind is_name is_value = absurd (omega arith)
more_read front back (byte ∷ bytes) is_quoted value before behind is_name is_value =
    let name : List ℕ = byte ∷ bytes in
    let text : List ℕ = text_of name is_quoted value in
    ap items_of_text (trimmed_between front back byte (bytes ++ 61 ∷ value_text is_quoted value) before behind (not_blank byte is_name.1.0) (text_ends name is_quoted value is_value))
    ∙ ap (λ (rest : List ℕ). items_behind (word_of text) rest) (equals_behind name is_quoted value is_name is_value)
    ∙ ap (λ (word : List ℕ). parameter_item word (value_text is_quoted value) ∷ []) (word_is name (value_text is_quoted value) 61 is_name.1 equals_unfit)
    ∙ ap (λ (item : Item). item ∷ []) (named name is_quoted value is_name is_value)

schemed : (scheme : List ℕ) → IsToken scheme → scheme_item scheme ≡ items.Scheme (scheme_of scheme)
schemed [] h = absurd (omega arith)
schemed (byte ∷ bytes) h = refl

space_behind : (scheme : List ℕ) (byte : ℕ) (bytes : List ℕ) → IsToken scheme → is_blank byte ≡ false → EndsBare (byte ∷ bytes) → behind_word (scheme ++ 32 ∷ byte ∷ bytes) ≡ byte ∷ bytes
space_behind scheme byte bytes is_scheme start end =
    behind_is scheme (byte ∷ bytes) 32 is_scheme.1 space_unfit
    ∙ ap (λ (t : List ℕ). trimmed (32 ∷ byte ∷ t)) (sym (append-nil bytes))
    ∙ trimmed_between (32 ∷ []) [] byte bytes (refl, tt) tt start end

-- a scheme, and the text of a parameter after a space
both_read : (scheme : List ℕ) (byte : ℕ) (bytes : List ℕ) → IsToken scheme → is_token_byte byte ≡ true → EndsBare (byte ∷ bytes)
    → items_behind (word_of (scheme ++ 32 ∷ byte ∷ bytes)) (behind_word (scheme ++ 32 ∷ byte ∷ bytes)) ≡ items.Scheme (scheme_of scheme) ∷ parameter_in (byte ∷ bytes) ∷ []
both_read scheme byte bytes is_scheme is_name end =
    ap (λ (rest : List ℕ). items_behind (word_of (scheme ++ 32 ∷ byte ∷ bytes)) rest) (space_behind scheme byte bytes is_scheme (not_blank byte is_name) end)
    ∙ ap (λ (word : List ℕ). items_behind word (byte ∷ bytes)) (word_is scheme (byte ∷ bytes) 32 is_scheme.1 space_unfit)
    ∙ cond-false _ _ _ (differs 61 byte equals_unfit is_name)
    ∙ ap (λ (item : Item). item ∷ parameter_in (byte ∷ bytes) ∷ []) (schemed scheme is_scheme)

schemed_text : (scheme text : List ℕ) → IsToken scheme → (front back : List ℕ) → AreBlanks front → AreBlanks back → EndsBare text
    → items_in (front ++ ((scheme ++ 32 ∷ text) ++ back)) ≡ items_behind (word_of (scheme ++ 32 ∷ text)) (behind_word (scheme ++ 32 ∷ text))
schemed_text [] text is_scheme front back before behind end = absurd (omega arith)
schemed_text (byte ∷ bytes) text is_scheme front back before behind end =
    ap items_of_text (trimmed_between front back byte (bytes ++ 32 ∷ text) before behind (not_blank byte is_scheme.1.0) (ends_behind (byte ∷ bytes) (32 ∷ text) (ends_behind (32 ∷ []) text end)))

pub start_read : (front back scheme name : List ℕ) (is_quoted : Bool) (value : List ℕ) → AreBlanks front → AreBlanks back → IsToken scheme → IsToken name → IsValue is_quoted value
    → items_in (front ++ ((scheme ++ 32 ∷ text_of name is_quoted value) ++ back)) ≡ items.Scheme (scheme_of scheme) ∷ item_of name value ∷ []
start_read front back scheme [] is_quoted value before behind is_scheme is_name is_value = absurd (omega arith)
start_read front back scheme (byte ∷ bytes) is_quoted value before behind is_scheme is_name is_value =
    let name : List ℕ = byte ∷ bytes in
    let end : EndsBare (text_of name is_quoted value) = text_ends name is_quoted value is_value in
    schemed_text scheme (text_of name is_quoted value) is_scheme front back before behind end
    ∙ both_read scheme byte (bytes ++ 61 ∷ value_text is_quoted value) is_scheme is_name.1.0 end
    ∙ ap (λ (item : Item). items.Scheme (scheme_of scheme) ∷ item ∷ []) (parameter_read name is_quoted value is_name is_value)

by_scheme : (front back name : List ℕ) (scheme : Option (List ℕ)) (is_quoted : Bool) (value : List ℕ) → AreBlanks front → AreBlanks back → IsScheme scheme → IsToken name → IsValue is_quoted value
    → items_in (front ++ ((scheme_text scheme ++ text_of name is_quoted value) ++ back)) ≡ scheme_items scheme ++ item_of name value ∷ []
by_scheme front back name None is_quoted value before behind is_scheme is_name is_value = more_read front back name is_quoted value before behind is_name is_value
by_scheme front back name (Some scheme) is_quoted value before behind is_scheme is_name is_value =
    ap (λ (t : List ℕ). items_in (front ++ (t ++ back))) (append_assoc scheme (32 ∷ []) (text_of name is_quoted value))
    ∙ start_read front back scheme name is_quoted value before behind is_scheme is_name is_value

pub part_read : (part : Part) → IsPart part → items_in (part_text part) ≡ part_items part
part_read part h = by_scheme part.front part.back part.name part.scheme part.is_quoted part.value h.front h.back h.scheme h.name h.value
