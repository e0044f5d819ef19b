-- The parts of a field are its pieces.
use Rattle.std.proofs.Common.{◌≡◌, ◌==◌, ℕ, Bool, true, false, List, [], ◌∷◌, ◌++◌, Option, None, Some, map, refl, ap, sym, subst, ◌∙◌, ⊎_elim}
use Rattle.std.specs.List.{AllByRecursion, flat_map}
use Rattle.std.proofs.lemmas.Bool.{cond-false, true≢false}
use Rattle.std.proofs.lemmas.Bool.Decides.{eqb_tells}
use Rattle.base_syntax.specs.Blanks.{is_blank}
use Rattle.rtsp_auth.specs.declared.place.Place.{Place}
use Rattle.rtsp_auth.specs.declared.place.Place.TheVariants as places
use Rattle.rtsp_auth.specs.Answers.{quoted_byte}
use Rattle.rtsp_auth.specs.Commas.{ArePieces, IsUncut, place_behind}
use Rattle.rtsp_auth.specs.Items.{field_items, items_in}
use Rattle.rtsp_auth.specs.Pieces.{cuts, pieces, place_after}
use Rattle.rtsp_auth.specs.Values.{is_bare_byte}
use Rattle.rtsp_auth.specs.Written.{AreBlanks, IsPart, IsScheme, IsValue, Part, parameter_text, part_items, part_text, parts_text, scheme_text, value_text}
use Rattle.rtsp_auth.proofs.BareValues.{bare_byte}
use Rattle.rtsp_auth.proofs.Joined.{only}
use Rattle.rtsp_auth.proofs.PartsRead.{part_read}
use Rattle.rtsp_auth.proofs.Tokens.{AreTokenBytes, comma_unfit, differs, quote_unfit}

-- a text has no comma that cuts, and what is after it is at this place
record Leads (place : Place) (text : List ℕ) (behind : Place) : Type 0 where
  uncut : IsUncut place text
  behind_is : place_behind place text ≡ behind

leads_append : (place middle behind : Place) (front back : List ℕ) → Leads place front middle → Leads middle back behind → Leads place (front ++ back) behind
leads_append place middle behind [] back h k = subst (λ (p : Place). Leads p back behind) (sym h.behind_is) k
leads_append place middle behind (byte ∷ front) back h k =
    let rest = leads_append (place_after place byte) middle behind front back (record { uncut = h.uncut.1; behind_is = h.behind_is }) k in
    record { uncut = (h.uncut.0, rest.uncut); behind_is = rest.behind_is }

leads_byte : (place middle behind : Place) (byte : ℕ) (bytes : List ℕ) → cuts place byte ≡ false → place_after place byte ≡ middle → Leads middle bytes behind → Leads place (byte ∷ bytes) behind
leads_byte place middle behind byte bytes uncut after k =
    let rest : Leads (place_after place byte) bytes behind = subst (λ (p : Place). Leads p bytes behind) (sym after) k in
    record { uncut = (uncut, rest.uncut); behind_is = rest.behind_is }

leads_nothing : (place : Place) → Leads place [] place
leads_nothing place = record { uncut = tt; behind_is = refl }

-- bytes that are neither commas nor quotes
leads_plain : (byte : ℕ) (bytes : List ℕ) → (byte == 44) ≡ false → (byte == 34) ≡ false → Leads places.Outside bytes places.Outside → Leads places.Outside (byte ∷ bytes) places.Outside
leads_plain byte bytes no_comma no_quote k = leads_byte places.Outside places.Outside places.Outside byte bytes no_comma (cond-false _ _ _ no_quote) k

leads_token : (text : List ℕ) → AreTokenBytes text → Leads places.Outside text places.Outside
leads_token [] h = leads_nothing places.Outside
leads_token (byte ∷ bytes) h = leads_plain byte bytes (differs 44 byte comma_unfit h.0) (differs 34 byte quote_unfit h.0) (leads_token bytes h.1)

leads_bare : (text : List ℕ) → AllByRecursion (λ byte. is_bare_byte byte ≡ true) text → Leads places.Outside text places.Outside
leads_bare [] h = leads_nothing places.Outside
leads_bare (byte ∷ bytes) h =
    let plain = bare_byte byte h.0 in
    leads_plain byte bytes plain.no_comma plain.no_quote (leads_bare bytes h.1)

not_blank : (mark byte : ℕ) → is_blank mark ≡ false → is_blank byte ≡ true → (byte == mark) ≡ false
not_blank mark byte unfit fit = ⊎_elim
    (λ same. absurd (true≢false (sym fit ∙ ap is_blank same.1 ∙ unfit)))
    (λ other. other.0)
    (eqb_tells byte mark)

leads_blanks : (text : List ℕ) → AreBlanks text → Leads places.Outside text places.Outside
leads_blanks [] h = leads_nothing places.Outside
leads_blanks (byte ∷ bytes) h = leads_plain byte bytes (not_blank 44 byte refl h.0) (not_blank 34 byte refl h.0) (leads_blanks bytes h.1)

-- a quoted string
leads_quoted_byte : (byte : ℕ) → Leads places.Quoted (quoted_byte byte) places.Quoted
leads_quoted_byte byte =
    let Stays : ℕ → Type 0 = λ b. Leads places.Quoted (quoted_byte b) places.Quoted in
    let at_quote : Stays 34 = record { uncut = (refl, (refl, tt)); behind_is = refl } in
    let at_slash : Stays 92 = record { uncut = (refl, (refl, tt)); behind_is = refl } in
    ⊎_elim
    (λ quote. subst Stays (sym quote.1) at_quote)
    (λ no_quote. ⊎_elim
    (λ slash. subst Stays (sym slash.1) at_slash)
    (λ no_slash.
    let plain : quoted_byte byte ≡ byte ∷ [] = cond-false _ _ _ no_quote.0 ∙ cond-false _ _ _ no_slash.0 in
    let after : place_after places.Quoted byte ≡ places.Quoted = cond-false _ _ _ no_quote.0 ∙ cond-false _ _ _ no_slash.0 in
    subst (λ (t : List ℕ). Leads places.Quoted t places.Quoted) (sym plain) (leads_byte places.Quoted places.Quoted places.Quoted byte [] refl after (leads_nothing places.Quoted)))
    (eqb_tells byte 92))
    (eqb_tells byte 34)

leads_quoted : (value : List ℕ) → Leads places.Quoted (flat_map quoted_byte value) places.Quoted
leads_quoted [] = leads_nothing places.Quoted
leads_quoted (byte ∷ bytes) = leads_append places.Quoted places.Quoted places.Quoted (quoted_byte byte) (flat_map quoted_byte bytes) (leads_quoted_byte byte) (leads_quoted bytes)

leads_value : (is_quoted : Bool) (value : List ℕ) → IsValue is_quoted value → Leads places.Outside (value_text is_quoted value) places.Outside
leads_value true value h =
    leads_byte places.Outside places.Quoted places.Outside 34 (flat_map quoted_byte value ++ 34 ∷ []) refl refl
    (leads_append places.Quoted places.Quoted places.Outside (flat_map quoted_byte value) (34 ∷ []) (leads_quoted value) (record { uncut = (refl, tt); behind_is = refl }))
leads_value false value h = leads_bare value h.bytes

leads_scheme : (scheme : Option (List ℕ)) → IsScheme scheme → Leads places.Outside (scheme_text scheme) places.Outside
leads_scheme None h = leads_nothing places.Outside
leads_scheme (Some scheme) h =
    leads_append places.Outside places.Outside places.Outside scheme (32 ∷ []) (leads_token scheme h.1) (record { uncut = (refl, tt); behind_is = refl })

leads_part : (part : Part) → IsPart part → Leads places.Outside (part_text part) places.Outside
leads_part part h =
    let o = places.Outside in
    let parameter : Leads o (parameter_text part) o = leads_append o o o part.name (61 ∷ value_text part.is_quoted part.value) (leads_token part.name h.name.1) (leads_byte o o o 61 (value_text part.is_quoted part.value) refl refl (leads_value part.is_quoted part.value h.value)) in
    let core : Leads o (scheme_text part.scheme ++ parameter_text part) o = leads_append o o o (scheme_text part.scheme) (parameter_text part) (leads_scheme part.scheme h.scheme) parameter in
    leads_append o o o part.front ((scheme_text part.scheme ++ parameter_text part) ++ part.back) (leads_blanks part.front h.front) (leads_append o o o (scheme_text part.scheme ++ parameter_text part) part.back core (leads_blanks part.back h.back))

-- the parts of a field
are_pieces : (part : Part) (parts : List Part) → AllByRecursion IsPart (part ∷ parts) → ArePieces (part_text part ∷ map part_text parts)
are_pieces part [] h = (leads_part part h.0).uncut
are_pieces part (next ∷ parts) h = ((leads_part part h.0).uncut, (leads_part part h.0).behind_is, are_pieces next parts h.1)

all_read : (parts : List Part) → AllByRecursion IsPart parts → flat_map items_in (map part_text parts) ≡ flat_map part_items parts
all_read [] h = refl
all_read (part ∷ parts) h = rw (part_read part h.0, all_read parts h.1) refl

cut_read : (parts : List Part) → AllByRecursion IsPart parts → flat_map items_in (pieces (parts_text parts)) ≡ flat_map part_items parts
cut_read [] h = refl
cut_read (part ∷ parts) h = ap (flat_map items_in) (only (part_text part ∷ map part_text parts) (are_pieces part parts h)) ∙ all_read (part ∷ parts) h

pub field_read : (parts : List Part) → AllByRecursion IsPart parts → field_items (parts_text parts) ≡ flat_map part_items parts
field_read parts h = cut_read parts h
