-- The Transport header of a reply is read as what was chosen.
use Rattle.std.proofs.Common.{◌≡◌, ◌<◌, ◌==◌, ◌&&◌, ℕ, Bool, true, false, not, cond, List, [], ◌∷◌, ◌++◌, map, codes, decimal, Option, Some, inr, refl, ap, sym, ◌∙◌, arith, append_assoc, append-nil}
use Rattle.std.specs.Char.{digit_value}
use Rattle.std.specs.List.{AllByRecursion, list_all, join_with_byte}
use Rattle.std.specs.Str.Parse.{AllDigits}
use Rattle.std.proofs.lemmas.Bool.{and_parts}
use Rattle.std.proofs.lemmas.Bool.Decides.{nat_tests}
use Rattle.std.proofs.lemmas.Fmt.{decimal_is_IsNumeral}
use Rattle.std.proofs.lemmas.List.Folds.{list_all-append}
use Rattle.std.proofs.lemmas.List.Sums.{fold-append}
use Rattle.transport_header.specs.declared.spec.Spec.{Spec}
use Rattle.transport_header.specs.declared.spec.ChannelPair.{ChannelPair}
use Rattle.transport_header.specs.declared.spec.Mode.{Mode}
use Rattle.transport_header.specs.declared.spec.Mode.TheVariants.{Play, Record}
use Rattle.transport_header.specs.declared.spec.Protocol.TheVariants.{Tcp}
use Rattle.transport_header.specs.declared.chosen.Chosen.{Chosen}
use Rattle.base_syntax.specs.Blanks.{is_blank, trimmed}
use Rattle.base_syntax.specs.Quotes.{cuts, quoted_after, parts}
use Rattle.transport_header.specs.Transport.{channels_of, mode_of, spec_of, specs_of, spec_of_parts}
use Rattle.transport_header.specs.Chosen.{mode_text, transport_text}
use Rattle.transport_header.specs.Interleaved.{IsChannel}
use Rattle.transport_header.specs.Answered.{answered}
use Rattle.base_syntax.proofs.AreParts.{open_after, Uncut, Parts, last_part, only_parts}
use Rattle.transport_header.proofs.Grammar.{reads}
use Rattle.transport_header.proofs.ReadAgain.{IsPlain, plain_trimmed}

-- bytes that aren't cut, by a test
abbrev passes : ℕ → Bool → List ℕ → Bool
passes separator quoted [] = true
passes separator quoted (b ∷ bs) = not (cuts separator quoted b) && passes separator (quoted_after quoted b) bs

fails : (test : Bool) → not test ≡ true → test ≡ false
fails true h = sym h
fails false h = refl

all_of : (a b : Bool) → a ≡ true → b ≡ true → (a && b) ≡ true
all_of a b at_a at_b = rw (at_a, at_b) refl

passed : (separator : ℕ) (quoted : Bool) (bytes : List ℕ) → passes separator quoted bytes ≡ true → Uncut separator quoted bytes
passed separator quoted [] h = tt
passed separator quoted (b ∷ bs) h =
    let here : (not (cuts separator quoted b) ≡ true) × (passes separator (quoted_after quoted b) bs ≡ true) = and_parts _ _ h in
    (fails _ here.0, passed separator (quoted_after quoted b) bs here.1)

passes_both : (separator : ℕ) (quoted : Bool) (xs ys : List ℕ) → passes separator quoted xs ≡ true → passes separator (open_after quoted xs) ys ≡ true → passes separator quoted (xs ++ ys) ≡ true
passes_both separator quoted [] ys h h' = h'
passes_both separator quoted (x ∷ xs) ys h h' =
    let here : (not (cuts separator quoted x) ≡ true) × (passes separator (quoted_after quoted x) xs ≡ true) = and_parts _ _ h in
    all_of _ _ here.0 (passes_both separator (quoted_after quoted x) xs ys here.1 h')

-- bytes that aren't cut, and leave no quote open
abbrev Calm : ℕ → List ℕ → Type 0
Calm separator bytes = (passes separator false bytes ≡ true) × (open_after false bytes ≡ false)

calm_both : (separator : ℕ) (xs ys : List ℕ) → Calm separator xs → Calm separator ys → Calm separator (xs ++ ys)
calm_both separator xs ys h h' = (
  passes_both separator false xs ys h.0 (ap (λ q. passes separator q ys) h.1 ∙ h'.0),
  fold-append quoted_after false xs ys ∙ ap (λ q. open_after q ys) h.1 ∙ h'.1,
)

unquoted : (c : ℕ) → digit_value c < 10 → (c == 34) ≡ false
unquoted c h = grind (arith, nat_tests)

not_comma : (c : ℕ) → digit_value c < 10 → (c == 44) ≡ false
not_comma c h = grind (arith, nat_tests)

not_semicolon : (c : ℕ) → digit_value c < 10 → (c == 59) ≡ false
not_semicolon c h = grind (arith, nat_tests)

not_blank : (c : ℕ) → digit_value c < 10 → is_blank c ≡ false
not_blank c h = grind (arith, nat_tests)

calm_digits : (separator : ℕ) → ((c : ℕ) → digit_value c < 10 → (c == separator) ≡ false) → (ds : List ℕ) → AllDigits 10 ds → Calm separator ds
calm_digits separator other [] h = (refl, refl)
calm_digits separator other (c ∷ cs) h =
    let rest : Calm separator cs = calm_digits separator other cs h.1 in
    let stays : quoted_after false c ≡ false = ap (λ t. cond t (not false) false) (unquoted c h.0) in
    (all_of _ _ (ap not (other c h.0)) (ap (λ q. passes separator q cs) stays ∙ rest.0), ap (λ q. open_after q cs) stays ∙ rest.1)

-- the value of `interleaved`, and that parameter
abbrev asked : ℕ → ℕ → List ℕ
asked a b = decimal a ++ 45 ∷ decimal b

abbrev parameter_of : ℕ → ℕ → List ℕ
parameter_of a b = codes "interleaved=" ++ asked a b

numeral : (n : ℕ) → n < 256 → IsChannel (decimal n) n
numeral n small = let written = decimal_is_IsNumeral n (omega arith) in record { numeral = written.0; value = written.1; most = omega arith }

calm_asked : (separator : ℕ) → ((c : ℕ) → digit_value c < 10 → (c == separator) ≡ false) → Calm separator (45 ∷ []) → (a b : ℕ) → a < 256 → b < 256 → Calm separator (asked a b)
calm_asked separator other dash a b small small' =
    calm_both separator (decimal a) (45 ∷ decimal b) (calm_digits separator other (decimal a) (numeral a small).numeral.1)
    (calm_both separator (45 ∷ []) (decimal b) dash (calm_digits separator other (decimal b) (numeral b small').numeral.1))

-- no blank at the ends of that parameter
abbrev is_plain : ℕ → Bool
is_plain b = not (b == 59) && not (is_blank b)

plain_digits : (ds : List ℕ) → AllDigits 10 ds → list_all is_plain ds ≡ true
plain_digits [] h = refl
plain_digits (c ∷ cs) h = all_of _ _ (all_of _ _ (ap not (not_semicolon c h.0)) (ap not (not_blank c h.0))) (plain_digits cs h.1)

plain_from : (text : List ℕ) → list_all is_plain text ≡ true → AllByRecursion IsPlain text
plain_from [] h = tt
plain_from (b ∷ bs) h = let parts = and_parts _ _ h in let here = and_parts _ _ parts.0 in ((fails _ here.0, fails _ here.1), plain_from bs parts.1)

plain_parameter : (a b : ℕ) → a < 256 → b < 256 → list_all is_plain (parameter_of a b) ≡ true
plain_parameter a b small small' =
    list_all-append is_plain (codes "interleaved=") (asked a b)
    ∙ all_of _ _ refl (list_all-append is_plain (decimal a) (45 ∷ decimal b) ∙ all_of _ _ (plain_digits (decimal a) (numeral a small).numeral.1) (plain_digits_behind b small'))
  where
    plain_digits_behind : (b : ℕ) → b < 256 → list_all is_plain (45 ∷ decimal b) ≡ true
    plain_digits_behind b small' = plain_digits (decimal b) (numeral b small').numeral.1

trimmed_parameter : (a b : ℕ) → a < 256 → b < 256 → trimmed (parameter_of a b) ≡ parameter_of a b
trimmed_parameter a b small small' = plain_trimmed (parameter_of a b) (plain_from (parameter_of a b) (plain_parameter a b small small'))

-- the parts of the text, with and without a mode
abbrev transport : List ℕ
transport = codes "RTP/AVP/TCP"

abbrev unicast : List ℕ
unicast = codes "unicast"

abbrev recording_mode : List ℕ
recording_mode = codes "mode=\"RECORD\""

abbrev parts_of : Bool → ℕ → ℕ → List (List ℕ)
parts_of false a b = transport ∷ unicast ∷ parameter_of a b ∷ []
parts_of true a b = transport ∷ unicast ∷ parameter_of a b ∷ recording_mode ∷ []

abbrev head_text : List ℕ
head_text = codes "RTP/AVP/TCP;unicast;interleaved="

written : (chosen : Chosen) → transport_text chosen ≡ head_text ++ (asked chosen.rtp chosen.rtcp ++ mode_text chosen.recording)
unfolding transport_text
written chosen = ap (λ t. head_text ++ (t ++ mode_text chosen.recording)) (append_assoc (decimal chosen.rtp) (45 ∷ []) (decimal chosen.rtcp))

joined_parts : (recording : Bool) (a b : ℕ) → head_text ++ (asked a b ++ mode_text recording) ≡ join_with_byte 59 (parts_of recording a b)
joined_parts false a b = ap (λ t. head_text ++ t) (append-nil (asked a b))
joined_parts true a b = refl

are_parts : (recording : Bool) (a b : ℕ) → a < 256 → b < 256 → Parts 59 false (parts_of recording a b)
are_parts recording a b small small' = go recording (calm_both 59 (codes "interleaved=") (asked a b) (refl, refl) (calm_asked 59 not_semicolon (refl, refl) a b small small'))
  where
    go : (recording : Bool) → Calm 59 (parameter_of a b) → Parts 59 false (parts_of recording a b)
    go false calm = (passed 59 false transport refl, refl, (passed 59 false unicast refl, refl, passed 59 false (parameter_of a b) calm.0))
    go true calm = (passed 59 false transport refl, refl, (passed 59 false unicast refl, refl, (passed 59 false (parameter_of a b) calm.0, calm.1, passed 59 false recording_mode refl)))

trimmed_parts : (recording : Bool) (a b : ℕ) → a < 256 → b < 256 → map trimmed (parts_of recording a b) ≡ parts_of recording a b
trimmed_parts false a b small small' = ap (λ t. transport ∷ unicast ∷ t ∷ []) (trimmed_parameter a b small small')
trimmed_parts true a b small small' = ap (λ t. transport ∷ unicast ∷ t ∷ recording_mode ∷ []) (trimmed_parameter a b small small')

mode_calm : (recording : Bool) → Calm 44 (mode_text recording)
mode_calm false = (refl, refl)
mode_calm true = (refl, refl)

whole_text : (recording : Bool) (a b : ℕ) → a < 256 → b < 256 → parts 44 (head_text ++ (asked a b ++ mode_text recording)) ≡ (head_text ++ (asked a b ++ mode_text recording)) ∷ []
whole_text recording a b small small' =
    let calm : Calm 44 (head_text ++ (asked a b ++ mode_text recording)) = calm_both 44 head_text (asked a b ++ mode_text recording) (refl, refl) (calm_both 44 (asked a b) (mode_text recording) (calm_asked 44 not_comma (refl, refl) a b small small') (mode_calm recording)) in
    last_part 44 false (head_text ++ (asked a b ++ mode_text recording)) (passed 44 false (head_text ++ (asked a b ++ mode_text recording)) calm.0)

-- the spec of those parts
abbrev over_tcp : Option ChannelPair → Mode → Spec
over_tcp channels mode = record { protocol = Tcp; multicast = false; interleaved = channels; mode = mode }

mode_recorded : mode_of (codes "\"RECORD\"") ≡ Record
unfolding mode_of
mode_recorded = refl

channels_read : (a b : ℕ) → a < 256 → b < 256 → channels_of (asked a b) ≡ Some (record { first = a; second = b })
channels_read a b small small' = reads (asked a b) (record { first = a; second = b }) (inr (decimal a, decimal b, refl, numeral a small, numeral b small'))

spec_of_them : (recording : Bool) (a b : ℕ) → a < 256 → b < 256 → spec_of_parts (parts_of recording a b) ≡ answered (record { rtp = a; rtcp = b; recording = recording })
spec_of_them false a b small small' = ap (λ channels. over_tcp channels Play) (channels_read a b small small')
spec_of_them true a b small small' = ap (λ channels. over_tcp channels (mode_of (codes "\"RECORD\""))) (channels_read a b small small') ∙ ap (over_tcp (Some (record { first = a; second = b }))) mode_recorded

spec_read : (recording : Bool) (a b : ℕ) → a < 256 → b < 256 → spec_of (head_text ++ (asked a b ++ mode_text recording)) ≡ answered (record { rtp = a; rtcp = b; recording = recording })
unfolding spec_of
spec_read recording a b small small' =
    ap (λ text. spec_of_parts (map trimmed (parts 59 text))) (joined_parts recording a b)
    ∙ ap (λ ps. spec_of_parts (map trimmed ps)) (only_parts 59 (parts_of recording a b) (are_parts recording a b small small'))
    ∙ ap spec_of_parts (trimmed_parts recording a b small small')
    ∙ spec_of_them recording a b small small'

pub round_trip : (chosen : Chosen) → chosen.rtp < 256 → chosen.rtcp < 256 → specs_of (transport_text chosen) ≡ answered chosen ∷ []
unfolding specs_of
round_trip chosen small small' =
    ap (λ text. map spec_of (parts 44 text)) (written chosen)
    ∙ ap (λ texts. map spec_of texts) (whole_text chosen.recording chosen.rtp chosen.rtcp small small')
    ∙ ap (λ spec. spec ∷ []) (spec_read chosen.recording chosen.rtp chosen.rtcp small small')
