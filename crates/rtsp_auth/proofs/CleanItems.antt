-- No parameter of a field that is read has a control character in its value.
use Rattle.std.proofs.Common.{◌≡◌, ◌==◌, ℕ, Bool, true, false, cond, List, [], ◌∷◌, ◌++◌, Option, None, Some, refl, sym, subst, ◌∙◌, ⊎_elim}
use Rattle.std.specs.Prelude.{IfSome, codes}
use Rattle.std.specs.List.{AllByRecursion, flat_map}
use Rattle.std.specs.Option.{option_and_then, option_map}
use Rattle.std.proofs.lemmas.Bool.{cases_Bool, cond-false, cond-true}
use Rattle.base_syntax.specs.Blanks.{trimmed}
use Rattle.base_syntax.specs.Names.{same_name}
use Rattle.rtsp_auth.specs.declared.algorithm.Algorithm.{Algorithm}
use Rattle.rtsp_auth.specs.declared.challenge.Challenge.TheVariants as challenges
use Rattle.rtsp_auth.specs.declared.challenge.DigestChallenge.{DigestChallenge}
use Rattle.rtsp_auth.specs.declared.item.Item.{Item}
use Rattle.rtsp_auth.specs.declared.item.Item.TheVariants as items
use Rattle.rtsp_auth.specs.declared.item.Scheme.TheVariants as schemes
use Rattle.rtsp_auth.specs.Choices.{chosen, digest_at, digest_in, digest_with, is_passed_over}
use Rattle.rtsp_auth.specs.Clean.{IsClean}
use Rattle.rtsp_auth.specs.Items.{field_items, fields_items, item_with, items_behind, items_in, items_of_text, parameter_behind, parameter_item, scheme_item}
use Rattle.rtsp_auth.specs.Parameters.{value_named}
use Rattle.rtsp_auth.specs.Pieces.{pieces}
use Rattle.rtsp_auth.specs.Values.{value_in}
use Rattle.rtsp_auth.specs.Words.{behind_word, word_of}
use Rattle.rtsp_auth.specs.Written.{HasNoControl}
use Rattle.rtsp_auth.proofs.CleanValues.{value_clean}
use Rattle.rtsp_auth.proofs.Firsts.{chosen_is}

abbrev CleanItem : Item → Type 0
CleanItem (items.Scheme scheme) = Unit {0}
CleanItem (items.Parameter parameter) = HasNoControl parameter.value
CleanItem items.Fault = Unit {0}

abbrev AllClean : List Item → Type 0
AllClean all = AllByRecursion CleanItem all

either_item : (test : Bool) (one other : Item) → CleanItem one → CleanItem other → CleanItem (cond test one other)
either_item true one other h k = h
either_item false one other h k = k

either : (test : Bool) (one other : List Item) → AllClean one → AllClean other → AllClean (cond test one other)
either true one other h k = h
either false one other h k = k

-- the items of a field
with_clean : (name : List ℕ) (value : Option (List ℕ)) → ((found : List ℕ) → value ≡ Some found → HasNoControl found) → CleanItem (item_with name value)
with_clean name None h = tt
with_clean name (Some value) h = h value refl

parameter_clean : (name text : List ℕ) → CleanItem (parameter_item name text)
parameter_clean [] text = tt
parameter_clean (byte ∷ bytes) text = with_clean (byte ∷ bytes) (value_in (trimmed text)) (value_clean (trimmed text))

behind_clean : (name behind : List ℕ) → CleanItem (parameter_behind name behind)
behind_clean name [] = tt
behind_clean name (byte ∷ bytes) = either_item (byte == 61) (parameter_item name bytes) items.Fault (parameter_clean name bytes) tt

scheme_clean : (name : List ℕ) → CleanItem (scheme_item name)
scheme_clean [] = tt
scheme_clean (byte ∷ bytes) = tt

word_clean : (word behind : List ℕ) → AllClean (items_behind word behind)
word_clean word [] = (scheme_clean word, tt)
word_clean word (byte ∷ bytes) =
    either (byte == 61) _ _ (parameter_clean word bytes, tt) (scheme_clean word, (behind_clean (word_of (byte ∷ bytes)) (behind_word (byte ∷ bytes)), tt))

text_clean : (text : List ℕ) → AllClean (items_of_text text)
text_clean [] = tt
text_clean (byte ∷ bytes) = word_clean (word_of (byte ∷ bytes)) (behind_word (byte ∷ bytes))

append_clean : (front back : List Item) → AllClean front → AllClean back → AllClean (front ++ back)
append_clean [] back h k = k
append_clean (item ∷ front) back h k = (h.0, append_clean front back h.1 k)

back_clean : (front back : List Item) → AllClean (front ++ back) → AllClean back
back_clean [] back h = h
back_clean (item ∷ front) back h = back_clean front back h.1

flat_clean : (made : List ℕ → List Item) → ((text : List ℕ) → AllClean (made text)) → (texts : List (List ℕ)) → AllClean (flat_map made texts)
flat_clean made h [] = tt
flat_clean made h (text ∷ texts) = append_clean (made text) (flat_map made texts) (h text) (flat_clean made h texts)

field_clean : (field : List ℕ) → AllClean (field_items field)
field_clean field = flat_clean items_in (λ piece. text_clean (trimmed piece)) (pieces field)

-- the challenge
named_clean : (name : List ℕ) (all : List Item) → AllClean all → (value : List ℕ) → value_named name all ≡ Some value → HasNoControl value
named_clean name [] h value e = absurd (cc)
named_clean name (items.Scheme scheme ∷ others) h value e = absurd (cc)
named_clean name (items.Parameter parameter ∷ others) h value e = ⊎_elim
    (λ here. let is : value_named name (items.Parameter parameter ∷ others) ≡ Some parameter.value = cond-true _ _ _ here in
    let found : Some parameter.value ≡ Some value = sym is ∙ e in
    let same : parameter.value ≡ value = cc in
    subst HasNoControl same h.0)
    (λ later. let is : value_named name (items.Parameter parameter ∷ others) ≡ value_named name others = cond-false _ _ _ later in
    named_clean name others h.1 value (sym is ∙ e))
    (cases_Bool (same_name parameter.name name))
named_clean name (items.Fault ∷ others) h value e = named_clean name others h.1 value e

opaque_clean : (opaque : Option (List ℕ)) → ((value : List ℕ) → opaque ≡ Some value → HasNoControl value) → IfSome opaque HasNoControl
opaque_clean None h = tt
opaque_clean (Some value) h = h value refl

made_clean : (realm nonce : Option (List ℕ)) (algorithm : Option Algorithm) (qop : Option Bool) (opaque : Option (List ℕ)) (is_named is_stale : Bool) (challenge : DigestChallenge)
    → ((value : List ℕ) → realm ≡ Some value → HasNoControl value) → ((value : List ℕ) → nonce ≡ Some value → HasNoControl value) → IfSome opaque HasNoControl
    → option_and_then (λ r. option_and_then (λ n. option_and_then (λ a. option_map (λ q. record {
      realm = r;
      nonce = n;
      opaque = opaque;
      algorithm = a;
      is_named = is_named;
      has_qop = q;
      is_stale = is_stale;
    }) qop) algorithm) nonce) realm ≡ Some challenge
    → IsClean challenge
made_clean None drawn algorithm qop opaque is_named is_stale challenge realm_h nonce_h opaque_h e = absurd (cc)
made_clean (Some r) None algorithm qop opaque is_named is_stale challenge realm_h nonce_h opaque_h e = absurd (cc)
made_clean (Some r) (Some n) None qop opaque is_named is_stale challenge realm_h nonce_h opaque_h e = absurd (cc)
made_clean (Some r) (Some n) (Some a) None opaque is_named is_stale challenge realm_h nonce_h opaque_h e = absurd (cc)
made_clean (Some r) (Some n) (Some a) (Some q) opaque is_named is_stale challenge realm_h nonce_h opaque_h e =
    let made : DigestChallenge = record { realm = r; nonce = n; opaque = opaque; algorithm = a; is_named = is_named; has_qop = q; is_stale = is_stale } in
    let clean : IsClean made = record { realm = realm_h r refl; nonce = nonce_h n refl; opaque = opaque_h } in
    let same : made ≡ challenge = cc in
    subst IsClean same clean

digest_clean : (all : List Item) (challenge : DigestChallenge) → AllClean all → digest_in all ≡ Some challenge → IsClean challenge
digest_clean all challenge h e = ⊎_elim
    (λ over. let is : digest_in all ≡ None = cond-true _ _ _ over in
    let nothing : None ≡ Some challenge = sym is ∙ e in
    absurd (cc))
    (λ fit. let is : digest_in all ≡ digest_with all = cond-false _ _ _ fit in
    made_clean _ _ _ _ _ _ _ challenge (named_clean (codes "realm") all h) (named_clean (codes "nonce") all h) (opaque_clean _ (named_clean (codes "opaque") all h)) (sym is ∙ e))
    (cases_Bool (is_passed_over all))

at_clean : (item : Item) (others : List Item) (challenge : DigestChallenge) → AllClean others → digest_at item others ≡ Some challenge → IsClean challenge
at_clean (items.Scheme schemes.Basic) others challenge h e = absurd (cc)
at_clean (items.Scheme schemes.Digest) others challenge h e = digest_clean others challenge h e
at_clean (items.Scheme schemes.Other) others challenge h e = absurd (cc)
at_clean (items.Parameter parameter) others challenge h e = absurd (cc)
at_clean items.Fault others challenge h e = absurd (cc)

pub chosen_clean : (fields : List (List ℕ)) (challenge : DigestChallenge) → chosen (fields_items fields) ≡ Some (challenges.Digest challenge) → IsClean challenge
chosen_clean fields challenge e =
    let first = chosen_is (fields_items fields) challenge e in
    let all : AllClean (first.before ++ first.item ∷ first.after) = subst AllClean first.whole (flat_clean field_items field_clean fields) in
    at_clean first.item first.after challenge (back_clean first.before (first.item ∷ first.after) all).1 first.is
