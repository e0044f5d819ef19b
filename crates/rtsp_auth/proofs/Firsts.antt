-- The first challenge of Digest that can be answered.
use Rattle.std.proofs.Common.{◌≡◌, Bool, true, false, List, [], ◌∷◌, ◌++◌, Option, None, Some, refl, ap, sym, ◌∙◌}
use Rattle.std.specs.Option.{option_or}
use Rattle.rtsp_auth.specs.declared.challenge.Challenge.TheVariants as challenges
use Rattle.rtsp_auth.specs.declared.challenge.DigestChallenge.{DigestChallenge}
use Rattle.rtsp_auth.specs.declared.item.Item.{Item}
use Rattle.rtsp_auth.specs.Choices.{chosen, digest_at, digest_or_basic, first_digest, has_basic}
use Rattle.rtsp_auth.specs.First.{IsFirstDigest, NoDigest}

first_is : (all : List Item) (challenge : DigestChallenge) → first_digest all ≡ Some challenge → IsFirstDigest all challenge
first_is [] challenge e = absurd (cc)
first_is (item ∷ others) challenge e = go (digest_at item others) refl (first_is others challenge)
  where
    go : (here : Option DigestChallenge) → digest_at item others ≡ here → (first_digest others ≡ Some challenge → IsFirstDigest others challenge) → IsFirstDigest (item ∷ others) challenge
    go (Some found) f later =
        let same : Some found ≡ Some challenge = sym (ap (λ o. option_or o (first_digest others)) f) ∙ e in
        record { before = []; item = item; after = others; whole = refl; is = f ∙ same; none_before = tt }
    go None f later =
        let h = later (sym (ap (λ o. option_or o (first_digest others)) f) ∙ e) in
        record {
          before = item ∷ h.before;
          item = h.item;
          after = h.after;
          whole = ap (λ (l : List Item). item ∷ l) h.whole;
          is = h.is;
          none_before = (sym (ap (digest_at item) h.whole) ∙ f, h.none_before);
        }

passed : (before others : List Item) → NoDigest before others → first_digest (before ++ others) ≡ first_digest others
passed [] others h = refl
passed (item ∷ before) others h = ap (λ o. option_or o (first_digest (before ++ others))) h.0 ∙ passed before others h.1

is_first : (all : List Item) (challenge : DigestChallenge) → IsFirstDigest all challenge → first_digest all ≡ Some challenge
is_first all challenge h =
    ap first_digest h.whole ∙ passed h.before (h.item ∷ h.after) h.none_before ∙ ap (λ o. option_or o (first_digest h.after)) h.is

found_of : (found : Option DigestChallenge) (is_basic : Bool) (challenge : DigestChallenge) → digest_or_basic found is_basic ≡ Some (challenges.Digest challenge) → found ≡ Some challenge
found_of (Some found) is_basic challenge e = cc
found_of None true challenge e = absurd (cc)
found_of None false challenge e = absurd (cc)

none_of : (found : Option DigestChallenge) (is_basic : Bool) → digest_or_basic found is_basic ≡ Some challenges.Basic → found ≡ None
none_of (Some found) is_basic e = absurd (cc)
none_of None is_basic e = refl

pub chosen_is : (all : List Item) (challenge : DigestChallenge) → chosen all ≡ Some (challenges.Digest challenge) → IsFirstDigest all challenge
chosen_is all challenge e = first_is all challenge (found_of (first_digest all) (has_basic all) challenge e)

pub is_chosen : (all : List Item) (challenge : DigestChallenge) → IsFirstDigest all challenge → chosen all ≡ Some (challenges.Digest challenge)
is_chosen all challenge h = ap (λ found. digest_or_basic found (has_basic all)) (is_first all challenge h)

pub basic_is : (all : List Item) → chosen all ≡ Some challenges.Basic → first_digest all ≡ None
basic_is all e = none_of (first_digest all) (has_basic all) e
