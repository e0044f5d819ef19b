-- Which challenge is answered: the first of Digest that can be, or else Basic (RFC 7616, 3.7; RFC 7235, 2.1).
use Rattle.std.specs.Prelude.{◌||◌, Bool, false, not, if◌then◌else◌, List, [], ◌∷◌, Option, None, Some, is_some, codes}
use Rattle.std.specs.Option.{option_and_then, option_map, option_or}
use Rattle.rtsp_auth.specs.declared.challenge.Challenge.{Challenge}
use Rattle.rtsp_auth.specs.declared.challenge.Challenge.TheVariants as challenges
use Rattle.rtsp_auth.specs.declared.challenge.DigestChallenge.{DigestChallenge}
use Rattle.rtsp_auth.specs.declared.item.Item.{Item}
use Rattle.rtsp_auth.specs.declared.item.Item.TheVariants as items
use Rattle.rtsp_auth.specs.declared.item.Scheme.TheVariants as schemes
use Rattle.rtsp_auth.specs.Parameters.{algorithm_in, has_fault, is_long, is_stale, qop_in, value_named}

-- a challenge of Digest is passed over if something in it is no parameter, or a text that the answer repeats is too long
abbrev pub is_passed_over : (parameters : List Item) → Bool
is_passed_over parameters =
    has_fault parameters || is_long (codes "realm") parameters || is_long (codes "nonce") parameters || is_long (codes "opaque") parameters

-- what a challenge of Digest says, if it can be answered: it has a realm, a nonce, an algorithm that is known, and no qop or `auth`
abbrev pub digest_with : (parameters : List Item) → Option DigestChallenge
digest_with parameters =
    option_and_then (λ realm.
    option_and_then (λ nonce.
    option_and_then (λ algorithm.
    option_map (λ has_qop. record {
      realm = realm;
      nonce = nonce;
      opaque = value_named (codes "opaque") parameters;
      algorithm = algorithm;
      is_named = is_some (value_named (codes "algorithm") parameters);
      has_qop = has_qop;
      is_stale = is_stale parameters;
    })
    (qop_in parameters))
    (algorithm_in parameters))
    (value_named (codes "nonce") parameters))
    (value_named (codes "realm") parameters)

abbrev pub digest_in : (parameters : List Item) → Option DigestChallenge
digest_in parameters = if is_passed_over parameters then None else digest_with parameters

-- the challenge of Digest that starts at an item
abbrev pub digest_at : Item → (others : List Item) → Option DigestChallenge
digest_at (items.Scheme schemes.Basic) others = None
digest_at (items.Scheme schemes.Digest) others = digest_in others
digest_at (items.Scheme schemes.Other) others = None
digest_at (items.Parameter parameter) others = None
digest_at items.Fault others = None

abbrev pub first_digest : List Item → Option DigestChallenge
first_digest [] = None
first_digest (item ∷ others) = option_or (digest_at item others) (first_digest others)

-- a challenge of Basic starts at an item
abbrev pub basic_at : Item → (others : List Item) → Bool
basic_at (items.Scheme schemes.Basic) others = not (has_fault others)
basic_at (items.Scheme schemes.Digest) others = false
basic_at (items.Scheme schemes.Other) others = false
basic_at (items.Parameter parameter) others = false
basic_at items.Fault others = false

abbrev pub has_basic : List Item → Bool
has_basic [] = false
has_basic (item ∷ others) = basic_at item others || has_basic others

abbrev pub digest_or_basic : Option DigestChallenge → (is_basic : Bool) → Option Challenge
digest_or_basic (Some challenge) is_basic = Some (challenges.Digest challenge)
digest_or_basic None is_basic = if is_basic then Some challenges.Basic else None

abbrev pub chosen : List Item → Option Challenge
chosen all = digest_or_basic (first_digest all) (has_basic all)
