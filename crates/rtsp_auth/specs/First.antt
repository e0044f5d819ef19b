-- The first challenge of Digest that can be answered, apart from how it is found.
use Rattle.std.specs.Prelude.{◌≡◌, List, [], ◌∷◌, ◌++◌, None, Some}
use Rattle.rtsp_auth.specs.declared.challenge.DigestChallenge.{DigestChallenge}
use Rattle.rtsp_auth.specs.declared.item.Item.{Item}
use Rattle.rtsp_auth.specs.Choices.{digest_at}

-- no challenge that can be answered starts at one of these items, which the others follow
abbrev pub NoDigest : (some others : List Item) → Type 0
NoDigest [] others = Unit {0}
NoDigest (item ∷ some) others = (digest_at item (some ++ others) ≡ None) × NoDigest some others

-- The challenge starts at one of the items, and none that can be answered starts before it.
pub record IsFirstDigest (all : List Item) (challenge : DigestChallenge) : Type 0 where
  pub before : List Item
  pub item : Item
  pub after : List Item
  pub whole : all ≡ before ++ item ∷ after
  pub is : digest_at item after ≡ Some challenge
  pub none_before : NoDigest before (item ∷ after)
