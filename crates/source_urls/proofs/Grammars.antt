-- The parts of a source that is accepted, and that there are no others.
use Rattle.std.proofs.Common.{◌≡◌, ℕ, false, List, [], ◌∷◌, ◌++◌, Option, None, Some, Ok, refl, subst}
use Rattle.base_syntax.specs.Cuts.{HasNone}
use Rattle.source_urls.specs.Grammar.{IsUser, IsWritten, user_text, written}
use Rattle.source_urls.specs.Parts.{address, can_have_password, has_password, has_password_in, location, rest, user}
use Rattle.source_urls.specs.Source.{accepted_port, request_uri}
use Rattle.source_urls.proofs.Cutting.{none_back, none_from_any, none_front}
use Rattle.source_urls.proofs.Sources.{accepted, location_splits, resource_bare, resource_ends, whole}
use Rattle.source_urls.proofs.Users.{HasNoAt}

-- a text that is accepted has its parts

in_user : (b : ℕ) (name address : List ℕ) → HasNone b ((name ++ 64 ∷ []) ++ address) → HasNone b name
in_user b name address h = none_front b name (64 ∷ []) (none_front b (name ++ 64 ∷ []) address h)

named : (location : List ℕ) (user : Option (List ℕ)) (address : List ℕ) → location ≡ user_text user ++ address
    → HasNone 35 location → HasNone 47 location → HasNone 63 location → HasNoAt user → has_password_in user ≡ false → IsUser user
named location None address e sign slash question at bare = tt
named location (Some name) address e sign slash question at bare = (
  in_user 35 name address (subst (HasNone 35) e sign),
  in_user 47 name address (subst (HasNone 47) e slash),
  none_from_any 58 name bare,
  in_user 63 name address (subst (HasNone 63) e question),
  at,
)

user_named : (text : List ℕ) → has_password text ≡ false → IsUser (user text)
unfolding has_password
user_named text bare =
    let e = resource_ends text in
    let s = location_splits text in
    named (location text) (user text) (address text) s.whole
    (none_front 35 (location text) (rest text) (subst (HasNone 35) e.whole (resource_bare text))) e.no_slash e.no_question s.no_at bare

pub parts : (text : List ℕ) (number : ℕ) → accepted_port text ≡ Ok number → IsWritten text (written text) number
unfolding written can_have_password
parts text number h =
    let a = accepted text number h in
    let e = resource_ends text in
    record {
      whole = whole text;
      short = a.short;
      visible = a.visible;
      scheme = a.scheme;
      user = user_named text a.bare;
      host = a.host;
      port = a.port;
      begins = e.begins;
      clear = a.clear;
      bare = none_back 35 (location text) (rest text) (subst (HasNone 35) e.whole (resource_bare text));
    }

pub uri : (text : List ℕ) → request_uri text ≡ (written text).scheme ++ (written text).host ++ (written text).port ++ (written text).rest
unfolding request_uri written
uri text = refl
