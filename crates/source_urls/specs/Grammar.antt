-- Sources as they are written: "rtsp://" [user "@"] host [":" [digits]] [path] ["?" query] ["#" fragment]
-- (RFC 2326, 3.2: rtsp_URL; RFC 1808, 2.1: the user, the query and the fragment).
use Rattle.std.specs.Prelude.{◌≡◌, ◌<◌, ◌⊎◌, ⊤, ℕ, true, false, List, [], ◌∷◌, ◌++◌, Option, None, Some, length, codes}
use Rattle.std.specs.Option.{option_map}
use Rattle.base_syntax.specs.Cuts.{HasNone}
use Rattle.base_syntax.specs.Names.{same_name}
use Rattle.percent_encoding.specs.Percent.{percent_decode}
use Rattle.source_urls.specs.declared.source.Source.{Source}
use Rattle.source_urls.specs.declared.target.Target.{Target}
use Rattle.source_urls.specs.Host.{bare_host, is_host}
use Rattle.source_urls.specs.Parts as parts
use Rattle.source_urls.specs.Port.{port_number}
use Rattle.source_urls.specs.UriText.{has_uri_bytes, is_long, is_slash_last}

-- The parts of a source, each as it is written: the host with its brackets, the port with its colon, the path and the query together.
pub record Written : Type 0 where
  pub scheme : List ℕ
  pub user : Option (List ℕ)
  pub host : List ℕ
  pub port : List ℕ
  pub rest : List ℕ
  pub fragment : Option (List ℕ)

-- a user and its `@`
abbrev pub user_text : Option (List ℕ) → List ℕ
user_text None = []
user_text (Some user) = user ++ 64 ∷ []

-- a number sign and its fragment
abbrev pub fragment_text : Option (List ℕ) → List ℕ
fragment_text None = []
fragment_text (Some fragment) = 35 ∷ fragment

-- a user's name without `#`, `/`, `:`, `?` and `@`
abbrev pub IsName : List ℕ → Type 0
IsName user = HasNone 35 user × HasNone 47 user × HasNone 58 user × HasNone 63 user × HasNone 64 user

abbrev pub IsUser : Option (List ℕ) → Type 0
IsUser None = ⊤
IsUser (Some user) = IsName user

-- nothing, or what begins with a slash or a question mark
abbrev pub BeginsRest : List ℕ → Type 0
BeginsRest [] = ⊤
BeginsRest (b ∷ bs) = (b ≡ 47) ⊎ (b ≡ 63)

-- The text is these parts in their order, each of its form, and its port is this number.
pub record IsWritten (text : List ℕ) (written : Written) (number : ℕ) : Type 0 where
  pub whole : text ≡ written.scheme ++ user_text written.user ++ written.host ++ written.port ++ written.rest ++ fragment_text written.fragment
  pub short : is_long text ≡ false
  pub visible : has_uri_bytes text ≡ true
  pub scheme : same_name written.scheme (codes "rtsp://") ≡ true
  pub user : IsUser written.user
  pub host : is_host written.host ≡ true
  pub port : port_number written.port ≡ Some number
  pub begins : BeginsRest written.rest
  pub bare : HasNone 35 written.rest
  pub clear : parts.is_unclear written.user written.port written.rest written.fragment ≡ false

-- The text has the parts of a source, and they say this: the user's name is decoded (RFC 3986, 2.1), the host has no brackets, and the URI
-- of requests has all parts but the user and the fragment.
pub record IsSource (text : List ℕ) (source : Source) : Type 0 where
  pub parts : Written
  pub is : IsWritten text parts source.port
  pub user : source.user ≡ option_map percent_decode parts.user
  pub host : source.host ≡ bare_host parts.host
  pub uri : source.uri ≡ parts.scheme ++ parts.host ++ parts.port ++ parts.rest

-- Parts that a target has: no user, no fragment, no query, and a path with a byte or more behind its slash, and no other slash at its end.
pub record HasPathAlone (parts : Written) : Type 0 where
  pub no_user : parts.user ≡ None
  pub no_fragment : parts.fragment ≡ None
  pub no_query : HasNone 63 parts.rest
  pub path : 1 < length parts.rest
  pub open_end : is_slash_last parts.rest ≡ false

-- The text has the parts of a target, and they say this. The URI of requests is the text itself.
pub record IsTarget (text : List ℕ) (target : Target) : Type 0 where
  pub parts : Written
  pub is : IsWritten text parts target.port
  pub alone : HasPathAlone parts
  pub host : target.host ≡ bare_host parts.host
  pub uri : target.uri ≡ text

-- a URL with a user, a colon, a password of any bytes and an `@`
abbrev pub with_password : (scheme user password behind : List ℕ) → List ℕ
with_password scheme user password behind = scheme ++ (user ++ 58 ∷ (password ++ 64 ∷ behind))

-- the parts that a source is read as
unfoldable pub written : List ℕ → Written
written text = record {
  scheme = parts.scheme_part text;
  user = parts.user text;
  host = parts.host text;
  port = parts.port text;
  rest = parts.rest text;
  fragment = parts.fragment text;
}
