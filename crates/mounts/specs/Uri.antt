-- Request URIs (RFC 2326, 6.1: Request-URI = "*" | absolute_URI; 3.2: rtsp_URL = "rtsp:" "//" host [":" port] [abs_path]),
-- over the definition of a URL that the crate `url` has.
use Rattle.std.specs.Prelude.{◌≡◌, ◌≢◌, ℕ, ◌-◌, ◌==◌, ◌||◌, Bool, if◌then◌else◌, List, [], ◌∷◌, ◌++◌, ◌⊎◌, length, take, drop, slice_index, codes, None, Ok}
use Rattle.std.specs.List.{before_first}
use Rattle.std.specs.Str.{IsUtf8}
use Rattle.url.specs.Parser.{parse_url}
use Rattle.url.specs.Parts.{Parts}
use Rattle.mounts.specs.declared.target.Target.{Target}
use Rattle.mounts.specs.declared.uri.Uri.{Uri}
use Rattle.mounts.specs.declared.uri.Uri.TheVariants.{Star, At}
use Rattle.mounts.specs.declared.fault.UriFault.{UriFault}
use Rattle.mounts.specs.declared.fault.UriFault.TheVariants.{BadUri, OutOfMemory}

abbrev pub slash : ℕ
slash = 47

abbrev pub ends_in_slash : List ℕ → Bool
ends_in_slash text = slice_index text (length text - 1) == slash

-- a path that is empty or begins with a slash
abbrev pub IsRooted : List ℕ → Type 0
IsRooted path = (path ≡ []) ⊎ (slice_index path 0 ≡ slash)

-- The text is a URL of scheme `rtsp`, and its path is empty or begins with a slash. The host isn't looked at.
pub record IsRtspUrl (text : List ℕ) (url : Parts) : Type 0 where
  pub utf8 : IsUtf8 text
  pub parsed : parse_url None text ≡ Ok url
  pub scheme : url.scheme ≡ codes "rtsp"
  pub rooted : IsRooted url.path

-- the text without one slash at its end
abbrev pub without_end_slash : List ℕ → List ℕ
without_end_slash text = if ends_in_slash text then take (length text - 1) text else text

-- what the path of a URL names: the path without its first slash and without one slash at its end
abbrev pub path_of : Parts → List ℕ
path_of url = without_end_slash (drop 1 url.path)

-- a question mark begins the query, and a number sign the fragment
abbrev pub ends_resource : ℕ → Bool
ends_resource b = b == 63 || b == 35

-- the text without its query and fragment
abbrev pub resource_text : List ℕ → List ℕ
resource_text text = before_first ends_resource text

-- the base of relative URLs (RFC 2326, C.1.1): the text without query and fragment, with a slash at its end
abbrev pub base_text : List ℕ → List ℕ
base_text text = if ends_in_slash (resource_text text) then resource_text text else resource_text text ++ slash ∷ []

-- The text is such a URL, and names this.
pub record IsTarget (text : List ℕ) (target : Target) : Type 0 where
  pub url : Parts
  pub is : IsRtspUrl text url
  pub path : target.path ≡ path_of url
  pub query : target.query ≡ url.query
  pub base : target.base ≡ base_text text

-- Why a text isn't such a URL, or names nothing. Memory may run out at any text that `url` is given, and it is given what
-- is UTF-8.
abbrev pub IsUrlRefusal : List ℕ → UriFault → Type 0
IsUrlRefusal text BadUri = (url : Parts) → IsRtspUrl text url → ⊥
IsUrlRefusal text OutOfMemory = IsUtf8 text

abbrev pub IsTargetRefusal : List ℕ → UriFault → Type 0
IsTargetRefusal text BadUri = (target : Target) → IsTarget text target → ⊥
IsTargetRefusal text OutOfMemory = IsUtf8 text

-- the URI rule
abbrev pub IsUri : List ℕ → Uri → Type 0
IsUri text Star = text ≡ codes "*"
IsUri text (At target) = IsTarget text target

-- why a text is refused; `*` never is, and as out of memory only what could have been a URL
abbrev pub IsRefused : List ℕ → UriFault → Type 0
IsRefused text BadUri = (uri : Uri) → IsUri text uri → ⊥
IsRefused text OutOfMemory = IsUtf8 text × (text ≢ codes "*")

-- the faults by the numbers that the program reports
abbrev pub fault_number : UriFault → ℕ
fault_number BadUri = 1
fault_number OutOfMemory = 2

-- the words that a fault prints
abbrev pub fault_text : UriFault → List ℕ
fault_text BadUri = codes "bad request URI"
fault_text OutOfMemory = codes "out of memory"
