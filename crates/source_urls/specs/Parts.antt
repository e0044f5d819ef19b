-- The parts of a URL as it is written: "rtsp://" [user [":" password] "@"] host [":" port] path ["?" query] ["#" fragment]
-- (RFC 2326, 3.2: rtsp_URL; RFC 1808, 2.1: the user and the fragment; 2.4: in which order the parts are found).
use Rattle.std.specs.Prelude.{ℕ, ◌+◌, ◌==◌, ◌&&◌, ◌||◌, Bool, false, not, nat_lt, is_some, if◌then◌else◌, List, Option, None, Some, length, take, drop, slice_index, unwrap_or}
use Rattle.std.specs.List.{before_first, list_any}
use Rattle.base_syntax.specs.Cuts.{behind_first}
use Rattle.base_syntax.specs.Names.{same_name}

-- the text begins with this scheme, without regard to case
abbrev pub has_scheme : (scheme text : List ℕ) → Bool
has_scheme scheme text = same_name (take (length scheme) text) scheme

-- `rtsp://`, as it is written
abbrev pub scheme_part : List ℕ → List ℕ
scheme_part text = take 7 text

-- the text behind `rtsp://`, up to the number sign that begins the fragment (RFC 1808, 2.4.1)
unfoldable pub resource : List ℕ → List ℕ
resource text = before_first (λ b. b == 35) (drop 7 text)

-- what is behind the number sign
unfoldable pub fragment : List ℕ → Option (List ℕ)
fragment text = behind_first 35 (drop 7 text)

-- the network location: what is before the first slash and the first question mark (RFC 1808, 2.4.3)
abbrev pub location_in : (resource : List ℕ) → List ℕ
location_in resource = before_first (λ b. b == 63) (before_first (λ b. b == 47) resource)

unfoldable pub location : List ℕ → List ℕ
location text = location_in (resource text)

-- the path and the query
unfoldable pub rest : List ℕ → List ℕ
rest text = drop (length (location text)) (resource text)

-- the user, with a password if there is one: what is before the first `@` of the location
abbrev pub user_in : (location : List ℕ) → Option (List ℕ)
user_in location = if list_any (λ b. b == 64) location then Some (before_first (λ b. b == 64) location) else None

unfoldable pub user : List ℕ → Option (List ℕ)
user text = user_in (location text)

-- a password follows the user's name and a colon
abbrev pub has_password_in : (user : Option (List ℕ)) → Bool
has_password_in None = false
has_password_in (Some user) = list_any (λ b. b == 58) user

unfoldable pub has_password : List ℕ → Bool
has_password text = has_password_in (user text)

-- the host and the port: what is behind that `@`, or the whole location
abbrev pub address_in : (location : List ℕ) → List ℕ
address_in location = unwrap_or (behind_first 64 location) location

unfoldable pub address : List ℕ → List ℕ
address text = address_in (location text)

-- the text begins with a bracket, as an IPv6 address does (RFC 2732, 2)
abbrev pub has_bracket : List ℕ → Bool
has_bracket text = slice_index text 0 == 91

-- the host of an address, with brackets if it has them: up to the closing bracket, or before the colon of the port
abbrev pub host_in : (address : List ℕ) → List ℕ
host_in address =
    if has_bracket address then take (length (before_first (λ b. b == 93) address) + 1) address
    else before_first (λ b. b == 58) address

unfoldable pub host : List ℕ → List ℕ
host text = host_in (address text)

-- the port with its colon, or nothing
unfoldable pub port : List ℕ → List ℕ
port text = drop (length (host text)) (address text)

abbrev pub has_at : List ℕ → Bool
has_at text = list_any (λ b. b == 64) text

abbrev pub fragment_has_at : (fragment : Option (List ℕ)) → Bool
fragment_has_at None = false
fragment_has_at (Some fragment) = has_at fragment

-- Parts that may be meant as others: there is no user, a colon is behind the host, and an `@` is in the path, the query or the fragment. So
-- `admin:12/34@host/x` has a host `admin`, a port 12 and a path `/34@host/x` (RFC 1808, 2.4), and may be meant as a user `admin` with a
-- password `12/34`, whose slash has to be percent-encoded (RFC 3986, 3.2.1). What is behind the colon doesn't tell them apart, since a
-- password can begin as a port does.
abbrev pub is_unclear : (user : Option (List ℕ)) (port rest : List ℕ) (fragment : Option (List ℕ)) → Bool
is_unclear user port rest fragment = (not (is_some user) && nat_lt 0 (length port)) && (has_at rest || fragment_has_at fragment)

unfoldable pub can_have_password : List ℕ → Bool
can_have_password text = is_unclear (user text) (port text) (rest text) (fragment text)
