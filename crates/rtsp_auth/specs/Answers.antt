-- The value of an Authorization field (RFC 7616, 3.4; RFC 7617, 2).
use Rattle.std.specs.Prelude.{ℕ, ◌==◌, Bool, if◌then◌else◌, List, [], ◌∷◌, ◌++◌, Option, None, Some, codes}
use Rattle.std.specs.List.{flat_map}
use Rattle.base64.specs.Engines.{standard}
use Rattle.base64.specs.GeneralPurpose.{encode_of}
use Rattle.rtsp_auth.specs.declared.algorithm.Algorithm.{Algorithm}
use Rattle.rtsp_auth.specs.declared.algorithm.Algorithm.TheVariants as algorithms
use Rattle.rtsp_auth.specs.declared.challenge.DigestChallenge.{DigestChallenge}
use Rattle.rtsp_auth.specs.declared.credentials.Credentials.{Credentials}
use Rattle.rtsp_auth.specs.declared.front.Front.{Front}
use Rattle.rtsp_auth.specs.declared.front.Front.TheVariants as fronts
use Rattle.rtsp_auth.specs.declared.request.Request.{Request}
use Rattle.rtsp_auth.specs.Fronts.{front_text}
use Rattle.rtsp_auth.specs.Digest.{colon_and, count_text, response_of}

-- a byte of a quoted string: a double quote and a backslash follow a backslash (RFC 7230, 3.2.6: quoted-pair)
abbrev pub quoted_byte : ℕ → List ℕ
quoted_byte byte =
    if byte == 34 then codes "\\\""
    else if byte == 92 then codes "\\\\"
    else byte ∷ []

-- what is before a value, and the value as a quoted string
unfoldable pub quoted_text : Front → (value : List ℕ) → List ℕ
quoted_text front value = front_text front ++ codes "\"" ++ flat_map quoted_byte value ++ codes "\""

-- the user, and the challenge that is answered (RFC 7616, 3.4)
unfoldable pub user_part : DigestChallenge → Credentials → List ℕ
user_part challenge credentials =
    quoted_text fronts.Username credentials.user
    ++ quoted_text fronts.Realm challenge.realm
    ++ quoted_text fronts.Nonce challenge.nonce

-- what is asked for, and the response
unfoldable pub request_part : DigestChallenge → Credentials → Request → (count : ℕ) (cnonce : List ℕ) → List ℕ
request_part challenge credentials request count cnonce =
    quoted_text fronts.Uri request.uri.now
    ++ quoted_text fronts.Response (response_of challenge credentials request count cnonce)

-- the name of a hash function (RFC 7616, 6.1)
abbrev pub algorithm_name : Algorithm → List ℕ
algorithm_name algorithms.Md5 = codes "MD5"
algorithm_name algorithms.Sha256 = codes "SHA-256"

-- the algorithm, if the challenge names it
unfoldable pub algorithm_part : (is_named : Bool) → Algorithm → List ℕ
algorithm_part is_named algorithm = if is_named then front_text fronts.Algorithm ++ algorithm_name algorithm else codes ""

-- what the challenge wants repeated
abbrev pub opaque_part : Option (List ℕ) → List ℕ
opaque_part None = codes ""
opaque_part (Some opaque) = quoted_text fronts.Opaque opaque

-- the count of the nonce and the client's nonce, if the challenge offers a qop
unfoldable pub count_part : (has_qop : Bool) (count : ℕ) (cnonce : List ℕ) → List ℕ
count_part has_qop count cnonce =
    if has_qop then front_text fronts.Count ++ count_text count ++ quoted_text fronts.Cnonce cnonce else codes ""

-- an answer of Digest (RFC 7616, 3.4)
unfoldable pub digest_text : DigestChallenge → Credentials → Request → (count : ℕ) (cnonce : List ℕ) → List ℕ
digest_text challenge credentials request count cnonce =
    user_part challenge credentials
    ++ request_part challenge credentials request count cnonce
    ++ algorithm_part challenge.is_named challenge.algorithm
    ++ opaque_part challenge.opaque
    ++ count_part challenge.has_qop count cnonce

-- user-id and password, joined by a colon (RFC 7617, 2)
unfoldable pub user_pass : Credentials → List ℕ
user_pass credentials = credentials.user ++ colon_and credentials.password

-- an answer of Basic: user-id and password, joined by a colon, in base64 (RFC 7617, 2)
unfoldable pub basic_text : Credentials → List ℕ
basic_text credentials = codes "Basic " ++ encode_of standard (user_pass credentials)
