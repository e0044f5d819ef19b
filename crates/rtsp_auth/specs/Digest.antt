-- The response of Digest (RFC 7616, 3.4.1 to 3.4.3; without `qop` RFC 2617, 3.2.2.1).
use Rattle.std.specs.Prelude.{ℕ, Bool, List, ◌++◌, codes, if◌then◌else◌}
use Rattle.md5.specs.Md5.{md5}
use Rattle.sha2.specs.Sha256.{sha256}
use Rattle.hex.specs.Hex.{encode_lower}
use Rattle.std.specs.Int.{w32, to_be_bytes}
use Rattle.rtsp_auth.specs.declared.algorithm.Algorithm.{Algorithm}
use Rattle.rtsp_auth.specs.declared.algorithm.Algorithm.TheVariants as algorithms
use Rattle.rtsp_auth.specs.declared.challenge.DigestChallenge.{DigestChallenge}
use Rattle.rtsp_auth.specs.declared.credentials.Credentials.{Credentials}
use Rattle.rtsp_auth.specs.declared.request.Request.{Request}

-- H(data), in lower-case hexadecimal digits (3.1.3 and 3.4.1)
abbrev pub hash_text : Algorithm → List ℕ → List ℕ
hash_text algorithms.Md5 text = encode_lower (md5 text)
hash_text algorithms.Sha256 text = encode_lower (sha256 text)

-- a text after a colon
abbrev pub colon_and : List ℕ → List ℕ
colon_and text = codes ":" ++ text

-- A1 = unq(username) ":" unq(realm) ":" passwd (3.4.2)
unfoldable pub a1_text : Credentials → (realm : List ℕ) → List ℕ
a1_text credentials realm = credentials.user ++ colon_and realm ++ colon_and credentials.password

-- A2 = Method ":" request-uri (3.4.3)
unfoldable pub a2_text : Request → List ℕ
a2_text request = request.method.now ++ colon_and request.uri.now

-- nc-value: how many requests were sent with the nonce, this one too, in eight hexadecimal digits (3.4)
abbrev pub count_text : ℕ → List ℕ
count_text count = encode_lower (to_be_bytes w32 count)

-- unq(nc-value) ":" unq(cnonce) ":" unq(qop), after a colon, if there is a qop (3.4.1)
unfoldable pub qop_part : (has_qop : Bool) (count : ℕ) (cnonce : List ℕ) → List ℕ
qop_part has_qop count cnonce =
    if has_qop then colon_and (count_text count) ++ colon_and cnonce ++ colon_and (codes "auth") else codes ""

-- what is hashed at last: H(A1) ":" unq(nonce) ":" nc ":" cnonce ":" qop ":" H(A2), or H(A1) ":" unq(nonce) ":" H(A2)
unfoldable pub hashed_text : DigestChallenge → Credentials → Request → (count : ℕ) (cnonce : List ℕ) → List ℕ
hashed_text challenge credentials request count cnonce =
    hash_text challenge.algorithm (a1_text credentials challenge.realm)
    ++ colon_and challenge.nonce
    ++ qop_part challenge.has_qop count cnonce
    ++ colon_and (hash_text challenge.algorithm (a2_text request))

-- the response (3.4.1)
abbrev pub response_of : DigestChallenge → Credentials → Request → (count : ℕ) (cnonce : List ℕ) → List ℕ
response_of challenge credentials request count cnonce =
    hash_text challenge.algorithm (hashed_text challenge credentials request count cnonce)
