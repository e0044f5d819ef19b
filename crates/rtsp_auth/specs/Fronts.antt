-- What is before a value of an Authorization field (RFC 7616, 3.4).
use Rattle.std.specs.Prelude.{ℕ, List, codes}
use Rattle.rtsp_auth.specs.declared.front.Front.{Front}
use Rattle.rtsp_auth.specs.declared.front.Front.TheVariants as fronts

-- the name of a parameter, with the comma before it and the equals sign after it
unfoldable pub front_text : Front → List ℕ
front_text fronts.Username = codes "Digest username="
front_text fronts.Realm = codes ", realm="
front_text fronts.Nonce = codes ", nonce="
front_text fronts.Uri = codes ", uri="
front_text fronts.Response = codes ", response="
front_text fronts.Algorithm = codes ", algorithm="
front_text fronts.Opaque = codes ", opaque="
front_text fronts.Count = codes ", qop=auth, nc="
front_text fronts.Cnonce = codes ", cnonce="
