-- What an answer repeats of a challenge.
use Rattle.std.specs.Prelude.{IfSome}
use Rattle.rtsp_auth.specs.declared.challenge.DigestChallenge.{DigestChallenge}
use Rattle.rtsp_auth.specs.Written.{HasNoControl}

-- It has no control character, so no line ends in it (RFC 2326, 4).
pub record IsClean (challenge : DigestChallenge) : Type 0 where
  pub realm : HasNoControl challenge.realm
  pub nonce : HasNoControl challenge.nonce
  pub opaque : IfSome challenge.opaque HasNoControl
