-- What the parts of a reply say.
use Rattle.std.specs.Prelude.{◌≡◌, ℕ, Bool, false, List, Option, Some, None, codes}
use Rattle.std.specs.Option.{option_copied}
use Rattle.rtsp_client.specs.PublicFields.{names_method}
use Rattle.rtsp_client.specs.ReplyChannels.{channels_of}
use Rattle.rtsp_client.specs.Sessions.{IsOpenedBy}
use Rattle.rtsp_client.specs.declared.reply_facts.ReplyFacts.{ReplyFacts}
use Rattle.rtsp_client.specs.declared.reply_facts.ReplyHeaders.{ReplyHeaders}

-- a Public header names GET_PARAMETER (RFC 2326, 12.28)
abbrev pub names_get_parameter : (public : Option (List ℕ)) → Bool
names_get_parameter (Some methods) = names_method (codes "GET_PARAMETER") methods
names_get_parameter None = false

pub record AreFactsOf (headers : ReplyHeaders) (facts : ReplyFacts) : Type 0 where
  pub number : facts.number ≡ headers.cseq
  pub status : facts.status ≡ headers.status
  pub channels : facts.channels ≡ channels_of (option_copied headers.transport)
  pub session : IsOpenedBy (option_copied headers.session) facts.session
  pub has_get_parameter : facts.has_get_parameter ≡ names_get_parameter (option_copied headers.public)
