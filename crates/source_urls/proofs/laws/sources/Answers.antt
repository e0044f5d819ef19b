use Rattle.source_urls.proofs.Grammars.{parts, uri}
use Rattle.source_urls.proofs.OnlyParts.{accepted, only}
use Rattle.source_urls.proofs.Passwords.{refused}
use Rattle.source_urls.proofs.laws.sources.Goals as goal

pub returns : goal.returns
returns c = record { parts = parts; accepted = accepted; only = only; uri = uri; no_password = refused }
