use Rattle.source_urls.proofs.Joining.{apart, behind}
use Rattle.source_urls.proofs.Schemes.{other_scheme}
use Rattle.source_urls.proofs.laws.controls.Goals as goal

pub returns : goal.returns
returns c = record { behind = behind; apart = apart; other_scheme = other_scheme }
