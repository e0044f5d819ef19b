-- Addresses whose lines are counted.
use Rattle.std.proofs.Common.{◌≡◌, ℕ, List, get_or, set}
use Rattle.std.proofs.lemmas.List.{set-get_or}
use Rattle.relay_log.specs.declared.line_rates.Known.{Known}

-- what is written back as it was changes nothing
pub written_back : (known : List Known) (place : ℕ) (d : Known) → set known place (get_or known place d) ≡ known
written_back known place d = set-get_or known place d
