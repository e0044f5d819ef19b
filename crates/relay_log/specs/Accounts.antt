-- Which accounts are logged.
use Rattle.std.specs.Prelude.{◌<◌, ◌⊎◌}
use Rattle.relay_accounts.specs.declared.counts.Counts.{Counts}
use Rattle.relay_accounts.specs.Counting.{losses}

-- an account is logged without `--verbose`: packets were lost or refused, were missing from the publisher's sequence, or waited for
-- players
abbrev pub HasToBeLogged : Counts → Type 0
HasToBeLogged counts = (0 < losses counts) ⊎ (0 < counts.missing) ⊎ (0 < counts.slowed)
