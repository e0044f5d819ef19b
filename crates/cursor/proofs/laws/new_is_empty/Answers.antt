use Rattle.std.proofs.Common.{[], false, ap, ℕ, List, Option}
use Rattle.cursor.specs.Log.{Log}
use Rattle.cursor.proofs.Runs.{map-replicate}
use Rattle.cursor.proofs.laws.new_is_empty.Goals as goal

pub returns : goal.returns
returns c = λ keep seats packet_bytes. ap (λ (cs : List (Option ℕ)). let log : Log = record { packets = []; closed = false; cursors = cs } in log) (map-replicate seats)
