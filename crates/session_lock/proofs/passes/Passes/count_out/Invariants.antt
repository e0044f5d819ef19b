use Rattle.std.proofs.Common.{◌≡◌, is_none, take, count_by}
use Rattle.session_lock.proofs.passes.Passes.count_out.Given as goal

abbrev pub invariant-loop-place : goal.invariant-loop-place
invariant-loop-place g l = l.count ≡ count_by is_none (take l.place-index l.places)
