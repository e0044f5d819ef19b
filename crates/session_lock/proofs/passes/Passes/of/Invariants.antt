use Rattle.std.proofs.Common.{◌≡◌, ◌≤◌, ◌++◌, map, Some, vec_len, vec_capacity}
use Rattle.std.specs.Vec.Iter.{into_iter_items}
use Rattle.session_lock.proofs.passes.Passes.of.Given as goal

abbrev pub invariant-loop-pass : goal.invariant-loop-pass
invariant-loop-pass g l =
    (l.places.items ≡ map Some l.yielded) × (l.fn.offer.items ≡ l.yielded ++ into_iter_items l.pass-iterator) × (vec_len l.fn.offer ≤ vec_capacity l.places)
