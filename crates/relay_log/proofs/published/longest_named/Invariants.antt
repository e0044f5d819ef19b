use Rattle.std.proofs.Common.{◌≡◌, length, slice_get, take}
use Rattle.std.specs.Prelude.{All, IfNone, IfSome, IsSomeAnd}
use Rattle.relay_log.specs.Names.{IsNamedBy, IsNoLongerName}
use Rattle.relay_log.proofs.published.longest_named.Given as goal

-- the path names the mount that was found, and none before the place has a longer name
abbrev pub invariant-loop-place : goal.invariant-loop-place
invariant-loop-place l = record {
  found : IfSome l.found (λ place. IsSomeAnd (slice_get l.mounts place) (λ mount. IsNamedBy mount.name l.path × (length mount.name ≡ l.longest)));
  none : IfNone l.found (l.longest ≡ 0);
  longest : All (IsNoLongerName l.longest l.path) (take l.place l.mounts);
}
