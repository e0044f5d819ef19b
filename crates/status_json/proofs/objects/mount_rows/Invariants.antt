use Rattle.std.proofs.Common.{◌≡◌, ◌++◌, not, filter, drop}
use Rattle.status_json.proofs.objects.mount_rows.Given as goal

-- those so far and those left are all
abbrev pub invariant-loop-mount : goal.invariant-loop-mount
invariant-loop-mount l = l.rows.items ++ filter (λ m. not m.has_ended) (drop l.mount-index l.snapshot.mounts.items) ≡ filter (λ m. not m.has_ended) l.snapshot.mounts.items
