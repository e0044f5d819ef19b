use Rattle.std.proofs.Common.{◌≡◌, take}
use Rattle.mounts.proofs.mount.copy_mounts.Given as goal

-- the mounts so far are copied
abbrev pub invariant-loop-mount : goal.invariant-loop-mount
invariant-loop-mount l = l.copied.items ≡ take l.mount-index l.mounts
