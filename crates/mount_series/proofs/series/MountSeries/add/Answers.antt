use Rattle.std.proofs.Common.{rules}
use Rattle.mount_series.proofs.Naming.{replaced}
use Rattle.mount_series.proofs.series.MountSeries.add.Goals as goal

pub invariant_of-self-2 : goal.invariant_of-self-2
invariant_of-self-2 c =
    (search rules, search rules, replaced c.self.inside.named.items c.in_ok-place.place c.begun-begun.result (search rules) (search rules) (search rules))
