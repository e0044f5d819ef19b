use Rattle.std.specs.Vec.Iter.{into_iter_items}
use Rattle.cursor.proofs.ListTaps.{IsCounted-below}
use Rattle.cursor.proofs.list_tap.ListTapTap.cursor.Goals as goal

pub cursor-requires : goal.cursor-requires
cursor-requires c = IsCounted-below c.self.inside.packet_bytes _ (into_iter_items c.self.inside.rest) c.self.invariant.1
