use Rattle.std.proofs.Common.{◌≡◌, ◌+◌, ◌≤◌, length, arith}
use Rattle.outgoing.specs.Marks.{lengths}
use Rattle.outgoing.proofs.Keeping.{taking_fits, took_is}
use Rattle.outgoing.proofs.Texts.{bytes_waiting-taken}
use Rattle.outgoing.proofs.outgoing.Outgoing.took.Goals as goal

pub overflow_add-begun : goal.overflow_add-begun
overflow_add-begun c =
    let inside = c.self.inside in
    let fits : inside.begun + c.args.count ≤ lengths inside.marks.items = taking_fits _ _ _ _ _ _ _ _ c.self.invariant c.self.view_is c.requires in
    let whole : lengths inside.marks.items ≡ length inside.buffer.bytes = c.self.invariant.whole in
    omega (arith, fits, whole)

pub drop_whole-taken-requires : goal.drop_whole-taken-requires
drop_whole-taken-requires c = taking_fits _ _ _ _ _ _ _ _ c.self.invariant c.self.view_is c.requires

pub returns-clause-takes : goal.returns-clause-takes
returns-clause-takes c = took_is _ _ _ _ _ _ _ _ _ _ _ _ _ c.self.invariant c.drop_whole-taken.ensures c.self.view_is c.drop_front.ensures.bytes c.drop_front.ensures.room

pub returns-clause-waiting : goal.returns-clause-waiting
returns-clause-waiting c =
    bytes_waiting-taken _ _ _ _
    (took_is _ _ _ c.drop_front.new.self.free _ _ _ _ _ _ _ _ _ c.self.invariant c.drop_whole-taken.ensures c.self.view_is c.drop_front.ensures.bytes c.drop_front.ensures.room)
