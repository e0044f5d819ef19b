use Rattle.std.proofs.Common.{take, refl}
use Rattle.interleaved.proofs.Gathered.{told_still}
use Rattle.interleaved.proofs.gathering.Gathering.flush.Goals as goal

pub returns-in-Err-clause-told : goal.returns-in-Err-clause-told
returns-in-Err-clause-told g c =
    let front = rw c.deref.ensures.value at c.in-Err.ensures.front in
    let kept = take c.self.inside.count c.self.inside.buffer.items in
    rw (← c.self.view_is) (rw c.drop_front.ensures (told_still _ _ kept _ c.in-Err.field-0.written front refl))
