use Rattle.std.proofs.Common.{sym, ap, ◌∙◌}
use Rattle.outgoing.specs.Queues.{Queue, frame_count}
use Rattle.outgoing.proofs.Keeping.{frame_count-items_of}
use Rattle.outgoing.proofs.outgoing.Outgoing.frames.Goals as goal

pub returns : goal.returns
returns c =
    c.self.invariant.frames_are ∙ sym (frame_count-items_of c.self.inside.buffer.bytes c.self.inside.marks.items)
    ∙ ap (λ (q : Queue). frame_count q.items) c.self.view_is
