use Rattle.std.proofs.Common.{sym, ap, drop, ◌∙◌}
use Rattle.std.proofs.lemmas.List.{take_rest}
use Rattle.outgoing.specs.Queues.{bytes_waiting}
use Rattle.outgoing.proofs.Keeping.{bytes_waiting-kept}
use Rattle.outgoing.proofs.outgoing.Outgoing.waiting.Goals as goal

pub returns : goal.returns
returns c =
    let inside = c.self.inside in
    take_rest c.as_slice.result.now inside.begun ∙ ap (drop inside.begun) c.as_slice.ensures
    ∙ sym (bytes_waiting-kept inside.buffer.bytes inside.buffer.free inside.marks.items inside.begun inside.frames inside.buffer.room c.self.invariant) ∙ ap bytes_waiting c.self.view_is
