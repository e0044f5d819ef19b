use Rattle.std.proofs.Common.{refl, sym, arith, length-take, drop, ◌++◌}
use Rattle.interleaved.proofs.Pieces.{drop-piece}
use Rattle.interleaved.proofs.list_source.ListSourceSource.read.Goals as goal

-- the bytes that were left begin with the piece that was copied
pub returns-clause-bytes : goal.returns-clause-bytes
returns-clause-bytes c =
    let within = rw (← c.self.view_is) at c.next_count-count.ensures.left in
    rw (← c.self.view_is, c.copy_from_slice.ensures.after, c.deref.ensures.value)
    (sym (drop-piece c.self.inside.bytes.items _ c.self.inside.given c.next_count-count.result within))

pub returns-clause-gave : goal.returns-clause-gave
returns-clause-gave c =
    let count = c.next_count-count.result in
    let within = rw (← c.self.view_is) at c.next_count-count.ensures.left in (
      omega (arith, c.next_count-count.ensures.piece, length-take count c.copy_from_slice.new.self, length-take count (c.copy_from_slice.new.self ++ drop count c.args.buf.now)),
      rw (← c.self.view_is, c.copy_from_slice.ensures.after, c.deref.ensures.value)
          (sym (drop-piece c.self.inside.bytes.items _ c.self.inside.given count within)),
      rw (← c.self.view_is) refl,
      rw (← c.self.view_is) refl,
      rw (← c.self.view_is) refl,
    )
