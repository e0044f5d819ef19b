use Rattle.std.proofs.Common.{◌≡◌, ℕ, ◌+◌, ◌-◌, List, length, take, drop, ap, ◌∙◌, arith}
use Rattle.std.proofs.lemmas.List.{with_items_is}
use Rattle.outgoing.specs.Buffers.{BufferState}
use Rattle.outgoing.proofs.Blocks.{dropped-moved}
use Rattle.outgoing.proofs.buffer.Buffer.drop_front.Goals as goal

pub returns-then-len-self-clause-bytes : goal.returns-then-len-self-clause-bytes
returns-then-len-self-clause-bytes c =
    let inside = c.self.inside in
    let new : List ℕ = c.move_to_front.new.block in
    let same_length : length new ≡ inside.block.len = omega arith in
    let gone : ℕ = inside.first + c.args.count in
    let moved : take (inside.end - gone) new ≡ take (inside.end - gone) (drop gone inside.block.items) =
    c.move_to_front.ensures ∙ ap (λ (l : List ℕ). take (inside.end - gone) (drop gone l)) c.deref_mut.ensures.value in
    ap (take (inside.end - (inside.first + c.args.count))) (with_items_is inside.block new same_length)
    ∙ dropped-moved inside.block.items new c.args.self.now.bytes inside.first inside.end c.args.count c.self.invariant.0 c.self.invariant.1 (ap (λ (s : BufferState). s.bytes) c.self.view_is) (omega arith) moved
