use Rattle.std.proofs.Common.{◌≡◌, ℕ, ◌+◌, ◌++◌, List, length, take, drop, sym, ap, ◌∙◌, arith}
use Rattle.std.proofs.lemmas.List.{with_items_is}
use Rattle.outgoing.specs.Buffers.{BufferState}
use Rattle.outgoing.proofs.Blocks.{behind-extended, stretch-extended}
use Rattle.outgoing.proofs.buffer.Buffer.extend.Goals as goal

pub returns-clause-bytes : goal.returns-clause-bytes
returns-clause-bytes c =
    let inside = c.self.inside in
    let head : List ℕ = c.args.head.now in
    let old : List ℕ = inside.block.items in
    let new : List ℕ = c.put_at-end.new.block in
    let same_length : length new ≡ inside.block.len = omega arith in
    let end = c.put_at-end.ensures.end in
    let value = c.deref_mut.ensures.value in
    let front : take (inside.end + length head) new ≡ take inside.end old ++ head =
    ap (λ (n : ℕ). take n new) (sym end) ∙ c.put_at-end.ensures.front ∙ ap (λ (l : List ℕ). take inside.end l ++ head) value in
    let back : drop (inside.end + length head) new ≡ drop (inside.end + length head) old =
    ap (λ (n : ℕ). drop n new) (sym end) ∙ c.put_at-end.ensures.back ∙ ap (drop c.put_at-end.result) value ∙ ap (λ (n : ℕ). drop n old) end in
    ap (λ (l : List ℕ). drop inside.first (take (inside.end + c.args.len) l)) (with_items_is inside.block new same_length)
    ∙ stretch-extended old new head inside.first inside.end c.args.len c.self.invariant.0 c.self.invariant.1 c.requires.head front back
    ∙ ap (λ (s : BufferState). s.bytes ++ (head ++ drop (length head) (take c.args.len s.free))) c.self.view_is

pub returns-clause-free : goal.returns-clause-free
returns-clause-free c =
    let inside = c.self.inside in
    let head : List ℕ = c.args.head.now in
    let old : List ℕ = inside.block.items in
    let new : List ℕ = c.put_at-end.new.block in
    let same_length : length new ≡ inside.block.len = omega arith in
    let end = c.put_at-end.ensures.end in
    let back : drop (inside.end + length head) new ≡ drop (inside.end + length head) old =
    ap (λ (n : ℕ). drop n new) (sym end) ∙ c.put_at-end.ensures.back ∙ ap (drop c.put_at-end.result) c.deref_mut.ensures.value
    ∙ ap (λ (n : ℕ). drop n old) end in
    ap (drop (inside.end + c.args.len)) (with_items_is inside.block new same_length)
    ∙ behind-extended old new head inside.end c.args.len c.requires.head back ∙ ap (λ (s : BufferState). drop c.args.len s.free) c.self.view_is
