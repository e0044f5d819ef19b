use Rattle.std.proofs.Common.{◌≡◌, ◌+◌, ◌-◌, ◌++◌, ℕ, List, true, length, take, drop, ap, subst, ◌∙◌, OnOk}
use Rattle.outgoing.specs.Queues.{Puts, Queue}
use Rattle.outgoing.proofs.Blocks.{slice-behind}
use Rattle.outgoing.proofs.outgoing.Outgoing.put_from.Goals as goal

pub returns-clause-ok : goal.returns-clause-ok
returns-clause-ok c =
    let head : List ℕ = c.args.head.now in
    let at = c.args.at + length head in
    let free_is = c.free.ensures ∙ ap (λ (q : Queue). q.free) c.self.view_is in
    let tail_is : c.as_slice.result.now ≡ drop (length head) (take c.args.len (drop c.args.at c.args.self.now.free)) =
    c.as_slice.ensures.value ∙ c.in_ok-tail.ensures.items ∙ ap (λ (l : List ℕ). take (c.args.at + c.args.len - at) (drop at l)) free_is
    ∙ slice-behind c.args.self.now.free c.args.at (length head) c.args.len c.requires.len in
    subst (λ (l : List ℕ). OnOk c.put.result (Puts (record { text = head ++ l; is_frame = true }) c.args.self.now c.put.new.self)) tail_is c.put.ensures.ok
