use Rattle.std.proofs.Common.{◌≡◌, ◌+◌, ◌++◌, ◌∷◌, [], List, length, sym, ap, ◌∙◌, length-append}
use Rattle.outgoing.specs.declared.marks.Mark.{Mark}
use Rattle.outgoing.proofs.Keeping.{put_is}
use Rattle.outgoing.proofs.outgoing.Outgoing.put.Goals as goal

pub returns-clause-ok : goal.returns-clause-ok
returns-clause-ok c =
    let head = c.args.head.now in
    let tail = c.args.tail.now in
    let mark : Mark = record { len = length head + length tail; is_frame = c.args.is_frame } in
    let marks : c.push_back_reserved.new.self.items ≡ c.self.inside.marks.items ++ mark ∷ [] =
    c.push_back_reserved.ensures.items ∙ ap (λ (l : List Mark). l ++ mark ∷ []) c.reserve.ensures.items in
    put_is _ (head ++ tail) _ _ _ _ _ mark _ _ _ _ _ c.self.invariant c.self.view_is (sym (length-append head tail)) c.in_ok-append.ensures.bytes
    marks c.in_ok-append.ensures.room
