use Rattle.std.proofs.Common.{◌≡◌, ◌*◌, ◌≤◌, max, ◌++◌, ◌∷◌, [], ℕ, List, true, length, take, drop, ap, subst, ◌∙◌, arith, length-append, length-drop}
use Rattle.std.proofs.lemmas.List.{length-take-le}
use Rattle.outgoing.specs.Kept.{items_of}
use Rattle.outgoing.specs.Queues.{Puts, Queue}
use Rattle.outgoing.specs.declared.marks.Mark.{Mark}
use Rattle.outgoing.proofs.Keeping.{put_is}
use Rattle.outgoing.proofs.outgoing.Outgoing.adopt.Goals as goal

pub returns-clause-ok : goal.returns-clause-ok
returns-clause-ok c =
    let inside = c.self.inside in
    let head : List ℕ = c.args.head.now in
    let mark : Mark = record { len = c.args.len; is_frame = true } in
    let free_is : inside.buffer.free ≡ c.args.self.now.free = ap (λ (q : Queue). q.free) c.self.view_is in
    let front : List ℕ = take c.args.len inside.buffer.free in
    let text : List ℕ = head ++ drop (length head) front in
    let size : length front ≡ c.args.len = length-take-le c.args.len inside.buffer.free (omega (arith, c.requires.within, ap length free_is)) in
    let len : c.args.len ≡ length text = omega (arith, size, c.requires.len, length-drop (length head) front, length-append head (drop (length head) front)) in
    let marks : c.push_back_reserved.new.self.items ≡ inside.marks.items ++ mark ∷ [] =
    c.push_back_reserved.ensures.items ∙ ap (λ (l : List Mark). l ++ mark ∷ []) c.reserve.ensures.items in
    let room : c.extend.new.self.room ≤ max inside.buffer.room (2 * length c.extend.new.self.bytes) = omega (arith, c.extend.ensures.room) in
    let new : Queue = record { items = items_of c.extend.new.self.bytes c.push_back_reserved.new.self.items; begun = inside.begun; room = c.extend.new.self.room; free = c.extend.new.self.free } in
    subst (λ (free : List ℕ). Puts (record { text = head ++ drop (length head) (take c.args.len free); is_frame = true }) c.args.self.now new) free_is
    (put_is _ text _ _ c.extend.new.self.free _ _ mark _ _ _ _ _ c.self.invariant c.self.view_is len c.extend.ensures.bytes marks room)
