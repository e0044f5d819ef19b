use Rattle.std.proofs.Common.{◌++◌, ℕ, List, true, length, take, drop, sym, ap, subst, ◌∙◌, arith, length-drop}
use Rattle.std.proofs.lemmas.List.{length-take-le}
use Rattle.outgoing.specs.Queues.{Puts}
use Rattle.outgoing.proofs.Texts.{frame_head_fits, frame_in_place}
use Rattle.outgoing.proofs.outgoing.Outgoing.put_in_place.Goals as goal

pub adopt-requires-clause-len : goal.adopt-requires-clause-len
adopt-requires-clause-len c = omega (arith, ap length c.frame_head-head.ensures, frame_head_fits (drop c.args.at c.args.self.now.free) c.args.len c.requires)

pub put_from-requires-clause-len : goal.put_from-requires-clause-len
put_from-requires-clause-len c = omega (arith, ap length c.frame_head-head.ensures, frame_head_fits (drop c.args.at c.args.self.now.free) c.args.len c.requires)

pub returns-in_ok-adopt-clause-ok : goal.returns-in_ok-adopt-clause-ok
returns-in_ok-adopt-clause-ok c =
    let free = c.args.self.now.free in
    let head : List ℕ = c.frame_head-head.result in
    let text = ap (λ (n : ℕ). head ++ drop (length head) (take c.args.len (drop n free))) (sym c.if-at-eq0.true)
    ∙ frame_in_place (drop c.args.at free) head c.args.len c.args.channel c.in-Ok.size c.requires c.frame_head-head.ensures c.in-Ok.ensures.1 in
    subst (λ (l : List ℕ). Puts (record { text = l; is_frame = true }) c.args.self.now c.adopt.new.self) text c.in_ok-adopt.ensures.ok

pub returns-in_ok-adopt-clause-sendable : goal.returns-in_ok-adopt-clause-sendable
returns-in_ok-adopt-clause-sendable c =
    let front = take c.args.len (drop c.args.at c.args.self.now.free) in
    omega (arith, length-drop 4 front, length-take-le c.args.len (drop c.args.at c.args.self.now.free) c.requires.0, c.in-Ok.ensures.0)
