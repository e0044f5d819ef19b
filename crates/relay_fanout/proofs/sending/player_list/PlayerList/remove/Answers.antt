use Rattle.std.proofs.Common.{◌≡◌, ◌≢◌, ◌∙◌, ◌==◌, ap, arith, rules, filter}
use Rattle.std.proofs.lemmas.Fn.{All-from_retain, filter_same}
use Rattle.std.proofs.lemmas.List.Elements.{All-filter}
use Rattle.relay_fanout.specs.PlayerLists.{CameBefore, is_other}
use Rattle.relay_fanout.proofs.PlayerLists.{CameBefore-later, nobody-has}
use Rattle.relay_fanout.proofs.sending.player_list.PlayerList.remove.Goals as goal

pub invariant_of-self : goal.invariant_of-self
invariant_of-self g c =
    let kept = filter_same _ (is_other c.args.turn) _ (λ x b f' k. search rules) _ _ c.retain.ensures.filtered in
    rw kept (CameBefore-later c.self.inside.changes _ _ (omega arith) (All-filter (is_other c.args.turn) (CameBefore c.self.inside.changes) _ c.self.invariant))

pub invariant_of-self-else-len-before : goal.invariant_of-self-else-len-before
invariant_of-self-else-len-before g c =
    let kept = filter_same _ (is_other c.args.turn) _ (λ x b f' k. search rules) _ _ c.retain.ensures.filtered in
    rw kept (All-filter (is_other c.args.turn) (CameBefore c.self.inside.changes) _ c.self.invariant)

pub returns-then-len-before-clause-listed : goal.returns-then-len-before-clause-listed
returns-then-len-before-clause-listed g c =
    filter_same _ (is_other c.args.turn) _ (λ x b f' k. search rules) _ _ c.retain.ensures.filtered ∙ ap (λ it. filter (is_other c.args.turn) it.listed) c.self.view_is

pub returns-then-len-before-clause-gone : goal.returns-then-len-before-clause-gone
returns-then-len-before-clause-gone g c =
    nobody-has c.args.turn _ (All-from_retain _ (λ entry. entry.turn ≢ c.args.turn) _ (λ x b f' k. search rules) _ _ c.retain.ensures.filtered)

pub returns-else-len-before-clause-listed : goal.returns-else-len-before-clause-listed
returns-else-len-before-clause-listed g c =
    filter_same _ (is_other c.args.turn) _ (λ x b f' k. search rules) _ _ c.retain.ensures.filtered ∙ ap (λ it. filter (is_other c.args.turn) it.listed) c.self.view_is

pub returns-else-len-before-clause-gone : goal.returns-else-len-before-clause-gone
returns-else-len-before-clause-gone g c =
    nobody-has c.args.turn _ (All-from_retain _ (λ entry. entry.turn ≢ c.args.turn) _ (λ x b f' k. search rules) _ _ c.retain.ensures.filtered)
