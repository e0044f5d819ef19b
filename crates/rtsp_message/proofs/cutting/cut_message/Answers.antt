use Rattle.std.proofs.Common.{◌≡◌, ◌+◌, List, ℕ, drop, ap, subst, ◌∙◌}
use Rattle.rtsp_message.specs.Heads.{IsHeadFrom}
use Rattle.rtsp_message.specs.Stores.{StoreState, between}
use Rattle.rtsp_message.proofs.Cuts.{between_first, message_cut}
use Rattle.rtsp_message.proofs.Finding.{between_behind}
use Rattle.rtsp_message.proofs.cutting.cut_message.Goals as goal

pub returns-clause-ok : goal.returns-clause-ok
returns-clause-ok c =
    let bytes = c.args.store.now.bytes in
    let request = c.in_ok-request.request in
    let is_head = subst (λ (l : List ℕ). IsHeadFrom c.args.peer l request) (c.line.ensures.bytes ∙ between_first bytes c.args.from c.args.head) c.in_ok-request.ensures in
    let still : c.line.follows.lender-at-none.bytes ≡ bytes = ap (λ (s : StoreState). s.bytes) c.line.follows.holds-at-none in
    let body = c.in_ok-request-2.ensures ∙ c.whole.ensures ∙ ap (λ (l : List ℕ). between l (c.args.from + c.args.head) (c.args.from + c.args.len)) still ∙ between_behind bytes c.args.from c.args.head c.args.len in
    message_cut c.args.peer (drop c.args.from bytes) c.args.head c.args.len request c.in_ok-request-2.field-0 c.requires.message c.requires.whole is_head body
