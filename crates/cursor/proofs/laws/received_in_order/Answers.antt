use Rattle.std.proofs.Common.{◌∙◌, refl, sym, ap, slice_range}
use Rattle.cursor.specs.Account.{losses, takes_of, without}
use Rattle.cursor.proofs.Attachments.{reached}
use Rattle.cursor.proofs.Kept.{received-without}
use Rattle.cursor.proofs.laws.received_in_order.Goals as goal

pub returns : goal.returns
returns c = λ keep seats seat back start before during log h.
    let at = reached keep seats seat back start before during log h in
    received-without log.packets start (takes_of seat during) at.to at.settles (losses start (takes_of seat during)) (λ n above. refl)
    ∙ ap (λ e. without (losses start (takes_of seat during)) start (slice_range log.packets start e)) (sym at.adds)
