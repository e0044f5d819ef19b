use Rattle.std.proofs.Common.{◌∙◌, Some, sym, ap}
use Rattle.cursor.proofs.Attachments.{reached}
use Rattle.cursor.proofs.laws.cursor_adds_up.Goals as goal

pub returns : goal.returns
returns c = λ keep seats seat back start before during log h.
    let at = reached keep seats seat back start before during log h in
    at.cursor ∙ ap (λ n. Some (Some n)) (sym at.adds)
