use Rattle.cursor.specs.Account.{takes_of}
use Rattle.cursor.proofs.Attachments.{reached}
use Rattle.cursor.proofs.Positions.{positions-rise}
use Rattle.cursor.proofs.laws.positions_rise.Goals as goal

pub returns : goal.returns
returns c = λ keep seats seat back start before during log h.
    let at = reached keep seats seat back start before during log h in
    positions-rise log.packets start (takes_of seat during) at.to at.settles
