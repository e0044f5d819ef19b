use Rattle.cursor.specs.Account.{takes_of}
use Rattle.cursor.proofs.Attachments.{reached}
use Rattle.cursor.proofs.Positions.{once}
use Rattle.cursor.proofs.laws.each_number_once.Goals as goal

pub returns : goal.returns
returns c = λ keep seats seat back start before during log h n above below.
    let at = reached keep seats seat back start before during log h in
    once log.packets start (takes_of seat during) at.to n at.settles above (rw (← at.adds) below)
