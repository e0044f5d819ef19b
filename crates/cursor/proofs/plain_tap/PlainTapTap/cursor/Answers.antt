use Rattle.std.proofs.Common.{◌∙◌, sym, ap}
use Rattle.cursor.specs.Account.{cursor_of}
use Rattle.cursor.proofs.Counting.{tapped_account_is}
use Rattle.cursor.specs.Plain.{Tapped}
use Rattle.cursor.proofs.plain_tap.PlainTapTap.cursor.Goals as goal

pub returns : goal.returns
returns c =
    let tap : Tapped = record { log = c.self.inside.log; seat = c.self.inside.seat } in
    rw (← c.self.view_is) (c.cursor.ensures ∙ ap cursor_of (sym (tapped_account_is tap c.account.result c.account.ensures.account)))
