use Rattle.std.proofs.Common.{◌∙◌}
use Rattle.cursor.proofs.Plains.{detach_event}
use Rattle.cursor.proofs.plain_log.PlainLog.detach.Goals as goal

pub returns : goal.returns
returns c = rw (← c.self.view_is, c.from.ensures, c.cursor.ensures, c.len.ensures ∙ c.self.inside.packets.ok.0) (detach_event _ _ c.account-account.result (rw (← c.self.view_is) at c.account-account.ensures.account))
