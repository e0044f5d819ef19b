use Rattle.std.proofs.Common.{◌∙◌}
use Rattle.cursor.proofs.Plains.{attach_event}
use Rattle.cursor.proofs.plain_log.PlainLog.attach_back.Goals as goal

pub returns : goal.returns
returns c = rw (← c.self.view_is, c.from.ensures, c.begun-account.ensures, c.len.ensures ∙ c.self.inside.packets.ok.0) (attach_event _ _ c.args.back (rw (← c.self.view_is) at c.requires))
