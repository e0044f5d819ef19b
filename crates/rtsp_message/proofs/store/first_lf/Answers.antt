use Rattle.std.proofs.Common.{refl, sym, ap, ◌∙◌}
use Rattle.std.specs.Option.{option_copied}
use Rattle.rtsp_message.proofs.Finding.{lf_found, lf_missing}
use Rattle.rtsp_message.proofs.store.first_lf.Goals as goal

pub returns-in_err-behind-clause-none : goal.returns-in_err-behind-clause-none
returns-in_err-behind-clause-none c = rw c.from_residual.ensures (lf_missing c.args.bytes.now _ c.args.from refl (sym (ap option_copied c.in_err-behind.was) ∙ c.cut.ensures.behind))

pub returns-clause-some : goal.returns-clause-some
returns-clause-some c = lf_found c.args.bytes.now _ c.cut.result.0.now c.in_ok-behind.field-0.now c.args.from c.requires refl c.cut.ensures.before (sym (ap option_copied c.in_ok-behind.was) ∙ c.cut.ensures.behind)
