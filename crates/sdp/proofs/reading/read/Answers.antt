use Rattle.std.proofs.Common.{sym, subst, inl, inr}
use Rattle.std.proofs.lemmas.Result.{err_from_is_err_and}
use Rattle.sdp.specs.Readings.{IsRefused}
use Rattle.sdp.proofs.Refusals.{refused_line}
use Rattle.sdp.proofs.reading.read.Goals as goal

pub returns-in_err-sections : goal.returns-in_err-sections
returns-in_err-sections c =
    let p = err_from_is_err_and c.from_residual.result c.from_residual.ensures.1 in rw (p.1, p.2)
    (elim c.in_err-sections.ensures [ inl memory ↦ subst (IsRefused c.args.bytes.now) (sym memory) tt | inr bad ↦ refused_line c.args.bytes.now _ bad ])
