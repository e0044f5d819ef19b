use Rattle.std.proofs.Common.{inl, inr}
use Rattle.std.proofs.lemmas.Result.{err_from_is_err_and}
use Rattle.sdp.proofs.SoFar.{bad_line, bad_last}
use Rattle.sdp.proofs.reading.read_lines.Goals as goal

pub returns-in_err-add : goal.returns-in_err-add
returns-in_err-add c =
    let p = err_from_is_err_and c.from_residual.result c.from_residual.ensures.1 in rw (p.1, p.2)
    (elim c.in_err-add.ensures.fault [ inl memory ↦ inl memory | inr bad ↦ inr (bad_line c.loop-line.sections c.loop-line.invariant c.in-Some.ensures.some bad.0 bad.1) ])

pub returns-in_err-add-2 : goal.returns-in_err-add-2
returns-in_err-add-2 c =
    let p = err_from_is_err_and c.from_residual-in_err-add-2.result c.from_residual-in_err-add-2.ensures.1 in rw (p.1, p.2)
    (elim c.in_err-add-2.ensures.fault [ inl memory ↦ inl memory | inr bad ↦ inr (bad_last c.loop-line.sections c.loop-line.invariant c.in_default.ensures.none bad.0 bad.1) ])
