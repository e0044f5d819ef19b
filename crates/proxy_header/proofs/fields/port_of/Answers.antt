use Rattle.std.proofs.Common.{◌∙◌, sym, arith}
use Rattle.base_syntax.proofs.Digits.{number_only, number_read}
use Rattle.proxy_header.proofs.fields.port_of.Goals as goal
use Rattle.proxy_header.proofs.fields.port_of.Goals.{else-text-gt1-via-then-text-gt1+else-text-eq48, else-text-gt1-via-else-text-gt1}

pub returns-in_err-read_number : goal.returns-in_err-read_number
returns-in_err-read_number c =
    rw c.from_residual.ensures (λ port p. let same = sym (sym c.read_number.ensures ∙ c.in_err-read_number.was) ∙ number_read 65_535 c.args.text.now port p.number in cc)

pub returns : goal.returns
returns c = record {
  number = number_only 65_535 c.args.text.now _ (sym c.read_number.ensures ∙ c.in_ok-read_number.was);
  no_leading_zero = λ long. elim c.else-text-gt1.branch [
    | else-text-gt1-via-then-text-gt1+else-text-eq48 w ↦ w.if-text-eq48.false
    | else-text-gt1-via-else-text-gt1 w ↦ absurd (omega (arith, w.if-text-gt1.false))
  ];
}
