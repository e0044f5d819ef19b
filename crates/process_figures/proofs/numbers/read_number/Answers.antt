use Rattle.std.proofs.Common.{sym, ◌∙◌}
use Rattle.base_syntax.proofs.Digits.{more_digits}
use Rattle.process_figures.proofs.numbers.read_number.Goals as goal

pub loop-byte-preserved : goal.loop-byte-preserved
loop-byte-preserved c =
    let invariant = c.loop-byte.invariant in
    let more = more_digits c.args.text.now c.loop-byte.byte-index c.loop-byte.value c.from.result c.from-limit.result c.loop-byte-test.true invariant.0 invariant.1 (sym c.is_ascii_digit.ensures.value ∙ c.if-not-is_ascii_digit.false) c.from.ensures in
    (more.0, c.min-value.ensures ∙ more.1, invariant.2)
