use Rattle.std.proofs.Common.{sym, ◌∙◌}
use Rattle.base_syntax.proofs.Digits.{numeral_from, numeral_to}
use Rattle.mounts.proofs.names.is_short_numeral.Goals as goal

pub returns-then-not-is_numeral : goal.returns-then-not-is_numeral
returns-then-not-is_numeral c h = let numeral = numeral_from c.args.text.now h.numeral in absurd (cc c.is_numeral.ensures)

pub returns-then-text-ne48 : goal.returns-then-text-ne48
returns-then-text-ne48 c = record {
  numeral = numeral_to c.args.text.now (sym c.is_numeral.ensures ∙ c.if-not-is_numeral.false);
  short = λ e. absurd (c.if-text-ne48.true e);
}
