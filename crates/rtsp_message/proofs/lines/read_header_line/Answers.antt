use Rattle.std.proofs.Common.{◌∷◌, ◌++◌, refl, sym, ap, subst, ◌∙◌, arith}
use Rattle.rtsp_message.specs.declared.byte_class.ByteClass.TheVariants.{Token, Value}
use Rattle.base_syntax.specs.Blanks.{trimmed, IsTrimOf}
use Rattle.base_syntax.proofs.Lists.{same_tail}
use Rattle.base_syntax.proofs.Trims.{is_core, only_core}
use Rattle.rtsp_message.specs.Lines.{Each}
use Rattle.rtsp_message.proofs.Runs.{no_run, not_each, all_leading}
use Rattle.rtsp_message.proofs.RequestLines.{same_cut}
use Rattle.rtsp_message.proofs.HeaderLines.{name_cut}
use Rattle.rtsp_message.proofs.lines.read_header_line.Goals as goal

pub returns-in_err-name-clause-none : goal.returns-in_err-name-clause-none
returns-in_err-name-clause-none c = rw c.from_residual.ensures (λ header q.
    no_run Token c.args.line.now header.name (58 ∷ q.text) c.in_err-name.ensures.none q.name_bytes q.whole)

pub returns-in_err-text-clause-none : goal.returns-in_err-text-clause-none
returns-in_err-text-clause-none c = rw c.from_residual-in_err-text.ensures (λ header q.
    let name = same_cut refl c.in_ok-name.ensures.some (name_cut q) in
    c.in_err-text.ensures.none q.text name.1)

pub returns-then-leading-value-clause-none : goal.returns-then-leading-value-clause-none
returns-then-leading-value-clause-none c header q =
    let name = same_cut refl c.in_ok-name.ensures.some (name_cut q) in
    let texts = same_tail (sym c.in_ok-text.ensures.some ∙ name.1) in
    let values = c.trim-value.ensures ∙ ap trimmed texts ∙ sym (only_core q.text header.value q.value) in
    not_each Value c.trim-value.result.now c.leading.result c.if-leading-value.true (c.leading.ensures.stop c.if-leading-value.true) (subst (Each Value) (sym values) q.value_bytes)

pub returns-clause-some : goal.returns-clause-some
returns-clause-some c =
    let text = c.in_ok-text.text.now in
    let trim_is : IsTrimOf text c.trim-value.result.now = subst (IsTrimOf text) (sym c.trim-value.ensures) (is_core text) in
    record {
      text = text;
      whole = c.in_ok-name.ensures.some.whole ∙ ap (λ rest. c.in_ok-name.name.now ++ rest) c.in_ok-text.ensures.some;
      name_bytes = c.in_ok-name.ensures.some.run_bytes;
      value = trim_is;
      value_bytes = all_leading Value c.trim-value.result.now c.leading.result c.leading.ensures.run (omega (arith, c.if-leading-value.false));
    }
