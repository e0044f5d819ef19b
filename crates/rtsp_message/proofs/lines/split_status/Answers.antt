use Rattle.std.proofs.Common.{◌≡◌, ℕ, length, take, sym, ap, ◌∙◌}
use Rattle.std.proofs.Math.Seq.{take-append_seam}
use Rattle.base_syntax.specs.Numbers.{is_numeral}
use Rattle.rtsp_message.proofs.Runs.{false_is_true}
use Rattle.rtsp_message.proofs.lines.split_status.Goals as goal

pub returns-else-is_numeral-clause-none : goal.returns-else-is_numeral-clause-none
returns-else-is_numeral-clause-none c status text whole size numeral =
    let front : take 3 c.args.bytes.now ≡ status = ap (λ (n : ℕ). take n c.args.bytes.now) (sym size) ∙ ap (take (length status)) whole ∙ take-append_seam status text in
    false_is_true (sym c.if-is_numeral.false ∙ c.is_numeral.ensures ∙ ap is_numeral (c.split_at.ensures.front ∙ front) ∙ numeral)
