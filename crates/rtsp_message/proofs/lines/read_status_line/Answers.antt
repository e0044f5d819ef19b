use Rattle.std.proofs.Common.{refl, sym, subst, ◌++◌, ◌∙◌, ap}
use Rattle.base_syntax.specs.Blanks.{IsTrimOf}
use Rattle.base_syntax.proofs.Trims.{is_core}
use Rattle.rtsp_message.specs.declared.byte_class.ByteClass.TheVariants.{Space}
use Rattle.rtsp_message.specs.Lines.{IsVersion}
use Rattle.rtsp_message.proofs.Runs.{false_is_true, no_run}
use Rattle.rtsp_message.proofs.RequestLines.{same_cut}
use Rattle.rtsp_message.proofs.StartLines.{after_gap, status_version_cut, gap_cut}
use Rattle.rtsp_message.proofs.lines.read_status_line.Goals as goal

pub returns-in_err-rest-clause-none : goal.returns-in_err-rest-clause-none
returns-in_err-rest-clause-none c = rw c.from_residual-in_err-rest.ensures (λ v s r q.
    let version = same_cut refl c.in_ok-version.ensures.some (status_version_cut q) in
    no_run Space c.in_ok-version.rest.now q.gap (after_gap q) c.in_err-rest.ensures.none q.spaces version.1)

pub returns-in_err-status-clause-none : goal.returns-in_err-status-clause-none
returns-in_err-status-clause-none c = rw c.from_residual-in_err-status.ensures (λ v s r q.
    let version = same_cut refl c.in_ok-version.ensures.some (status_version_cut q) in
    let gap = same_cut version.1 c.in_ok-rest.ensures.some (gap_cut q) in
    c.in_err-status.ensures.none s q.text gap.1 q.three_digits.0 q.three_digits.1)

pub returns-then-not-is_version-clause-none : goal.returns-then-not-is_version-clause-none
returns-then-not-is_version-clause-none c v s r q =
    let version = same_cut refl c.in_ok-version.ensures.some (status_version_cut q) in
    let true_then = c.is_version.ensures.1 (subst IsVersion (sym version.0) q.version_is) in
    false_is_true (sym c.if-not-is_version.true ∙ true_then)

pub returns-clause-some : goal.returns-clause-some
returns-clause-some c =
    let line = c.args.line.now in
    record {
      gap = c.in_ok-rest.field-0-0.now;
      text = c.in_ok-status.text.now;
      whole = c.in_ok-version.ensures.some.whole ∙ ap (λ rest. c.in_ok-version.version.now ++ rest) (c.in_ok-rest.ensures.some.whole ∙ ap (λ rest. c.in_ok-rest.field-0-0.now ++ rest) c.in_ok-status.ensures.some.0);
      version_is = c.is_version.ensures.0 c.if-not-is_version.false;
      spaces = c.in_ok-rest.ensures.some.run_bytes;
      three_digits = (c.in_ok-status.ensures.some.1, c.in_ok-status.ensures.some.2);
      reason_is = subst (IsTrimOf c.in_ok-status.text.now) (sym c.trim.ensures) (is_core c.in_ok-status.text.now);
    }
