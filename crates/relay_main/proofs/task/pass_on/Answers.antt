use Rattle.std.proofs.Common.{arith, subst}
use mathlib.Core.Logic.{inl}
use Rattle.rtsp_message.specs.Intakes.{IntakeState}
use Rattle.relay_pass.specs.Passes.{PassesNew}
use Rattle.relay_main.proofs.task.pass_on.Goals as goal

pub returns : goal.returns
returns g c =
    let new = c.pass_over_new_ring-passed.new in let p = c.args.passing.now in
    let From : IntakeState g.row.R.Denot → Type 0 = λ old. PassesNew g.R.Source.incoming g.R.Source.failed p.keep 16384 p.from p.to old new.intake (g.W.Sink.written c.args.writer.now) (g.W.Sink.written new.writer) c.in-Ok.report in
    inl (c.in-Ok.report, record { last = new.intake; passes = subst From c.new-intake.ensures c.in-Ok.ensures.passes; kept_up = c.in-Ok.ensures.kept_up c.requires.keep.0 (omega arith); in_step = omega (arith, c.in-Ok.ensures.in_step (omega arith)); failed = c.in-Ok.ensures.failed }, c.talk_end_of.ensures)
