use Rattle.std.proofs.Common.{rules, sym, ◌≡◌, ◌∙◌, List, map, ap, subst}
use Rattle.std.specs.Prelude.{All}
use Rattle.ring_steps.specs.declared.made.Made.{Made}
use Rattle.ring_steps.specs.Making.{SoFar, in_turn, nothing_made}
use Rattle.ring_steps.specs.Scripts.{calls_of}
use Rattle.ring_steps.specs.Traces.{IsByOneOf, made_of}
use Rattle.ring_steps.proofs.RunningOut.{goes_on, goes_sound, nothing_sound}
use Rattle.ring_steps.proofs.Turning.{ran_by}
use Rattle.ring_steps.proofs.running_out.run_out.Goals as goal

pub returns-in_err-check_input-clause-refused : goal.returns-in_err-check_input-clause-refused
returns-in_err-check_input-clause-refused c =
    let e = c.in_err-check_input.ensures.refused c.args.schedule.now in
    search (rules, e)

pub finish_others-requires-clause-sound : goal.finish_others-requires-clause-sound
finish_others-requires-clause-sound c =
    let calls = calls_of c.args.script.now in
    let config = c.args.config.now in
    goes_sound calls c.args.schedule.now (nothing_made config) c.in_ok-making.making (nothing_sound config calls c.in_ok-check_input.ensures.config) c.in_ok-making.ensures.goes

pub trace_of-requires : goal.trace_of-requires
trace_of-requires c =
    let calls = calls_of c.args.script.now in
    let schedule = c.args.schedule.now in
    let start = nothing_made c.args.config.now in
    let others = c.in_ok-finish_others.ensures in
    let goes = goes_on calls schedule (in_turn others.publisher others.seats) start c.in_ok-making.making c.finish_others.new.self c.in_ok-making.ensures.goes others.goes in
    let good = c.in_ok-check_input.ensures.config in
    let by = ran_by calls start.at goes.turns c.finish_others.new.self.at goes.ran in
    let made : c.making-2.inside.made.items ≡ map made_of goes.turns = ap (λ (so : SoFar). so.steps) c.making-2.view_is ∙ goes.made in
    subst (λ (ms : List Made). All (IsByOneOf c.args.config.now.seats) ms) (sym made) (subst (λ n. All (IsByOneOf n) (map made_of goes.turns)) good.fits by)

pub returns-clause-trace : goal.returns-clause-trace
returns-clause-trace c =
    let calls = calls_of c.args.script.now in
    let schedule = c.args.schedule.now in
    let start = nothing_made c.args.config.now in
    let others = c.in_ok-finish_others.ensures in
    let goes = goes_on calls schedule (in_turn others.publisher others.seats) start c.in_ok-making.making c.finish_others.new.self c.in_ok-making.ensures.goes others.goes in
    let made : c.making-2.inside.made.items ≡ map made_of goes.turns = ap (λ (so : SoFar). so.steps) c.making-2.view_is ∙ goes.made in
    record {
      publisher = others.publisher;
      seats = others.seats;
      told = record {
        turns = goes.turns;
        end = c.finish_others.new.self.at;
        ran = goes.ran;
        by = goes.by;
        steps = c.in_ok-trace_of.ensures.steps goes.turns made;
        events = c.in_ok-trace_of.ensures.events goes.turns made;
      };
      stays = others.stays;
      answered = others.answered;
    }
