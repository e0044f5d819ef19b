use Rattle.std.proofs.Common.{◌∷◌, [], List, take, get_or, sym, subst}
use Rattle.std.proofs.lemmas.List.{take_more}
use Rattle.std.proofs.lemmas.Option.{slice_get-get_or}
use Rattle.ring_steps.specs.declared.calls.Actor.{Actor}
use Rattle.ring_steps.specs.declared.calls.Actor.TheVariants.{P}
use Rattle.ring_steps.specs.Making.{Goes, nothing_made}
use Rattle.ring_steps.specs.Scripts.{calls_of}
use Rattle.ring_steps.proofs.RunningOut.{goes_on, goes_sound, nothing_sound, turn_goes}
use Rattle.ring_steps.proofs.making.Making.along.Goals as goal

pub step-requires-clause-sound : goal.step-requires-clause-sound
step-requires-clause-sound c =
    let calls = calls_of c.args.script.now in
    goes_sound calls (take c.loop-i.i c.args.schedule.now) (nothing_made c.args.config.now) c.loop-i.making (nothing_sound c.args.config.now calls c.requires.config) c.loop-i.invariant

pub returns-in-None-clause-refused : goal.returns-in-None-clause-refused
returns-in-None-clause-refused c =
    let goes = c.loop-i.invariant in (
      c.requires.config,
      c.requires.script,
      record {
        turns = goes.turns;
        before = goes.by;
        mid = c.loop-i.making.at;
        ran = goes.ran;
        actor = get_or c.args.schedule.now c.loop-i.i P;
        there = slice_get-get_or c.args.schedule.now c.loop-i.i P c.loop-i-test.true;
        none = rw c.in-None.is at c.in_ok-step.ensures.none;
      },
    )

pub loop-i-preserved : goal.loop-i-preserved
loop-i-preserved c =
    let calls = calls_of c.args.script.now in
    let start = nothing_made c.args.config.now in
    let schedule = c.args.schedule.now in
    let actor = get_or schedule c.loop-i.i P in
    let takes = rw c.in-Some.is at c.in_ok-step.ensures.turn in
    subst (λ (list : List Actor). Goes calls list start c.step.new.self) (sym (take_more schedule c.loop-i.i P c.loop-i-test.true))
    (goes_on calls (take c.loop-i.i schedule) (actor ∷ []) start c.loop-i.making c.step.new.self c.loop-i.invariant
    (turn_goes calls actor c.in-Some.field-0 c.loop-i.making c.step.new.self takes))
