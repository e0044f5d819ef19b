use Rattle.std.proofs.Common.{◌≡◌, ◌∙◌, [], take, ℕ, List, map, ap, sym, subst, rules}
use Rattle.std.specs.Prelude.{All}
use Rattle.ring_steps.specs.declared.made.Made.{Made}
use Rattle.ring_steps.specs.Making.{SoFar}
use Rattle.ring_steps.specs.Runs.{start}
use Rattle.ring_steps.specs.Scripts.{calls_of}
use Rattle.ring_steps.specs.Traces.{IsByOneOf, made_of}
use Rattle.cursor.specs.Plain.{log_of}
use Rattle.ring_steps.proofs.EachOnce.{each_once}
use Rattle.ring_steps.proofs.Located.{acts_within}
use Rattle.ring_steps.proofs.Potential.{steps_few}
use Rattle.ring_steps.proofs.Meeting.{turn_meets}
use Rattle.ring_steps.proofs.History.{history_accounts, history_legal, history_players, plain_at}
use Rattle.ring_steps.proofs.Opening.{empty_keeps}
use Rattle.ring_steps.proofs.Running.{ran_keeps}
use Rattle.ring_steps.proofs.Turning.{ran_by}
use Rattle.ring_steps.proofs.runs.run.Goals as goal

pub returns-in_err-check_input-clause-refused : goal.returns-in_err-check_input-clause-refused
returns-in_err-check_input-clause-refused c =
    let e = c.in_err-check_input.ensures.refused c.args.schedule.now in
    search (rules, e)

pub trace_of-requires : goal.trace_of-requires
trace_of-requires c =
    let calls = calls_of c.args.script.now in
    let goes = c.in_ok-making.ensures.goes in
    let good = c.in_ok-check_input.ensures.config in
    let by = ran_by calls (start c.args.config.now.keep c.args.config.now.seats) goes.turns c.in_ok-making.making.at goes.ran in
    let made : c.making.inside.made.items ≡ map made_of goes.turns = ap (λ (so : SoFar). so.steps) c.making.view_is ∙ goes.made in
    subst (λ (ms : List Made). All (IsByOneOf c.args.config.now.seats) ms) (sym made)
    (subst (λ (n : ℕ). All (IsByOneOf n) (map made_of goes.turns)) good.fits by)

pub returns-clause-states : goal.returns-clause-states
returns-clause-states c = λ told n mid ran.
    (let good = c.in_ok-check_input.ensures.config in
    let keep = c.args.config.now.keep in
    let seats = c.args.config.now.seats in
    ran_keeps (calls_of c.args.script.now) (start keep seats) (take n told.turns) mid ran (empty_keeps keep seats good.low))

pub returns-clause-history : goal.returns-clause-history
returns-clause-history c = λ told.
    (let good = c.in_ok-check_input.ensures.config in
    (log_of (plain_at told.end.ring []), history_legal (calls_of c.args.script.now) c.args.config.now.keep c.args.config.now.seats told.turns told.end good.low told.ran))

pub returns-clause-accounts : goal.returns-clause-accounts
returns-clause-accounts c = λ told.
    (let good = c.in_ok-check_input.ensures.config in
    history_accounts (calls_of c.args.script.now) c.args.config.now.keep c.args.config.now.seats told.turns told.end good.low told.ran)

pub returns-clause-players : goal.returns-clause-players
returns-clause-players c = λ told.
    (let good = c.in_ok-check_input.ensures.config in
    history_players (calls_of c.args.script.now) c.args.config.now.keep c.args.config.now.seats told.turns told.end good.low told.ran)

pub returns-clause-events_once : goal.returns-clause-events_once
returns-clause-events_once c = λ told. each_once (calls_of c.args.script.now) c.args.config.now.keep c.args.config.now.seats told.turns told.end told.ran

pub returns-clause-events_within : goal.returns-clause-events_within
returns-clause-events_within c = λ told. acts_within (calls_of c.args.script.now) c.args.config.now.keep c.args.config.now.seats told.turns told.end told.ran

pub returns-clause-few_steps : goal.returns-clause-few_steps
returns-clause-few_steps c = λ told. steps_few (calls_of c.args.script.now) (start c.args.config.now.keep c.args.config.now.seats) told.turns told.end told.ran

pub returns-clause-refusals : goal.returns-clause-refusals
returns-clause-refusals c = λ told n mid t ran at.
    (let good = c.in_ok-check_input.ensures.config in
    turn_meets (calls_of c.args.script.now) c.args.config.now.keep c.args.config.now.seats told.turns told.end n mid t good.low told.ran ran at)
