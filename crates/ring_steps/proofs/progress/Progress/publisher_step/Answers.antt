use Rattle.std.proofs.Common.{◌∙◌, ◌+◌, List, length, refl, sym, ap, subst, slice_get, arith, ◌<◌}
use Rattle.std.proofs.lemmas.Option.{slice_get_read}
use Rattle.ring_steps.specs.declared.calls.Actor.TheVariants.{P}
use Rattle.ring_steps.specs.declared.calls.PublisherCall.{PublisherCall}
use Rattle.ring_steps.specs.Agreeing.{Agrees, GoesOn}
use Rattle.ring_steps.specs.Runs.{At}
use Rattle.ring_steps.specs.Scripts.{calls_of}
use Rattle.ring_steps.proofs.Ready.{one_more, publisher_goes, publisher_ready}
use Rattle.ring_steps.proofs.progress.Progress.publisher_step.Goals as goal

pub publisher_step-requires-clause-ready : goal.publisher_step-requires-clause-ready
publisher_step-requires-clause-ready c =
    let calls = calls_of c.args.script.now in
    let list = c.as_slice-calls.ensures.value in
    let at : At = record { ring = c.self.inside.ring; publisher = c.self.inside.publisher; seats = c.self.inside.seats.items } in
    let agrees = subst (λ (a : At). Agrees calls a) (sym c.self.view_is) c.requires.agrees in
    let call = c.index-calls-next.result in
    let below : at.publisher < length c.as_slice-calls.result.now = let past = c.if-next-calls.false in omega arith in
    let next = slice_get_read c.as_slice-calls.result.now (length c.as_slice-calls.result.now) at.publisher call refl below c.index-calls-next.is in
    publisher_ready calls at call agrees c.requires.good (sym (ap (λ (xs : List PublisherCall). slice_get xs at.publisher) list) ∙ next)

pub returns-clause-goes_on : goal.returns-clause-goes_on
returns-clause-goes_on c =
    let calls = calls_of c.args.script.now in
    let list = c.as_slice-calls.ensures.value in
    let at : At = record { ring = c.self.inside.ring; publisher = c.self.inside.publisher; seats = c.self.inside.seats.items } in
    let call = c.index-calls-next.result in
    let below : at.publisher < length c.as_slice-calls.result.now = let past = c.if-next-calls.false in omega arith in
    let next = slice_get_read c.as_slice-calls.result.now (length c.as_slice-calls.result.now) at.publisher call refl below c.index-calls-next.is in
    let step = c.in_ok-stepped.ensures.step in
    let new : At = record { ring = c.publisher_step.new.self; publisher = c.self.inside.publisher + c.from.result; seats = c.self.inside.seats.items } in
    subst (λ (a : At). GoesOn calls a P new c.in_ok-stepped.stepped) c.self.view_is
    (publisher_goes calls at call c.publisher_step.new.self c.in_ok-stepped.stepped (c.self.inside.publisher + c.from.result)
    (sym (ap (λ (xs : List PublisherCall). slice_get xs at.publisher) list) ∙ next) step
    (one_more at.publisher c.from.result c.is_some.result c.in_ok-stepped.stepped.answer c.is_some.ensures c.from.ensures))
