use Rattle.std.proofs.Common.{◌≡◌, ◌<◌, ◌≤◌, ◌++◌, length, replicate, arith, ap, length-append}
use Rattle.std.proofs.lemmas.List.{length-replicate}
use Rattle.std.specs.Option.{option_copied}
use Rattle.ring_script.proofs.Items.{one_item, bad_item, too_many, all_read}
use Rattle.ring_script.proofs.item.schedule.Goals as goal

pub returns-in_default-item : goal.returns-in_default-item
returns-in_default-item c =
    bad_item c.in-Some.text.now c.cut.result.0.now (option_copied c.cut.result.1) c.loop-rest.invariant (ap (λ o. option_copied o) c.in-Some.is) c.cut.ensures.before c.cut.ensures.behind c.in_default-item.ensures.bad

pub returns-then-len-times-gt-MOST_STEPS : goal.returns-then-len-times-gt-MOST_STEPS
returns-then-len-times-gt-MOST_STEPS c =
    let steps = c.loop-rest.schedule in
    let actor = c.in-Some-item.actor in
    let times = c.in-Some-item.times in
    let long : 1000000 < length (steps ++ replicate times actor) = omega (arith, length-append steps (replicate times actor), length-replicate times actor, c.len.ensures, c.if-len-times-gt-MOST_STEPS.true) in
    too_many c.in-Some.text.now c.cut.result.0.now (option_copied c.cut.result.1) actor times c.loop-rest.invariant (ap (λ o. option_copied o) c.in-Some.is) c.cut.ensures.before c.cut.ensures.behind c.in-Some-item.ensures.read long

pub loop-rest-preserved : goal.loop-rest-preserved
loop-rest-preserved c =
    let steps = c.loop-rest.schedule in
    let actor = c.in-Some-item.actor in
    let times = c.in-Some-item.times in
    let pushed : c.add_steps.new.schedule ≡ steps ++ replicate times actor = c.in_ok-add_steps.ensures in
    let few : length c.add_steps.new.schedule ≤ 1000000 = omega (arith, ap length pushed, length-append steps (replicate times actor), length-replicate times actor, c.len.ensures, c.if-len-times-gt-MOST_STEPS.false) in
    one_item c.in-Some.text.now c.cut.result.0.now (option_copied c.cut.result.1) actor times c.loop-rest.invariant (ap (λ o. option_copied o) c.in-Some.is) c.cut.ensures.before c.cut.ensures.behind c.in-Some-item.ensures.read pushed few

pub returns : goal.returns
returns c = all_read c.loop-rest.invariant (ap (λ o. option_copied o) c.in_default.is)
