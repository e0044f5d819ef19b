use Rattle.std.proofs.Common.{None, Some, ap}
use Rattle.std.specs.Option.{option_copied}
use Rattle.proxy_header.proofs.Parts.{cut_part, four_parts, more_parts, one_part_only, two_parts_only, three_parts_only}
use Rattle.proxy_header.proofs.fields.fields_of.Goals as goal

pub returns-in_err-rest : goal.returns-in_err-rest
returns-in_err-rest c =
    let first = cut_part c.args.text.now c.cut.result.0.now _ None c.cut.ensures.before c.cut.ensures.behind (ap option_copied c.in_err-rest.was) in
    rw c.from_residual.ensures (one_part_only first)

pub returns-in_err-rest-2 : goal.returns-in_err-rest-2
returns-in_err-rest-2 c =
    let first = cut_part c.args.text.now c.cut.result.0.now _ (Some c.in_ok-rest.field-0.now) c.cut.ensures.before c.cut.ensures.behind (ap option_copied c.in_ok-rest.was) in
    let second = cut_part c.in_ok-rest.field-0.now c.cut-2.result.0.now _ None c.cut-2.ensures.before c.cut-2.ensures.behind (ap option_copied c.in_err-rest-2.was) in
    rw c.from_residual-in_err-rest-2.ensures (two_parts_only first second)

pub returns-in_err-rest-3 : goal.returns-in_err-rest-3
returns-in_err-rest-3 c =
    let first = cut_part c.args.text.now c.cut.result.0.now _ (Some c.in_ok-rest.field-0.now) c.cut.ensures.before c.cut.ensures.behind (ap option_copied c.in_ok-rest.was) in
    let second = cut_part c.in_ok-rest.field-0.now c.cut-2.result.0.now _ (Some c.in_ok-rest-2.field-0.now) c.cut-2.ensures.before c.cut-2.ensures.behind (ap option_copied c.in_ok-rest-2.was) in
    let third = cut_part c.in_ok-rest-2.field-0.now c.cut-3.result.0.now _ None c.cut-3.ensures.before c.cut-3.ensures.behind (ap option_copied c.in_err-rest-3.was) in
    rw c.from_residual-in_err-rest-3.ensures (three_parts_only first second third)

pub returns-in-Some : goal.returns-in-Some
returns-in-Some c =
    let first = cut_part c.args.text.now c.cut.result.0.now _ (Some c.in_ok-rest.field-0.now) c.cut.ensures.before c.cut.ensures.behind (ap option_copied c.in_ok-rest.was) in
    let second = cut_part c.in_ok-rest.field-0.now c.cut-2.result.0.now _ (Some c.in_ok-rest-2.field-0.now) c.cut-2.ensures.before c.cut-2.ensures.behind (ap option_copied c.in_ok-rest-2.was) in
    let third = cut_part c.in_ok-rest-2.field-0.now c.cut-3.result.0.now _ (Some c.in_ok-rest-3.field-0.now) c.cut-3.ensures.before c.cut-3.ensures.behind (ap option_copied c.in_ok-rest-3.was) in
    let fourth = cut_part c.in_ok-rest-3.field-0.now c.cut-4.result.0.now _ (Some c.in-Some.field-0.now) c.cut-4.ensures.before c.cut-4.ensures.behind (ap option_copied c.in-Some.is) in
    more_parts _ first second third fourth

pub returns-in-None : goal.returns-in-None
returns-in-None c =
    let first = cut_part c.args.text.now c.cut.result.0.now _ (Some c.in_ok-rest.field-0.now) c.cut.ensures.before c.cut.ensures.behind (ap option_copied c.in_ok-rest.was) in
    let second = cut_part c.in_ok-rest.field-0.now c.cut-2.result.0.now _ (Some c.in_ok-rest-2.field-0.now) c.cut-2.ensures.before c.cut-2.ensures.behind (ap option_copied c.in_ok-rest-2.was) in
    let third = cut_part c.in_ok-rest-2.field-0.now c.cut-3.result.0.now _ (Some c.in_ok-rest-3.field-0.now) c.cut-3.ensures.before c.cut-3.ensures.behind (ap option_copied c.in_ok-rest-3.was) in
    let fourth = cut_part c.in_ok-rest-3.field-0.now c.cut-4.result.0.now _ None c.cut-4.ensures.before c.cut-4.ensures.behind (ap option_copied c.in-None.is) in
    four_parts first second third fourth
