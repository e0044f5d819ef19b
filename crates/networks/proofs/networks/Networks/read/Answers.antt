use Rattle.std.proofs.Common.{◌≡◌, None, Some, rules}
use Rattle.std.specs.Option.{option_copied}
use Rattle.networks.specs.Reading.{IsRefused, parts_of}
use Rattle.networks.proofs.Parts.{HasRead, read_none, read_more, read_all, read_bad}
use Rattle.networks.proofs.networks.Networks.read.Goals as goal

pub loop-rest-init : goal.loop-rest-init
loop-rest-init c = rw (c.new-networks.ensures.items, c.as_bytes.ensures.value) (read_none _)

pub returns-in_err-read_network-clause-err : goal.returns-in_err-read_network-clause-err
returns-in_err-read_network-clause-err c =
    let left : option_copied c.loop-rest.rest ≡ Some c.in-Some.text.now = search rules in
    let read : HasRead c.args.text.now c.loop-rest.networks.items (Some c.in-Some.text.now) = rw left at c.loop-rest.invariant in
    let bad : IsRefused (parts_of c.args.text.now) c.in_err-read_network.field-0.0 = read_bad _ _ _ _ _ read c.cut.ensures.before c.in_err-read_network.ensures in
    search (rules, bad)

pub loop-rest-preserved : goal.loop-rest-preserved
loop-rest-preserved c =
    let left : option_copied c.loop-rest.rest ≡ Some c.in-Some.text.now = search rules in
    let read : HasRead c.args.text.now c.loop-rest.networks.items (Some c.in-Some.text.now) = rw left at c.loop-rest.invariant in
    rw c.in_ok-push.ensures.items (read_more _ _ _ _ _ _ read c.cut.ensures.before c.cut.ensures.behind c.in_ok-read_network.ensures)

pub returns-clause-ok : goal.returns-clause-ok
returns-clause-ok c =
    let left : option_copied c.loop-rest.rest ≡ None = search rules in
    let read : HasRead c.args.text.now c.loop-rest.networks.items None = rw left at c.loop-rest.invariant in
    read_all _ _ read
