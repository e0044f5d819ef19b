use Rattle.std.proofs.Common.{◌≡◌, ◌+◌, ◌<◌, List, Option, Some, rules, subst, sym}
use Rattle.std.specs.Option.{option_copied}
use Rattle.transport_header.specs.declared.spec.ChannelPair.{ChannelPair}
use Rattle.transport_header.specs.Tracks.{MayHave}
use Rattle.relay_command.specs.Channels.{WritesPair}
use Rattle.relay_command.proofs.Giving.{GoesOn, goes_on_next}
use Rattle.relay_command.proofs.channels.read_channels.Goals as goal

pub loop-track-preserved : goal.loop-track-preserved
loop-track-preserved c =
    let left : option_copied c.loop-track.rest ≡ Some c.in-Some.text.now = search rules in
    let on : GoesOn c.args.text.now c.loop-track.track c.loop-track.channels (Some c.in-Some.text.now) = rw left at c.loop-track.invariant in
    let writes : WritesPair c.cut.result.0.now c.in_ok-pair.pair = search rules in
    let may : MayHave c.loop-track.channels c.loop-track.track c.in_ok-pair.pair = search rules in
    let near : c.loop-track.track < 16 = search rules in
    subst (λ (cs : List (Option ChannelPair)). GoesOn c.args.text.now (c.loop-track.track + 1) cs (option_copied c.cut.result.1)) (sym c.set.ensures)
    (goes_on_next c.args.text.now c.in-Some.text.now c.loop-track.track c.loop-track.channels c.cut.result.0.now (option_copied c.cut.result.1) c.in_ok-pair.pair on c.cut.ensures.before c.cut.ensures.behind near writes may)
