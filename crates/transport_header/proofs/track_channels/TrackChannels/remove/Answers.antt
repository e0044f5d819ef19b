use Rattle.std.proofs.Common.{◌≡◌, Some, ap, sym, ◌∙◌}
use Rattle.transport_header.specs.Tracks.{pair_at}
use Rattle.transport_header.proofs.TagTables.{removed}
use Rattle.transport_header.proofs.track_channels.TrackChannels.remove.Goals as goal

pub invariant_of-self : goal.invariant_of-self
invariant_of-self c =
    let is : pair_at c.self.inside.pairs c.args.track ≡ Some c.in-Some.pair =
    ap (λ ps. pair_at ps c.args.track) c.self.view_is ∙ sym c.pair_of.ensures.value ∙ c.in-Some.is in
    rw (c.from.ensures, c.from-in-Some.ensures) (removed c.self.inside.pairs c.self.inside.tags c.args.track c.in-Some.pair c.self.invariant c.requires is)
