use Rattle.std.proofs.Common.{◌≡◌, ◌<◌, None, Some, List, Option, length, set, ap, sym, subst, ◌∙◌, arith}
use Rattle.std.proofs.lemmas.List.{get_or-set_same, length-set, set-set}
use Rattle.transport_header.specs.declared.spec.ChannelPair.{ChannelPair}
use Rattle.transport_header.specs.Tracks.{pair_at, MayHave}
use Rattle.transport_header.proofs.TagTables.{given, may_still}
use Rattle.transport_header.proofs.track_channels.TrackChannels.set.Goals as goal

pub invariant_of-self : goal.invariant_of-self
invariant_of-self c =
    let track = c.args.track in
    let was : c.self.inside.pairs ≡ set c.args.self.now track None = c.self.view_is ∙ c.remove.ensures in
    let long : track < length c.args.self.now = omega (arith, c.self.invariant.tracks, ap length was, length-set c.args.self.now track None, c.requires.track) in
    let is_none : pair_at c.self.inside.pairs track ≡ None = ap (λ ps. pair_at ps track) was ∙ get_or-set_same c.args.self.now track None None long in
    let May : List (Option ChannelPair) → Type 0 = λ ps. MayHave ps track c.args.pair in
    let may = subst May (sym was) (may_still c.args.self.now track c.args.pair c.requires.free) in
    let first_fits : c.args.pair.first < 256 = omega arith in
    let second_fits : c.args.pair.second < 256 = omega arith in
    rw (c.from.ensures, c.from-2.ensures)
    (given c.self.inside.pairs c.self.inside.tags track c.args.pair c.self.invariant c.requires.track is_none may first_fits second_fits)

pub returns : goal.returns
returns c = ap (λ ps. set ps c.args.track (Some c.args.pair)) (c.self.view_is ∙ c.remove.ensures) ∙ set-set c.args.self.now c.args.track None (Some c.args.pair)
