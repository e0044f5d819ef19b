use Rattle.std.proofs.Common.{arith, rules}
use borrow.Author.Tests.{tests}
use Rattle.std.proofs.lemmas.Iterator.{YieldsList-from_range, items_from_collect}
use Rattle.std.proofs.lemmas.Iterator.Consumers.{YieldsList-from_filter_map}
use Rattle.status_json.specs.Tracks.{track_in, tracks_in}
use Rattle.status_json.proofs.tracks.counted_tracks.Goals as goal

pub returns : goal.returns
unfolding tracks_in
returns c =
    items_from_collect _ c.collect.ensures.ran
    (YieldsList-from_filter_map _ (track_in c.args.tracks.now) (YieldsList-from_range 0 16 16 (cc) (omega arith)) c.filter_map.ensures.closure (λ x r q k. search (rules, tests)))
