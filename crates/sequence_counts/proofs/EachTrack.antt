-- Lists with an element for each track.
use Rattle.std.proofs.Common.{◌≡◌, ◌∙◌, sym, arith, ℕ, ◌+◌, ◌<◌, Option, None, List, map, length, slice_index_or}
use Rattle.std.specs.List.{range_with_len}
use Rattle.std.proofs.lemmas.List.{ext_get_or}
use Rattle.std.proofs.lemmas.List.FromFn.{length-map-range_with_len, get_or-map-range_with_len}
use Rattle.sequence_counts.specs.Counts.{Counts}
use Rattle.sequence_counts.specs.Tracks.{AreEach, Tracks, each_track}

pub each_of : (new : Tracks) (counts : (track : ℕ) → Option Counts) → AreEach new counts → new ≡ each_track counts
unfolding each_track
each_of new counts each =
    ext_get_or None new (map counts (range_with_len 0 16)) (each.long ∙ sym (length-map-range_with_len counts 0 16))
    (λ i lt. let below : i < 16 = omega (arith, each.long, lt) in
    let place : 0 + i ≡ i = omega arith in
    each.at i below ∙ sym (get_or-map-range_with_len counts 0 16 i i None below place))
