use Rattle.std.proofs.Common.{◌≡◌, [], ◌∷◌, ◌++◌, ◌+◌, ℕ, List, Some, subst, sym, ap, ◌∙◌, length, length-append, arith}
use Rattle.transport_header.specs.Tracks.{pair_at}
use Rattle.transport_header.proofs.OtherTracks.{AreOthersBelow, passes_own, passes_none, puts, are_others}
use Rattle.transport_header.proofs.track_channels.TrackChannels.others.Goals as goal
use Rattle.transport_header.proofs.track_channels.TrackChannels.others.Goals.{then-other-track, else-other-track}

pub loop-other-preserved-in_default : goal.loop-other-preserved-in_default
loop-other-preserved-in_default c = record {
  tracks = λ _. c.pair_of.ensures.tracks;
  few = omega arith;
  channels = passes_none _ _ _ _ c.loop-other.invariant.channels (sym c.pair_of.ensures.value ∙ c.in_default.is);
}

pub loop-other-preserved : goal.loop-other-preserved
loop-other-preserved c =
    let pairs = c.args.self.now in
    let track = c.args.track in
    let other = c.loop-other.other in
    let is : pair_at pairs other ≡ Some c.in-Some.pair = sym c.pair_of.ensures.value ∙ c.in-Some.is in
    elim c.if-other-track.branch [
      | then-other-track w ↦
          let two : c.if-other-track.others ≡ (c.loop-other.others ++ c.in-Some.pair.first ∷ []) ++ c.in-Some.pair.second ∷ [] =
          w.others-is ∙ w.insert-then-other-track.ensures ∙ ap (λ (l : List ℕ). l ++ c.in-Some.pair.second ∷ []) w.insert.ensures in
          record {
            tracks = λ _. c.pair_of.ensures.tracks;
            few = omega (arith, simp length-append at (ap length two));
            channels = subst (AreOthersBelow pairs track (other + 1)) (sym two) (puts pairs track other c.loop-other.others c.loop-other.invariant.channels c.in-Some.pair is w.if-other-track.true);
          }
      | else-other-track w ↦
          record {
            tracks = λ _. c.pair_of.ensures.tracks;
            few = rw w.others-is (omega arith);
            channels = rw w.others-is (passes_own pairs track other c.loop-other.others c.loop-other.invariant.channels w.if-other-track.false);
          }
    ]

pub returns : goal.returns
returns c =
    let long : length c.args.self.now ≡ 16 = c.loop-other.invariant.tracks (omega arith) in
    let end : c.loop-other.other ≡ 16 = omega arith in
    are_others c.args.self.now c.args.track c.loop-other.others long (subst (λ n. AreOthersBelow c.args.self.now c.args.track n c.loop-other.others) end c.loop-other.invariant.channels)
