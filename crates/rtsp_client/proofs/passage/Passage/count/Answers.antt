use Rattle.std.proofs.Common.{◌≡◌, subst, arith, slice_set, ℕ, ◌*◌}
use Rattle.sequence_counts.specs.Header.{sequence_number_of, source_of}
use Rattle.sequence_counts.specs.Tracks.{CountsPacket, at, counts_of}
use Rattle.rtsp_client.proofs.passage.Passage.count.Goals as goal

-- the track of the packet is the one whose tag comes on the channel
pub returns-then-tag-eq0-clause-counted : goal.returns-then-tag-eq0-clause-counted
returns-then-tag-eq0-clause-counted c track below on header =
    let tag : 2 * track ≡ c.in-Some.tag = c.in-Some.ensures.1 (2 * track) on in
    let half : c.from.result ≡ track = grind (arith, tag, c.from.ensures) in
    subst
    (λ (t : ℕ). CountsPacket (counts_of (at c.args.self.now.counts t)) (counts_of (at c.offered.new.self t)) (sequence_number_of c.args.payload.now) (source_of c.args.payload.now)
    × (c.offered.new.self ≡ slice_set c.args.self.now.counts t (at c.offered.new.self t)))
    half
    (c.offered.ensures.counted header (omega (arith, below, half)), c.offered.ensures.others)
