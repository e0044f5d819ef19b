use Rattle.std.proofs.Common.{◌≡◌, ◌+◌, ◌-◌, ℕ, List, length, take, drop, slice_index, ap, subst, ◌∙◌, arith}
use Rattle.std.proofs.lemmas.List.{take_rest}
use Rattle.rtsp_client.specs.Clients.{State}
use Rattle.pull_session.specs.Blocks.{frame_in}
use Rattle.pull_session.specs.Passing.{CountsFrame}
use Rattle.pull_session.specs.Tries.{Try}
use Rattle.pull_session.proofs.session.PullSession.frame_fate.Goals as goal

pub returns-clause-counts : goal.returns-clause-counts
returns-clause-counts c =
    let at = c.args.at in
    let size = c.args.size in
    let free = c.args.self.now.target.waiting.free in
    let new = c.frame.new.self.passage in
    let client = c.self.inside.client in
    let bytes = take (at + size - at) (drop at c.free.result.now) in
    let free_is : c.free.result.now ≡ free = c.free.ensures ∙ ap (λ (t : Try). t.target.waiting.free) c.self.view_is in
    let count : at + size - at ≡ size = omega arith in
    let bytes_are : bytes ≡ take size (drop at free) =
    ap (λ (n : ℕ). take n (drop at c.free.result.now)) count ∙ ap (λ (l : List ℕ). take size (drop at l)) free_is in
    let counts : CountsFrame (record { channel = slice_index bytes 1; payload = take (length bytes - 4) (drop 4 bytes) }) c.frame.result client new = record {
      is_fate = c.frame.ensures.fate;
      counted = c.frame.ensures.account;
      packet = c.frame.ensures.counted;
      rtcp = c.frame.ensures.rtcp;
      no_packet = c.frame.ensures.no_packet;
      dropped = c.frame.ensures.dropped;
      map = c.frame.ensures.map;
      tracks = c.frame.ensures.tracks;
    } in
    subst (λ (client : State). CountsFrame (frame_in (take size (drop at free))) c.frame.result client new) (ap (λ (t : Try). t.client) c.self.view_is)
    (subst (λ (l : List ℕ). CountsFrame (frame_in l) c.frame.result client new) bytes_are
    (subst (λ (l : List ℕ). CountsFrame (record { channel = slice_index bytes 1; payload = l }) c.frame.result client new) (take_rest bytes 4) counts))
