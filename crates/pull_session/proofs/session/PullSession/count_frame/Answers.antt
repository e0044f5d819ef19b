use Rattle.std.proofs.Common.{ℕ, List, ap, subst}
use Rattle.rtsp_client.specs.Clients.{State}
use Rattle.pull_session.specs.Passing.{CountsFrame}
use Rattle.pull_session.specs.Tries.{Try}
use Rattle.pull_session.proofs.session.PullSession.count_frame.Goals as goal

pub returns-clause-counts : goal.returns-clause-counts
returns-clause-counts c =
    let channel = c.args.frame.now.channel in
    let new = c.frame.new.self.passage in
    let client = c.self.inside.client in
    let counts : CountsFrame (record { channel = channel; payload = c.as_slice.result.now }) c.frame.result client new = record {
      is_fate = c.frame.ensures.fate;
      counted = c.frame.ensures.account;
      packet = c.frame.ensures.counted;
      rtcp = c.frame.ensures.rtcp;
      no_packet = c.frame.ensures.no_packet;
      dropped = c.frame.ensures.dropped;
      map = c.frame.ensures.map;
      tracks = c.frame.ensures.tracks;
    } in
    subst (λ (client : State). CountsFrame c.args.frame.now c.frame.result client new) (ap (λ (t : Try). t.client) c.self.view_is)
    (subst (λ (l : List ℕ). CountsFrame (record { channel = channel; payload = l }) c.frame.result client new) c.as_slice.ensures counts)
