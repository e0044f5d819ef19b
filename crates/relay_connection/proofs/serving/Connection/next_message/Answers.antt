use Rattle.std.proofs.Common.{refl, ap, ◌+◌, ◌∙◌, ℕ}
use Rattle.relay_accounts.specs.Counting.{came_in}
use Rattle.relay_connection.proofs.serving.Connection.next_message.Goals as goal

pub returns-in-Some-Some-clause-published : goal.returns-in-Some-Some-clause-published
returns-in-Some-Some-clause-published g c =
    let relays = c.publish_frames-report.ensures.2.relays in
    rw c.in-Some-Some.is-1 (λ recording. rw c.in-Some-Some.is-0
    (record {
      left = c.publish_frames-report.new.feed;
      left_is = refl;
      report = c.publish_frames-report.result;
      stop_is = refl;
      counted = c.add_in.ensures.counts;
      old_points = _;
      new_points = _;
      relays = relays;
      closes = λ few. c.add_in.ensures.closes (rw relays.counts.all few) ∙ ap (λ (n : ℕ). came_in c.args.self.now.counts + n) relays.counts.all;
    }))
