use Rattle.std.proofs.Common.{◌≡◌, ℕ, refl, subst, rules}
use Rattle.session_state.specs.Lookups.{IsSession}
use Rattle.session_state.specs.declared.session.State.TheVariants.{Recording}
use Rattle.relay_talk.proofs.Fetching.{none_records, not_records, records, relayed, skipped, skipped_unfed}
use Rattle.relay_talk.proofs.talker.Talker.next_message.Goals.{in-Some+then-eq+in_default-publishing, in-Some+else-eq, in_default}
use Rattle.relay_talk.proofs.talker.Talker.next_message.Goals as goal

pub returns-in-Some-publishing-clause-takes : goal.returns-in-Some-publishing-clause-takes
returns-in-Some-publishing-clause-takes g c =
    let is_session = subst (λ (seats : ℕ). IsSession seats 1 c.args.self.now.book.history c.in-Some.session.now) c.requires.seats (c.in-Some.ensures.open c.requires.open) in
    let state : c.in-Some.session.now.state ≡ Recording = search rules in
    rw c.in-Some-publishing.is
    (relayed g.S.Source.incoming g.S.Source.failed c.args.self.now.book.history c.in-Some.session.now c.args.intake.now c.relay_in-report.new.intake c.in-Some-publishing.feed c.relay_in-report.new.feed _ _ _ _ c.relay_in-report.result
    c.args.self.now.heard c.heard_after-self.result (records is_session state) is_session c.relay_in-report.ensures.relays (c.heard_after-self.ensures.none, c.heard_after-self.ensures.same))

pub returns-clause-takes : goal.returns-clause-takes
returns-clause-takes g c = elim c.match-session_of.branch [
  | in-Some+then-eq+in_default-publishing w ↦
      rw w.self-is (skipped_unfed g.S.Source.incoming g.S.Source.failed c.args.self.now.book.history c.args.intake.now c.skip_frames.new.intake c.args.self.now.publishing c.args.self.now.heard c.skip_frames.new.heard c.skip_frames.result
      w.in_default-publishing.is (rw w.self-is at c.skip_frames.ensures.fetches))
  | in-Some+else-eq w ↦
      let is_session = subst (λ (seats : ℕ). IsSession seats 1 c.args.self.now.book.history w.in-Some.session.now) c.requires.seats (w.in-Some.ensures.open c.requires.open) in
      let other : w.in-Some.session.now.state ≡ Recording → ⊥ = search rules in
      rw w.self-is (skipped g.S.Source.incoming g.S.Source.failed c.args.self.now.book.history c.args.intake.now c.skip_frames.new.intake c.args.self.now.publishing c.args.self.now.heard c.skip_frames.new.heard c.skip_frames.result
      (not_records is_session other) (rw w.self-is at c.skip_frames.ensures.fetches))
  | in_default w ↦
      rw w.self-is (skipped g.S.Source.incoming g.S.Source.failed c.args.self.now.book.history c.args.intake.now c.skip_frames.new.intake c.args.self.now.publishing c.args.self.now.heard c.skip_frames.new.heard c.skip_frames.result
      (none_records (w.in_default.ensures.open c.requires.open)) (rw w.self-is at c.skip_frames.ensures.fetches))
]

pub returns-in-Some-publishing-clause-published : goal.returns-in-Some-publishing-clause-published
returns-in-Some-publishing-clause-published g c = λ recording.
    rw c.in-Some-publishing.is
    (record {
      session = c.in-Some.session.now;
      is_session = subst (λ (seats : ℕ). IsSession seats 1 c.args.self.now.book.history c.in-Some.session.now) c.requires.seats (c.in-Some.ensures.open c.requires.open);
      left = c.relay_in-report.new.feed;
      left_is = refl;
      report = c.relay_in-report.result;
      stop_is = refl;
      old_points = _;
      new_points = _;
      relays = c.relay_in-report.ensures.relays;
    })
