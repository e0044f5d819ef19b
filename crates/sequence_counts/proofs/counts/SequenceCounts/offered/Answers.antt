use Rattle.std.proofs.Common.{◌≡◌, ◌∙◌, Some, ap, arith, subst, sym}
use Rattle.sequence_counts.specs.Counts.{Counts}
use Rattle.sequence_counts.specs.Counting.{AreCountsOf}
use Rattle.sequence_counts.proofs.Following.{after_ahead, after_another, after_behind, after_far, after_first, after_repeat}
use Rattle.sequence_counts.proofs.counts.SequenceCounts.offered.Goals as goal

pub returns-in_default : goal.returns-in_default
returns-in_default c = record {
  counts = λ events are.
      let old : Counts = record { highest = c.self.inside.highest; missing = c.self.inside.missing; late = c.self.inside.late; restarts = c.self.inside.restarts } in
      let opened : AreCountsOf events old = subst (AreCountsOf events) (sym c.self.view_is) are in
      after_first events old c.args.number c.args.ssrc opened c.in_default.is;
}

pub returns-then-highest-ssrc : goal.returns-then-highest-ssrc
returns-then-highest-ssrc c = record {
  counts = λ events are.
      let is : c.args.self.now.highest ≡ Some c.in-Some.highest = ap (λ (counts : Counts). counts.highest) (sym c.self.view_is) ∙ c.in-Some.is in
      rw c.restart.ensures (after_another events c.args.self.now c.in-Some.highest c.args.number c.args.ssrc are is c.if-highest-ssrc.true);
}

pub returns-then-distance-eq0 : goal.returns-then-distance-eq0
returns-then-distance-eq0 c = record {
  counts = λ events are.
      let is : c.args.self.now.highest ≡ Some c.in-Some.highest = ap (λ (counts : Counts). counts.highest) (sym c.self.view_is) ∙ c.in-Some.is in
      after_repeat events c.args.self.now c.in-Some.highest c.args.number c.args.ssrc are is c.if-highest-ssrc.false c.if-distance-eq0.true;
}

pub returns-then-distance-le-MOST_AHEAD : goal.returns-then-distance-le-MOST_AHEAD
returns-then-distance-le-MOST_AHEAD c = record {
  counts = λ events are.
      let old : Counts = record { highest = c.self.inside.highest; missing = c.self.inside.missing; late = c.self.inside.late; restarts = c.self.inside.restarts } in
      let opened : AreCountsOf events old = subst (AreCountsOf events) (sym c.self.view_is) are in
      rw c.saturating_add-self-inside.ensures (after_ahead events old c.in-Some.highest c.args.number c.args.ssrc opened c.in-Some.is c.if-highest-ssrc.false (omega arith) (omega arith) c.from.result c.from.ensures);
}

pub returns-then-distance : goal.returns-then-distance
returns-then-distance c = record {
  counts = λ events are.
      let old : Counts = record { highest = c.self.inside.highest; missing = c.self.inside.missing; late = c.self.inside.late; restarts = c.self.inside.restarts } in
      let opened : AreCountsOf events old = subst (AreCountsOf events) (sym c.self.view_is) are in
      rw c.saturating_add-self-inside-then-distance.ensures (after_behind events old c.in-Some.highest c.args.number c.args.ssrc opened c.in-Some.is c.if-highest-ssrc.false (omega arith));
}

pub returns-else-distance : goal.returns-else-distance
returns-else-distance c = record {
  counts = λ events are.
      let is : c.args.self.now.highest ≡ Some c.in-Some.highest = ap (λ (counts : Counts). counts.highest) (sym c.self.view_is) ∙ c.in-Some.is in
      rw c.restart-else-distance.ensures (after_far events c.args.self.now c.in-Some.highest c.args.number c.args.ssrc are is c.if-highest-ssrc.false (omega arith) (omega arith));
}
