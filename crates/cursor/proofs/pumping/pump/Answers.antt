use Rattle.std.proofs.Common.{[], ◌∷◌, ◌++◌, ◌≡◌, append-nil, refl, sym, ◌∙◌, ap, inl, inr, arith}
use Rattle.std.proofs.lemmas.Grind.{common_steps}
use Rattle.cursor.proofs.Counted.{counted_run}
use Rattle.cursor.proofs.Answered.{one_more, last_one}
use Rattle.cursor.proofs.pumping.pump.Goals as goal
use Rattle.cursor.proofs.pumping.pump.Goals.{in-Got, in-Lost}

pub loop-takes-init : goal.loop-takes-init
loop-takes-init g c = record { answers = ([], refl, refl, tt, sym (append-nil _)); same = refl }

pub loop-takes-preserved : goal.loop-takes-preserved
loop-takes-preserved g c =
    let same = c.make_room.ensures.same in
    let bytes = c.take_into.ensures.same ∙ c.loop-takes.invariant.same in
    elim c.match-take_into.branch [
      | in-Got w ↦
          let step = rw w.in-Got.is at c.take_into.ensures.gives in
          let pushed : w.push.new.self.items ≡ c.make_room.new.out.items ++ w.in-Got.packet ∷ [] = grind (arith, common_steps) in
          record {
            answers = rw w.out-is (one_more _ _ _ _ _ _ _ _ _ c.loop-takes.invariant.answers step tt (pushed ∙ ap (λ ps. ps ++ w.in-Got.packet ∷ []) same));
            same = bytes;
          }
      | in-Lost w ↦
          let step = rw w.in-Lost.is at c.take_into.ensures.gives in
          record { answers = rw w.out-is (one_more _ _ _ _ _ _ _ _ _ c.loop-takes.invariant.answers step tt (same ∙ sym (append-nil _))); same = bytes }
    ]

pub returns-in_default-clause-stopped : goal.returns-in_default-clause-stopped
returns-in_default-clause-stopped g c =
    let was = c.loop-takes.invariant.answers in
    (was.0, was.1, was.3, was.2, c.loop-takes-test.true, c.make_room.ensures.same ∙ was.4)

pub returns-in-Empty-clause-done : goal.returns-in-Empty-clause-done
returns-in-Empty-clause-done g c =
    counted_run _ _ g.met.T.Tap.counts _ _ _ _ _ _ c.account.ensures
    (rw c.make_room.ensures.same
    (elim c.in-Empty.is [
      | inl e ↦ let step = rw e at c.take_into.ensures.gives in last_one _ _ _ _ _ _ _ _ _ c.loop-takes.invariant.answers step tt refl c.loop-takes-test.true
      | inr e ↦ let step = rw e at c.take_into.ensures.gives in last_one _ _ _ _ _ _ _ _ _ c.loop-takes.invariant.answers step tt refl c.loop-takes-test.true
    ]))

pub returns-clause-done : goal.returns-clause-done
returns-clause-done g c =
    let was = c.loop-takes.invariant.answers in
    let all = c.loop-takes.auto.takes-end in
    let end = c.loop-takes-test.false in
    counted_run _ _ g.met.T.Tap.counts _ _ _ _ _ _ c.account-2.ensures (was.0, was.1, inl (was.2 ∙ omega arith, was.3), was.4)
