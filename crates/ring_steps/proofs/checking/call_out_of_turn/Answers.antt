use Rattle.std.proofs.Common.{ℕ, sym, ◌∙◌, arith, below_more}
use Rattle.std.proofs.lemmas.Bool.{false≢true}
use Rattle.std.proofs.lemmas.Option.{slice_get_within}
use Rattle.ring_steps.specs.declared.calls.SeatCall.TheVariants.{Attach}
use Rattle.ring_steps.specs.Scripts.{IsOutOfTurn}
use Rattle.ring_steps.proofs.Checks.{attached_more, misplaced_at}
use Rattle.ring_steps.proofs.checking.call_out_of_turn.Goals as goal

pub loop-i-preserved : goal.loop-i-preserved
loop-i-preserved c =
    let calls = c.args.calls.now in
    let i = c.loop-i.i in (
      rw (c.attaches-attached.ensures, c.loop-i.invariant.0) (sym (attached_more calls i (Attach 0) c.loop-i-test.true)),
      below_more (λ (n : ℕ). IsOutOfTurn calls n → ⊥) i c.loop-i.invariant.1
          (λ bad. false≢true (sym c.if-is_misplaced.false ∙ c.is_misplaced.ensures.1 (rw c.loop-i.invariant.0 (misplaced_at calls i (Attach 0) bad)))),
    )

pub returns : goal.returns
returns c n bad =
    let within = slice_get_within c.args.calls.now n bad.call bad.there in
    let past = c.loop-i-test.false in
    c.loop-i.invariant.1 n (omega arith) bad
