use Rattle.std.proofs.Common.{◌≡◌, ◌⊎◌, [], ◌∷◌, List, inr, refl, sym, ap, subst, ◌∙◌, append-nil, arith}
use Rattle.std.proofs.KnownBytes.{Consumes-nil}
use Rattle.rtsp_message.specs.declared.unit.Unit.{Unit as StreamUnit}
use Rattle.rtsp_message.specs.Intakes.{IntakeState, HandsOut, IsOver, weight}
use Rattle.rtsp_message.specs.IntakeFields.{state_of}
use Rattle.rtsp_message.proofs.HandingOut.{holds_more, HandsOut-trans}
use Rattle.rtsp_message.proofs.Prompting.{SoFar, out_so_far, prompt_so_far, same_source, step_prompt, step_takes}
use Rattle.rtsp_message.proofs.intake.Intake.next.Given.{Over}
use Rattle.rtsp_message.proofs.intake.Intake.next.Goals.{After-next}
use Rattle.rtsp_message.proofs.intake.Intake.next.Goals as goal

module _ (g : Over) where
  -- no unit is handed out before this turn of the loop
  abbrev IsSoFar : (start now : IntakeState g.row.S.Denot) → Type 0
  IsSoFar start now = (now ≡ start) ⊎ SoFar g.S.Source.gives g.S.Source.incoming start now

  so_far : (c : After-next g) → IsSoFar c.args.self.now (state_of c.self.inside)
  so_far c = subst (IsSoFar c.args.self.now) (sym c.self.view_is) c.loop-unit.invariant.0

  -- and no unit was queued in it
  before_reading : (c : After-next g) → (same : state_of c.self.inside ≡ state_of (record c.self.inside { units = c.next.new.self })) → IsSoFar c.args.self.now (state_of (record c.self.inside { units = c.next.new.self }))
  before_reading c same = subst (IsSoFar c.args.self.now) same (so_far c)

pub returns-in-Some-clause-hands_out : goal.returns-in-Some-clause-hands_out
returns-in-Some-clause-hands_out g c =
    let incoming = g.S.Source.incoming in
    let old = state_of c.self.inside in
    let new = state_of (record c.self.inside { units = c.next.new.self }) in
    let start = out_so_far g.S.Source.gives incoming c.args.self.now old (so_far g (goal.at.returns-in-Some-clause-hands_out g c).After-next) c.self.invariant.settled in
    HandsOut-trans incoming c.args.self.now old new [] (c.in-Some.unit ∷ []) start (holds_more incoming old new [] (c.in-Some.unit ∷ []) (Consumes-nil (incoming c.self.inside.source)) (sym (append-nil old.held)) refl c.self.invariant.settled c.in-Some.ensures.items)

pub returns-in-Some-clause-prompt : goal.returns-in-Some-clause-prompt
returns-in-Some-clause-prompt g c =
    let old = state_of c.self.inside in
    let new = state_of (record c.self.inside { units = c.next.new.self }) in
    same_source g.S.Source.gives c.args.self.now old new refl (prompt_so_far g.S.Source.gives g.S.Source.incoming c.args.self.now old (so_far g (goal.at.returns-in-Some-clause-prompt g c).After-next))

pub returns-in-Some-read_on-clause-hands_out : goal.returns-in-Some-read_on-clause-hands_out
returns-in-Some-read_on-clause-hands_out g c =
    let incoming = g.S.Source.incoming in
    let mid = state_of (record c.self.inside { units = c.next.new.self }) in
    let same : state_of c.self.inside ≡ mid = ap (λ (q : List StreamUnit). record (state_of c.self.inside) { queue = q }) c.in_default.ensures.items in
    let start = out_so_far g.S.Source.gives incoming c.args.self.now mid (before_reading g (goal.at.returns-in-Some-read_on-clause-hands_out g c).After-next same) c.self.invariant.settled in
    let both = HandsOut-trans incoming c.args.self.now mid c.read_on.new.self [] [] start c.read_on.ensures.hands_out in
    subst (HandsOut incoming c.args.self.now c.read_on.new.self) (sym c.in-Some-read_on.ensures.no_unit) both

pub returns-in-Some-read_on-clause-prompt : goal.returns-in-Some-read_on-clause-prompt
returns-in-Some-read_on-clause-prompt g c =
    let mid = state_of (record c.self.inside { units = c.next.new.self }) in
    let same : state_of c.self.inside ≡ mid = ap (λ (q : List StreamUnit). record (state_of c.self.inside) { queue = q }) c.in_default.ensures.items in
    step_prompt g.S.Source.gives g.S.Source.incoming c.args.self.now mid c.read_on.new.self (before_reading g (goal.at.returns-in-Some-read_on-clause-prompt g c).After-next same) c.self.invariant.settled c.read_on.ensures.once

pub loop-unit-preserved : goal.loop-unit-preserved
loop-unit-preserved g c =
    let incoming = g.S.Source.incoming in
    let gives = g.S.Source.gives in
    let start = c.args.self.now in
    let new = c.read_on.new.self in
    let mid = state_of (record c.self.inside { units = c.next.new.self }) in
    let same : state_of c.self.inside ≡ mid = ap (λ (q : List StreamUnit). record (state_of c.self.inside) { queue = q }) c.in_default.ensures.items in
    let before = before_reading g (goal.at.loop-unit-preserved g c).After-next same in (
      inr (record {
        out = HandsOut-trans incoming start mid new [] [] (out_so_far gives incoming start mid before c.self.invariant.settled) c.read_on.ensures.hands_out;
        takes = step_takes gives incoming start mid new before c.in_default-read_on.ensures.takes;
        prompt = step_prompt gives incoming start mid new before c.self.invariant.settled c.read_on.ensures.once;
      }),
      λ answer over. absurd ((c.in_default-read_on.ensures.for_good answer (subst (λ x. IsOver g.S.Source.failed x answer) (sym c.self.view_is ∙ same) (c.loop-unit.invariant.1 answer over))).1),
      omega (arith, c.read_on.ensures.ends, c.loop-unit.invariant.2, ap (weight g.S.Source.bound) (sym c.self.view_is ∙ same)),
    )
