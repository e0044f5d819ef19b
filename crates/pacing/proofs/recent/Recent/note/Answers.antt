use Rattle.std.proofs.Common.{◌≡◌, ◌/◌, ap, arith, length, nat_le, refl, rules, vec_capacity}
use Rattle.std.proofs.lemmas.Bool.{iff_false}
use Rattle.std.proofs.lemmas.Fn.{filter_same}
use Rattle.pacing.specs.declared.recent.Mark.{Mark}
use Rattle.pacing.specs.Recent.{AreMarks}
use Rattle.pacing.proofs.Remembering.{few_remembered, marks_more, next_tenth, remembered, same_tenth}
use Rattle.pacing.proofs.recent.Recent.note.Goals as goal

pub returns-then-has_begun : goal.returns-then-has_begun
returns-then-has_begun c = record {
  stands = λ moments stands order all.
      same_tenth moments c.args.self.now c.args.now stands order (c.has_begun.ensures.0 c.if-has_begun.true);
}

pub push_reserved-requires : goal.push_reserved-requires
push_reserved-requires c =
    let kept = filter_same _ (λ (mark : Mark). nat_le c.saturating_sub-oldest.result mark.tenth) _ (λ x b f' k. search rules) _ _ c.retain.ensures.filtered in
    let stay : c.retain.new.self.items ≡ remembered c.saturating_sub-oldest.result c.args.self.now = rw (← c.self.view_is) kept in
    let are : AreMarks c.args.self.now (vec_capacity c.self.inside.marks) = rw (← c.self.view_is) c.self.invariant in
    let few = few_remembered c.args.self.now (c.args.now / 100) c.saturating_sub-oldest.result (vec_capacity c.self.inside.marks) are (iff_false c.has_begun.ensures c.if-has_begun.false) (omega arith) in
    omega (arith, ap length stay)

pub invariant_of-self : goal.invariant_of-self
invariant_of-self c =
    let kept = filter_same _ (λ (mark : Mark). nat_le c.saturating_sub-oldest.result mark.tenth) _ (λ x b f' k. search rules) _ _ c.retain.ensures.filtered in
    let stay : c.retain.new.self.items ≡ remembered c.saturating_sub-oldest.result c.args.self.now = rw (← c.self.view_is) kept in
    let are : AreMarks c.args.self.now (vec_capacity c.self.inside.marks) = rw (← c.self.view_is) c.self.invariant in
    let pushed = rw stay at c.push_reserved.ensures.items in
    let more = marks_more c.args.self.now c.push_reserved.new.self.items _ (c.args.now / 100) c.saturating_sub-oldest.result (vec_capacity c.self.inside.marks) are (iff_false c.has_begun.ensures c.if-has_begun.false) (omega arith) pushed refl in
    rw (c.push_reserved.ensures.capacity, c.retain.ensures.capacity) more

pub returns : goal.returns
returns c = record {
  stands = λ moments stands order all.
      let kept = filter_same _ (λ (mark : Mark). nat_le c.saturating_sub-oldest.result mark.tenth) _ (λ x b f' k. search rules) _ _ c.retain.ensures.filtered in
      let stay : c.retain.new.self.items ≡ remembered c.saturating_sub-oldest.result c.args.self.now = rw (← c.self.view_is) kept in
      let pushed = rw stay at c.push_reserved.ensures.items in
      next_tenth moments c.args.self.now c.push_reserved.new.self.items _ c.args.now c.saturating_sub-oldest.result stands order (omega arith) pushed refl all;
}
