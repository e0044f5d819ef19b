use Rattle.std.proofs.Common.{◌≡◌, ◌+◌, ℕ, List, [], ◌∷◌, ◌++◌, take, drop, slice_index, refl, sym, ap, subst, ◌∙◌, arith, append-nil, append_assoc, length-drop, length-take}
use Rattle.std.proofs.lemmas.List.{drop-drop, take_rest}
use Rattle.interleaved.specs.declared.frame.Frame.{Frame as Block}
use Rattle.interleaved.specs.Frame.{FrameBegins}
use Rattle.pull_session.specs.Blocks.{AreFrames, frame_in}
use Rattle.pull_session.specs.Passing.{pass_state}
use Rattle.pull_session.specs.Tries.{Try}
use Rattle.pull_session.specs.declared.line.Line.{Line}
use Rattle.pull_session.proofs.Blocks.{ahead, at_end, frame_begins, frame_first, frame_is, one_size, place_within, takes_next}
use Rattle.pull_session.proofs.session.PullSession.pass_frames.Goals as goal

pub loop-from-init : goal.loop-from-init
loop-from-init c = record {
  within = omega arith;
  rest = refl;
  done = [];
  left = c.requires.frames.0;
  all = c.requires.frames.1;
  ahead = c.requires.frames.1;
  takes = refl;
  source = refl;
  target = refl;
  mount = refl;
}

pub slice_bounds-frame_at-count : goal.slice_bounds-frame_at-count
slice_bounds-frame_at-count c =
    let bytes = c.args.self.now.target.waiting.free in
    let free_is : c.free.result.now ≡ c.loop-from.self.target.waiting.free = c.free.ensures ∙ ap (λ (t : Try). t.target.waiting.free) c.self.view_is in
    place_within bytes c.free.result.now c.loop-from.at c.loop-from.from c.args.len (ap (drop c.loop-from.at) free_is ∙ c.loop-from.invariant.rest)
    (omega (arith, c.loop-from-test.true)) c.requires.within

pub slice_bounds-frame_at-start : goal.slice_bounds-frame_at-start
slice_bounds-frame_at-start c =
    let bytes = c.args.self.now.target.waiting.free in
    let free_is : c.free.result.now ≡ c.loop-from.self.target.waiting.free = c.free.ensures ∙ ap (λ (t : Try). t.target.waiting.free) c.self.view_is in
    place_within bytes c.free.result.now c.loop-from.at c.loop-from.from c.args.len (ap (drop c.loop-from.at) free_is ∙ c.loop-from.invariant.rest)
    (omega (arith, c.loop-from-test.true)) c.requires.within

pub frame_at-requires : goal.frame_at-requires
frame_at-requires c = λ some.
    let bytes = c.args.self.now.target.waiting.free in
    let free_is : c.free.result.now ≡ c.loop-from.self.target.waiting.free = c.free.ensures ∙ ap (λ (t : Try). t.target.waiting.free) c.self.view_is in
    let a = ahead bytes c.loop-from.from c.args.len c.loop-from.invariant.left (omega (arith, c.loop-from-test.true)) c.requires.within c.loop-from.invariant.ahead in
    ap (λ (l : List ℕ). slice_index l 0) (take_rest c.free.result.now c.loop-from.at ∙ ap (drop c.loop-from.at) free_is ∙ c.loop-from.invariant.rest)
    ∙ frame_first bytes c.loop-from.from c.args.len c.loop-from.invariant.left a

pub overflow_add-from : goal.overflow_add-from
overflow_add-from c =
    let bytes = c.args.self.now.target.waiting.free in
    let from = c.loop-from.from in
    let free_is : c.free.result.now ≡ c.loop-from.self.target.waiting.free = c.free.ensures ∙ ap (λ (t : Try). t.target.waiting.free) c.self.view_is in
    let a = ahead bytes from c.args.len c.loop-from.invariant.left (omega (arith, c.loop-from-test.true)) c.requires.within c.loop-from.invariant.ahead in
    let place = take_rest c.free.result.now c.loop-from.at ∙ ap (drop c.loop-from.at) free_is ∙ c.loop-from.invariant.rest in
    let begins = subst (λ (l : List ℕ). FrameBegins l c.in-Whole.size) place c.in-Whole.ensures.stands in
    let same = one_size (drop from bytes) c.in-Whole.size a.size begins (frame_begins bytes from c.args.len c.loop-from.invariant.left a) in
    omega (arith, a.within, same, c.ranges.len.fits)

pub loop-from-preserved : goal.loop-from-preserved
loop-from-preserved c =
    let bytes = c.args.self.now.target.waiting.free in
    let free = c.loop-from.self.target.waiting.free in
    let from = c.loop-from.from in
    let at = c.loop-from.at in
    let size = c.in-Whole.size in
    let before = c.loop-from.invariant in
    let free_is : c.free.result.now ≡ free = c.free.ensures ∙ ap (λ (t : Try). t.target.waiting.free) c.self.view_is in
    let a = ahead bytes from c.args.len before.left (omega (arith, c.loop-from-test.true)) c.requires.within before.ahead in
    let place = take_rest c.free.result.now at ∙ ap (drop at) free_is ∙ before.rest in
    let begins = subst (λ (l : List ℕ). FrameBegins l size) place c.in-Whole.ensures.stands in
    let same : size ≡ a.size = one_size (drop from bytes) size a.size begins (frame_begins bytes from c.args.len before.left a) in
    let bytes_are : take size (drop at free) ≡ take a.size (drop from bytes) =
    ap (take size) before.rest ∙ ap (λ (n : ℕ). take n (drop from bytes)) same in
    let is = frame_is (take a.size (drop from bytes)) a.frame a.is in
    record {
      within = omega (arith, a.within, same);
      rest = c.pass_frame-at.ensures.next ∙ sym (drop-drop size at free) ∙ ap (drop size) before.rest ∙ drop-drop size from bytes;
      done = before.done ++ a.frame ∷ [];
      left = a.others;
      all = subst (λ (l : List Block). AreFrames (take c.args.len bytes) l) (ap (λ (l : List Block). before.done ++ l) a.parts ∙ sym (append_assoc before.done (a.frame ∷ []) a.others)) before.all;
      ahead = subst (λ (n : ℕ). AreFrames (drop (from + n) (take c.args.len bytes)) a.others) (sym same) a.next;
      takes = takes_next before.done a.frame (take size (drop at free)) c.args.now (pass_state c.args.self.now) (pass_state c.loop-from.self) (pass_state c.pass_frame-at.new.self) (ap frame_in bytes_are ∙ is) before.takes c.pass_frame-at.ensures.taken;
      source = c.pass_frame-at.ensures.source ∙ before.source;
      target = c.pass_frame-at.ensures.target
          ∙ ap (λ (l : Line). record l { waiting = c.pass_frame-at.new.self.target.waiting }) before.target;
      mount = c.pass_frame-at.ensures.mount ∙ before.mount;
    }

pub returns-after-loop-from-clause-takes : goal.returns-after-loop-from-clause-takes
returns-after-loop-from-clause-takes c =
    let bytes = c.args.self.now.target.waiting.free in
    let last = c.loop-from.invariant in
    let cut = drop c.loop-from.from (take c.args.len bytes) in
    let none = at_end cut last.left (omega (arith, c.loop-from-test.false, last.within, c.requires.within, length-drop c.loop-from.from (take c.args.len bytes), length-take c.args.len bytes)) last.ahead in
    (last.done, subst (λ (l : List Block). AreFrames (take c.args.len bytes) l) (ap (λ (l : List Block). last.done ++ l) none ∙ append-nil last.done) last.all, last.takes)

pub returns-in_default-clause-takes : goal.returns-in_default-clause-takes
returns-in_default-clause-takes c =
    let bytes = c.args.self.now.target.waiting.free in
    let from = c.loop-from.from in
    let last = c.loop-from.invariant in
    let free_is : c.free.result.now ≡ c.loop-from.self.target.waiting.free = c.free.ensures ∙ ap (λ (t : Try). t.target.waiting.free) c.self.view_is in
    let a = ahead bytes from c.args.len last.left (omega (arith, c.loop-from-test.true)) c.requires.within last.ahead in
    let place = take_rest c.free.result.now c.loop-from.at ∙ ap (drop c.loop-from.at) free_is ∙ last.rest in
    absurd (c.in_default.ensures.stands a.size (subst (λ (l : List ℕ). FrameBegins l a.size) (sym place) (frame_begins bytes from c.args.len last.left a)))
