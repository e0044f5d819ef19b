use Rattle.std.proofs.Common.{List, ℕ, [], ◌∷◌, ◌++◌, take, drop, sym, subst, arith, length-drop}
use Rattle.std.proofs.Math.Seq.{take-add}
use Rattle.std.proofs.lemmas.List.{take_rest}
use Rattle.interleaved.specs.declared.frame.Frame.{Frame as Block}
use Rattle.interleaved.specs.Frame.{FrameBegins}
use Rattle.pull_session.specs.Blocks.{AreFrames}
use Rattle.pull_session.proofs.Blocks.{frames_push}
use Rattle.pull_session.proofs.passing.whole_frames.Goals as goal

pub loop-len-preserved : goal.loop-len-preserved
loop-len-preserved c =
    let bytes = c.args.bytes.now in
    let len = c.loop-len.len in
    let size = c.in-Whole.size in
    let before = c.loop-len.invariant in
    let begins = subst (λ (l : List ℕ). FrameBegins l size) (take_rest bytes len) c.in-Whole.ensures.stands in
    let frame : Block = record { channel = begins.1; payload = begins.2 } in
    record {
      within = omega (arith, begins.0, length-drop len bytes, before.within);
      frames = before.frames ++ frame ∷ [];
      are = subst (λ (l : List ℕ). AreFrames l (before.frames ++ frame ∷ [])) (sym (take-add len size bytes))
          (frames_push (take len bytes) (take size (drop len bytes)) before.frames frame before.are begins.3);
    }

pub returns-in_default-clause-all : goal.returns-in_default-clause-all
returns-in_default-clause-all c = λ size begins.
    c.in_default.ensures.stands size (subst (λ (l : List ℕ). FrameBegins l size) (sym (take_rest c.args.bytes.now c.loop-len.len)) begins)
