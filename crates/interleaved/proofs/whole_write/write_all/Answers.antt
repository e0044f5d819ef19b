use Rattle.std.proofs.Common.{arith, subst, ◌∙◌, sym, length-take, length-drop}
use Rattle.std.proofs.KnownBytes.{Appends-trans}
use Rattle.std.specs.Io.KnownBytes.{Appends}
use Rattle.interleaved.proofs.Pieces.{take-of_rest}
use Rattle.interleaved.proofs.whole_write.write_all.Goals as goal

-- what went out before and what the sink took now are the front of the text
pub loop-written-preserved : goal.loop-written-preserved
loop-written-preserved g c =
    let now = c.in-Ok.ensures in
    let old = c.loop-written.invariant in
    record {
      within = grind (arith, length-take, length-drop);
      front = subst (Appends (g.W.Sink.written c.args.sink.now) (g.W.Sink.written c.write.new.self)) (take-of_rest c.args.bytes.now c.loop-written.written c.in-Ok.taken)
          (Appends-trans _ (g.W.Sink.written c.loop-written.sink) _ _ _ old.front now.bytes);
      working = λ _. (sym old.same ∙ now.working.0, now.working.1);
      same = now.working.1 ∙ sym now.working.0 ∙ old.same;
    }
