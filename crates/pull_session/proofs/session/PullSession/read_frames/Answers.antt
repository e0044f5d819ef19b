use Rattle.std.proofs.Common.{◌≡◌, ◌+◌, ◌-◌, ℕ, List, Option, [], ◌++◌, take, drop, map, inl, sym, ap, subst, ◌∙◌, arith, vec_capacity}
use Rattle.std.proofs.Math.Seq.{take-add}
use Rattle.rtsp_message.specs.ReaderStates.{PeerReaderState}
use Rattle.rtsp_message.specs.Stream.{Ending, ReadsFrom, ReadsOnFrom, Waits, fault_of}
use Rattle.rtsp_message.specs.declared.fault.Fault.{Fault}
use Rattle.rtsp_message.specs.declared.unit.Unit.TheVariants.{Frame}
use Rattle.rtsp_message.proofs.Compose.{readings_compose}
use Rattle.outgoing.specs.Queues.{Queue}
use Rattle.pull_session.specs.Blocks.{AreFrames, with_block}
use Rattle.pull_session.specs.Passing.{EndsByFault, Passes, TakesUnits, pass_state}
use Rattle.pull_session.specs.Tries.{Try}
use Rattle.pull_session.specs.declared.line.Line.{Line}
use Rattle.pull_session.proofs.Blocks.{frames_read, takes_both}
use Rattle.pull_session.proofs.session.PullSession.read_frames.Goals as goal

pub returns-in-Ok-clause-passes : goal.returns-in-Ok-clause-passes
returns-in-Ok-clause-passes c =
    let inside = c.self.inside in
    let reader = inside.source_line.reader in
    let block = c.args.block.now.items in
    let len = c.args.len in
    let more = c.args.count - len in
    let units = c.in-Ok.fed.units.items in
    let passed = c.pass_frames.ensures.takes in
    let frames = passed.0 in
    let is : c.swap.new.self ≡ record inside.target_line.waiting { room = vec_capacity c.args.block.now; free = block } = c.swap.ensures.same in
    let are = subst (λ (l : List ℕ). AreFrames (take len l) frames) (ap (λ (q : Queue). q.free) is) passed.1 in
    let idle = ap (λ (t : Try). t.source.reader.state.reading) c.self.view_is ∙ c.requires.idle in
    let rest = subst (λ (l : List ℕ). ReadsOnFrom reader.peer reader.state.reading (take more (drop len l)) units c.feed.new.self.state.reading) c.deref.ensures.value c.in-Ok.ensures.units in
    let on = subst (λ (e : Ending). ReadsOnFrom reader.peer e (take more (drop len block)) units c.feed.new.self.state.reading) idle rest in
    let whole = readings_compose reader.peer (take len block) (take more (drop len block)) (map Frame frames) units _ _ (frames_read reader.peer (take len block) frames are) on in
    let count : len + more ≡ c.args.count = omega (arith, c.requires.within) in
    let bytes : take len block ++ take more (drop len block) ≡ take c.args.count block = sym (take-add len more block) ∙ ap (λ (n : ℕ). take n block) count in
    let read : ReadsOnFrom reader.peer (Waits []) (take c.args.count block) (map Frame frames ++ units) c.feed.new.self.state.reading =
    subst (λ (l : List ℕ). ReadsFrom reader.peer l (map Frame frames ++ units) c.feed.new.self.state.reading) bytes whole in
    let reader_is : c.take_fed.new.self.source.reader ≡ c.feed.new.self = ap (λ (l : Line). l.reader) (c.take_fed.ensures.source ∙ ap (λ (l : Line). record l { waiting = c.take_fed.new.self.source.waiting }) c.pass_frames.ensures.source) in
    inl (subst (λ (session : Try). Passes (take c.args.count block) c.args.now (with_block (vec_capacity c.args.block.now) block session) c.take_fed.new.self) c.self.view_is (record {
      units = map Frame frames ++ units;
      reads = subst (λ (e : Ending). ReadsOnFrom reader.peer e (take c.args.count block) (map Frame frames ++ units) c.take_fed.new.self.source.reader.state.reading) (sym idle)
          (subst (λ (r : PeerReaderState). ReadsOnFrom reader.peer (Waits []) (take c.args.count block) (map Frame frames ++ units) r.state.reading) (sym reader_is) read);
      after = c.take_fed.ensures.takes.0;
      takes = takes_both (map Frame frames) units c.args.now _ _ _
          (subst (λ (q : Queue). TakesUnits (map Frame frames) c.args.now (record { client = inside.client; waiting = q; watch = inside.watch }) (pass_state c.pass_frames.new.self)) is passed.2)
          c.take_fed.ensures.takes.1;
      target = c.take_fed.ensures.target
          ∙ ap (λ (l : Line). record l { waiting = c.take_fed.new.self.target.waiting }) c.pass_frames.ensures.target;
      closed = ap (λ (l : Line). l.is_closed) c.take_fed.ensures.source ∙ ap (λ (l : Line). l.is_closed) c.pass_frames.ensures.source;
      fault = subst (λ (fault : Option Fault). EndsByFault fault c.take_fed.ensures.takes.0 (pass_state c.take_fed.new.self))
          (c.in-Ok.ensures.fault ∙ ap (λ (r : PeerReaderState). fault_of r.state.reading) (sym reader_is)) c.take_fed.ensures.takes.2;
    }))
