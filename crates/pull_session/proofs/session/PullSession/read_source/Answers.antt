use Rattle.std.proofs.Common.{Option, ap, inl, subst, sym, ◌∙◌}
use Rattle.rtsp_message.specs.ReaderStates.{PeerReaderState}
use Rattle.rtsp_message.specs.Stream.{ReadsOnFrom, fault_of}
use Rattle.rtsp_message.specs.declared.fault.Fault.{Fault}
use Rattle.pull_session.specs.Passing.{EndsByFault, Passes, pass_state}
use Rattle.pull_session.specs.Tries.{Try}
use Rattle.pull_session.specs.declared.line.Line.{Line}
use Rattle.pull_session.proofs.session.PullSession.read_source.Goals as goal

pub returns-in-Ok-clause-frames : goal.returns-in-Ok-clause-frames
returns-in-Ok-clause-frames c = inl (subst (λ (session : Try). Passes c.args.bytes.now c.args.now session c.take_fed.new.self) c.self.view_is (record {
  units = c.in-Ok.fed.units.items;
  reads = subst
      (λ (reader : PeerReaderState). ReadsOnFrom c.self.inside.source_line.reader.peer c.self.inside.source_line.reader.state.reading c.args.bytes.now c.in-Ok.fed.units.items reader.state.reading)
      (sym (ap (λ (l : Line). l.reader) c.take_fed.ensures.source))
      c.in-Ok.ensures.units;
  after = c.take_fed.ensures.takes.0;
  takes = c.take_fed.ensures.takes.1;
  target = c.take_fed.ensures.target;
  closed = ap (λ (l : Line). l.is_closed) c.take_fed.ensures.source;
  fault = subst
      (λ (fault : Option Fault). EndsByFault fault c.take_fed.ensures.takes.0 (pass_state c.take_fed.new.self))
      (c.in-Ok.ensures.fault ∙ ap (λ (reader : PeerReaderState). fault_of reader.state.reading) (sym (ap (λ (l : Line). l.reader) c.take_fed.ensures.source)))
      c.take_fed.ensures.takes.2;
}))
