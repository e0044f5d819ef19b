use Rattle.std.proofs.Common.{sym, subst, ◌∙◌}
use Rattle.rtsp_message.specs.ReaderStates.{PeerReaderState, ending_from}
use Rattle.rtsp_message.specs.Stores.{StoreState}
use Rattle.rtsp_message.specs.Stream.{ReadsOnFrom}
use Rattle.rtsp_message.proofs.Placing.{units_read}
use Rattle.rtsp_message.proofs.peer_reader.PeerReader.feed.Goals as goal

pub returns-in-Some-2-clause-units : goal.returns-in-Some-2-clause-units
returns-in-Some-2-clause-units c =
    let i = c.self.inside in
    let reads : ReadsOnFrom i.peer (ending_from i.store.bytes i.fault) c.args.piece.now c.in-Some-2.units.items (ending_from i.store.bytes i.fault) =
    units_read i.peer i.store.bytes c.args.piece.now i.fault c.in-Some-2.units.items c.in_default.is (sym c.len.ensures ∙ c.if-len-eq0.true) (rw c.in-Some-2.is at c.in_ok-units.ensures.reads i.peer) in
    let old = subst (λ (r : PeerReaderState). ReadsOnFrom r.peer r.state.reading c.args.piece.now c.in-Some-2.units.items (ending_from i.store.bytes i.fault)) c.self.view_is reads in
    subst (λ (s : StoreState). ReadsOnFrom c.args.self.now.peer c.args.self.now.state.reading c.args.piece.now c.in-Some-2.units.items (ending_from s.bytes i.fault)) (sym c.count.ensures) old
