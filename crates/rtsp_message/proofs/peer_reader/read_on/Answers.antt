use Rattle.rtsp_message.proofs.Keeping.{read_done}
use Rattle.rtsp_message.proofs.peer_reader.read_on.Goals as goal

pub returns-clause-ok : goal.returns-clause-ok
returns-clause-ok c =
    let scan = c.in_ok-scan.scan in
    read_done c.args.peer c.args.store.now c.read_units.new.store c.keep_rest.new.store c.args.known scan.known scan.units.items scan.len scan.fault c.in_ok-scan.ensures.scan c.in_ok-scan.ensures.known c.in_ok-scan.ensures.counts
    c.in_ok-keep_rest.ensures.bytes c.in_ok-keep_rest.ensures.room c.keep_rest.ensures.looked
