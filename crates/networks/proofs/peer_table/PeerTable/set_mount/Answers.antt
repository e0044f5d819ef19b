use Rattle.std.proofs.Common.{◌∙◌, ap, arith, rules, set}
use Rattle.std.proofs.lemmas.List.{take_all, drop_all, get_or_default}
use Rattle.std.proofs.lemmas.List.Edits.{map_over_more}
use Rattle.networks.specs.Peers.{mark}
use Rattle.networks.proofs.Peers.{mark-own, mark-other}
use Rattle.networks.proofs.peer_table.PeerTable.set_mount.Goals as goal
use Rattle.networks.proofs.peer_table.PeerTable.set_mount.Goals.{then-peer-conn, else-peer-conn}

pub loop-peer-preserved : goal.loop-peer-preserved
loop-peer-preserved c =
    let before = c.deref_mut-peer-items.result.now in
    let items = c.loop-peer.peer-items in
    let place = c.loop-peer.peer-index in
    let one_more = map_over_more (mark c.args.conn c.args.has_mount) before items place _ (omega arith) c.loop-peer.invariant (get_or_default items place _ _ (omega arith)) in
    elim c.if-peer-conn.branch [
      | then-peer-conn w ↦ w.peer-items-is ∙ ap (set items place) (mark-own _ _ _ w.if-peer-conn.true) ∙ one_more
      | else-peer-conn w ↦ w.peer-items-is ∙ ap (set items place) (mark-other _ _ _ w.if-peer-conn.false) ∙ one_more
    ]

pub returns : goal.returns
returns c = search (rules, take_all, drop_all)
