use Rattle.std.proofs.Common.{◌==◌, ◌∙◌, ap, not, rules}
use Rattle.std.proofs.lemmas.Fn.{filter_same}
use Rattle.networks.specs.declared.peer_table.Peer.{Peer}
use Rattle.networks.specs.Peers.{without}
use Rattle.networks.proofs.peer_table.PeerTable.remove.Goals as goal

pub returns : goal.returns
returns c = filter_same _ (λ (peer : Peer). not (peer.conn == c.args.conn)) _ (λ x b f' k. search rules) _ _ c.retain.ensures.filtered ∙ ap (without c.args.conn) c.self.view_is
