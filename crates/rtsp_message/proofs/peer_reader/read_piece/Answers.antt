use Rattle.std.proofs.Common.{List, ℕ, sym, subst}
use Rattle.rtsp_message.specs.Knowns.{IsKnown}
use Rattle.rtsp_message.proofs.Keeping.{known_grows}
use Rattle.rtsp_message.proofs.peer_reader.read_piece.Goals as goal

pub read_on-requires-clause-known : goal.read_on-requires-clause-known
read_on-requires-clause-known c =
    subst (λ (l : List ℕ). IsKnown c.args.peer l c.args.known) (sym c.in_ok-before.ensures.bytes) (known_grows c.args.peer c.args.store.now.bytes c.args.piece.now c.args.known c.requires.known)
