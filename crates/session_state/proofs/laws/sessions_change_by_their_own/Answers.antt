use Rattle.std.proofs.Common.{◌∷◌}
use Rattle.session_state.proofs.Parts.{part_still, session_still}
use Rattle.session_state.proofs.laws.sessions_change_by_their_own.Goals as goal

pub returns : goal.returns
returns c = λ seats conn before entry session no_end no_move is. session_still seats conn before (entry ∷ before) session (part_still conn entry before no_end no_move) is
