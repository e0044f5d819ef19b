use Rattle.waking.specs.Machine.{start}
use Rattle.waking.specs.Laws.{view_of}
use Rattle.waking.proofs.Schedules.{ran_keeps, remembers, start_is_sound}
use Rattle.waking.proofs.laws.no_player_is_forgotten.Goals as goal

pub returns : goal.returns
returns c = λ mount_of writer_of acts s player ran.
    remembers (view_of s player) (ran_keeps acts (start mount_of writer_of) s ran (start_is_sound mount_of writer_of) player)
