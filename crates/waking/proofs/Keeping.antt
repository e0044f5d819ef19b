-- What a step changes of one player's view, and that it keeps what each step keeps.
use Rattle.std.proofs.Common.{◌≢◌, ℕ, arith}
use Rattle.waking.specs.Machine.{LookStep, MayLook, MayMount, MayPlayer, MountStep, Player, PlayerStep, mount_after, player_after, player_after_look, raised_once, words_after_mount, words_after_player, writer_after_look, writer_after_player, logs, marks, wakes_itself, hurries, finds_notified, notifies, tells, raises, finds_no_marks, takes_marks, counts, wants_line, gives_back, finds_mark, finds_no_mark, joins, leaves, raises_for_it, passes_over, reads_wakes, finds_nothing, finds_no_time, gets_line, fails, marks_line, gets_line_late, skips, takes_all, uses_up, keeps_rest, keeps_last_rest, finishes}
use Rattle.waking.specs.Laws.{View}
use Rattle.waking.proofs.Invariant.{Sound}

-- the word is raised by another one
pub raise_keeps : (v : View) → Sound v → Sound (record v { words = raised_once v.words })
raise_keeps v h = search arith

-- a step at another mount
pub other_mount_keeps : (step : MountStep) (v : View) → Sound v → Sound (record v { words = words_after_mount step v.words })
other_mount_keeps logs v h = h
other_mount_keeps marks v h = h
other_mount_keeps wakes_itself v h = h
other_mount_keeps hurries v h = h
other_mount_keeps finds_notified v h = h
other_mount_keeps notifies v h = search arith
other_mount_keeps tells v h = h
other_mount_keeps raises v h = raise_keeps v h
other_mount_keeps finds_no_marks v h = h
other_mount_keeps takes_marks v h = h
other_mount_keeps counts v h = h

-- a step at the player's mount
pub mount_keeps : (step : MountStep) (v : View) → Sound v → MayMount step v.words v.mount → Sound (record v { words = words_after_mount step v.words; mount = mount_after step v.mount })
mount_keeps logs v h may = search arith
mount_keeps marks v h may = search arith
mount_keeps wakes_itself v h may = search arith
mount_keeps hurries v h may = search arith
mount_keeps finds_notified v h may = search arith
mount_keeps notifies v h may = search arith
mount_keeps tells v h may = search arith
mount_keeps raises v h may = search arith
mount_keeps finds_no_marks v h may = search arith
mount_keeps takes_marks v h may = search arith
mount_keeps counts v h may = search arith

-- a step at a player of another writer
pub other_player_keeps : (step : PlayerStep) (v : View) → Sound v → Sound (record v { words = words_after_player step v.words })
other_player_keeps wants_line v h = h
other_player_keeps gives_back v h = h
other_player_keeps finds_mark v h = h
other_player_keeps finds_no_mark v h = h
other_player_keeps joins v h = h
other_player_keeps leaves v h = h
other_player_keeps raises_for_it v h = raise_keeps v h

-- at another player of the same writer
pub fellow_keeps : (step : PlayerStep) (v : View) → Sound v → Sound (record v { words = words_after_player step v.words; writer = writer_after_player step v.writer })
fellow_keeps wants_line v h = h
fellow_keeps gives_back v h = h
fellow_keeps finds_mark v h = h
fellow_keeps finds_no_mark v h = h
fellow_keeps joins v h = search arith
fellow_keeps leaves v h = search arith
fellow_keeps raises_for_it v h = raise_keeps v h

-- at the player
pub player_keeps : (step : PlayerStep) (v : View) → Sound v → MayPlayer step v.player
    → Sound (record v { words = words_after_player step v.words; player = player_after step v.player; writer = writer_after_player step v.writer })
player_keeps wants_line v h may = search arith
player_keeps gives_back v h may = search arith
player_keeps finds_mark v h may = search arith
player_keeps finds_no_mark v h may = search arith
player_keeps joins v h may = search arith
player_keeps leaves v h may = search arith
player_keeps raises_for_it v h may = search arith

-- a look at another player of the same writer
pub look_beside_keeps : (step : LookStep) (v : View) (number : ℕ) (other : Player) → number ≢ v.number → Sound v → MayLook step number other v.writer
    → Sound (record v { writer = writer_after_look step number v.writer })
look_beside_keeps (passes_over time) v number other apart h may = search arith
look_beside_keeps reads_wakes v number other apart h may = search arith
look_beside_keeps finds_nothing v number other apart h may = search arith
look_beside_keeps (finds_no_time time) v number other apart h may = search arith
look_beside_keeps gets_line v number other apart h may = h
look_beside_keeps fails v number other apart h may = h
look_beside_keeps marks_line v number other apart h may = h
look_beside_keeps gets_line_late v number other apart h may = h
look_beside_keeps skips v number other apart h may = search arith
look_beside_keeps takes_all v number other apart h may = search arith
look_beside_keeps uses_up v number other apart h may = search arith
look_beside_keeps (keeps_rest time) v number other apart h may = search arith
look_beside_keeps (keeps_last_rest time) v number other apart h may = search arith
look_beside_keeps finishes v number other apart h may = search arith

-- a look at the player
pub look_keeps : (step : LookStep) (v : View) → Sound v → MayLook step v.number v.player v.writer
    → Sound (record v { player = player_after_look step v.mount v.player; writer = writer_after_look step v.number v.writer })
look_keeps (passes_over time) v h may = search arith
look_keeps reads_wakes v h may = search arith
look_keeps finds_nothing v h may = search arith
look_keeps (finds_no_time time) v h may = search arith
look_keeps gets_line v h may = search arith
look_keeps fails v h may = search arith
look_keeps marks_line v h may = search arith
look_keeps gets_line_late v h may = search arith
look_keeps skips v h may = search arith
look_keeps takes_all v h may = search arith
look_keeps uses_up v h may = search arith
look_keeps (keeps_rest time) v h may = search arith
look_keeps (keeps_last_rest time) v h may = search arith
look_keeps finishes v h may = search arith
