-- A writer's sweep, and what the waking thread and who raised the word do for all at once.
use Rattle.std.proofs.Common.{◌≡◌, ◌<◌, ◌⊎◌, ◌-◌, true, false, refl, arith}
use Rattle.waking.specs.Machine.{Place, awake, between, looking, ends, asleep, begins, sweeps_again, ends_sweep, sleeps, returns, player_after_sweep, raised_once, woken, writer_after_sweep}
use Rattle.waking.specs.Laws.{View}
use Rattle.waking.proofs.Invariant.{Sound}

pub begin_keeps : (v : View) → Sound v → v.writer.place ≡ awake
    → Sound (record v { player = player_after_sweep begins v.player; writer = writer_after_sweep begins v.words v.writer })
begin_keeps v h may = search arith

pub again_keeps : (v : View) → Sound v → v.writer.place ≡ between → Sound (record v { writer = writer_after_sweep sweeps_again v.words v.writer })
again_keeps v h may = search arith

pub end_keeps : (v : View) → Sound v → v.writer.place ≡ between → v.writer.sweep.again ≡ false → (v.player.here ≡ true → v.player.done ≡ true)
    → Sound (record v { writer = writer_after_sweep ends_sweep v.words v.writer })
end_keeps v h may quiet met = search arith

pub sleep_keeps : (v : View) → Sound v → v.writer.place ≡ ends → v.words.writer_wakeups ≡ v.writer.read → Sound (record v { writer = writer_after_sweep sleeps v.words v.writer })
sleep_keeps v h may same = search arith

pub return_keeps : (v : View) → Sound v → (v.writer.place ≡ ends) ⊎ (v.writer.place ≡ asleep) → Sound (record v { writer = writer_after_sweep returns v.words v.writer })
return_keeps v h may = search arith

pub clear_keeps : (v : View) → Sound v → Sound (record v { words = record v.words { notified = false }; mount = record v.mount { asked = false } })
clear_keeps v h = search arith

pub raise_once_keeps : (v : View) → Sound v → Sound (record v { words = raised_once v.words; mount = record v.mount { owed = false } })
raise_once_keeps v h = search arith

call_at : (place : Place) (v : View) → v.writer.place ≡ place → Sound v → 0 < v.words.calling
    → Sound (record v { words = record v.words { calling = v.words.calling - 1 }; writer = record v.writer { place = woken place } })
call_at awake v is h may = search arith
call_at between v is h may = search arith
call_at (looking player) v is h may = search arith
call_at ends v is h may = search arith
call_at asleep v is h may = search arith

pub call_keeps : (v : View) → Sound v → 0 < v.words.calling
    → Sound (record v { words = record v.words { calling = v.words.calling - 1 }; writer = record v.writer { place = woken v.writer.place } })
call_keeps v h may = call_at v.writer.place v refl h may
