-- The machine of wake-ups: any number of mounts, of players, of their writers and of other threads, all of which make their steps
-- in any order. Each step is one atomic operation of one thread, or what a lock holds together. Threads that are at the same
-- place are counted.
use Rattle.std.specs.Prelude.{◌≡◌, ℕ, ◌+◌, ◌-◌, ◌<◌, ◌==◌, ◌⊎◌, Bool, true, false, Option, None, Some, List, [], ◌∷◌, if◌then◌else◌}
use Rattle.waking.specs.declared.attention.Attention.{Attention}
use Rattle.waking.specs.declared.sweep.Next.{Next}
use Rattle.waking.specs.declared.sweep.Next.TheVariants.{Sleep, Again, Later, Over}
use Rattle.waking.specs.declared.sweep.Sweep.{Sweep}
use Rattle.waking.specs.Attentions.{emptied, held, newcomer, to_look_at}
use Rattle.waking.specs.Sweeps.{added, begun}
use Rattle.waking.specs.Words.{next_of}

-- what all threads share
pub record Words : Type 0 where
  -- whether the waking thread was notified since it last began to ask mounts for marks
  pub notified : Bool
  -- how often the word that writers sleep on was raised
  pub writer_wakeups : ℕ
  -- how many threads have raised it, and are about to wake who sleeps
  pub calling : ℕ

-- a mount
pub record Mount : Type 0 where
  -- how many packets were put into its log, and one more once it has ended
  pub logged : ℕ
  -- its marks since they were last taken
  pub mark_count : ℕ
  -- how often its players were woken
  pub player_wakeups : ℕ
  -- how many threads have put something into the log, and haven't told it
  pub publishing : ℕ
  -- how many have marked it, and haven't notified
  pub notifying : ℕ
  -- how many have emptied its marks, and are about to count a wake-up
  pub telling : ℕ
  -- how many have counted one, and are about to raise the word
  pub raising : ℕ
  -- whether the waking thread has asked it for marks since it began to
  pub asked : Bool
  -- whether that has taken its marks, and is about to count a wake-up
  pub took : Bool
  -- whether that has counted one, and hasn't raised the word since
  pub owed : Bool

-- where the look of a player's writer at it is
pub data Stage : Type 0 where
  -- it has the player, and has read how often its mount's players were woken
  knows : Stage
  -- its first try of the player's line has failed
  failed : Stage
  -- it has marked the line as skipped
  marked : Stage
  -- it has the line
  holds : Stage

-- a player, with its line
pub record Player : Type 0 where
  -- how many threads have the line to write a reply, or wait for it
  pub replying : ℕ
  -- how many have given it back, and haven't looked for the mark
  pub parting : ℕ
  -- how many are about to raise the word, for the mark that they took or for the player that came
  pub raising : ℕ
  -- whether the line is marked as skipped
  pub skipped : Bool
  -- whether the player is in its writer's list
  pub here : Bool
  pub attention : Attention
  -- whether it is looked at again after a time alone: bytes wait that its socket didn't take, or it is to be hung up
  pub waits : Bool
  -- how many packets the log had, and its end, when it was last found empty
  pub looked : ℕ
  -- how often the mount's players had been woken when its writer last read that
  pub known : ℕ
  pub stage : Option Stage
  -- whether its writer has looked at it in this sweep
  pub done : Bool
  -- whether its writer is to look at it again after a time
  pub due : Bool

-- where a writer is
pub data Place : Type 0 where
  -- it is about to read the word
  awake : Place
  -- it has read it, and goes through its players
  between : Place
  -- it looks at this one
  looking : (player : ℕ) → Place
  -- its sweep is over, and it is about to sleep
  ends : Place
  asleep : Place

-- a writer
pub record Writer : Type 0 where
  pub place : Place
  -- how often the word had been raised when it last read it
  pub read : ℕ
  pub sweep : Sweep
  -- how often its list has changed
  pub list : ℕ

pub record State : Type 0 where
  pub words : Words
  pub mounts : (mount : ℕ) → Mount
  pub players : (player : ℕ) → Player
  pub writers : (writer : ℕ) → Writer
  -- which mount each player takes from, and which writer it has
  pub mount_of : (player : ℕ) → ℕ
  pub writer_of : (player : ℕ) → ℕ

-- before all: nothing is published, and no player has come
abbrev pub start : (mount_of writer_of : ℕ → ℕ) → State
start mount_of writer_of = record {
  words = record { notified = false; writer_wakeups = 0; calling = 0 };
  mounts = λ _. record { logged = 0; mark_count = 0; player_wakeups = 0; publishing = 0; notifying = 0; telling = 0; raising = 0; asked = true; took = false; owed = false };
  players = λ _. record {
    replying = 0;
    parting = 0;
    raising = 0;
    skipped = false;
    here = false;
    attention = newcomer;
    waits = false;
    looked = 0;
    known = 0;
    stage = None;
    done = false;
    due = false;
  };
  writers = λ _. record { place = awake; read = 0; sweep = begun 0; list = 0 };
  mount_of = mount_of;
  writer_of = writer_of;
}

-- one of them changes
abbrev pub put : {A : Type 0} → (ℕ → A) → (number : ℕ) → A → (ℕ → A)
put all number it other = if number == other then it else all other

-- who raises the word; to wake who sleeps is a step of its own
abbrev pub raised_once : Words → Words
raised_once words = record words { writer_wakeups = next_of words.writer_wakeups; calling = words.calling + 1 }

-- what concerns one mount
pub data MountStep : Type 0 where
  -- a publisher puts a packet, or the end, into the log
  logs : MountStep
  -- and marks the mount
  marks : MountStep
  -- or empties the marks, to wake the players itself
  wakes_itself : MountStep
  -- it does so though nothing is new, where it waits for players that are behind
  hurries : MountStep
  -- it finds that the waking thread was notified already
  finds_notified : MountStep
  -- it notifies
  notifies : MountStep
  -- who emptied the marks counts a wake-up
  tells : MountStep
  -- and raises the word
  raises : MountStep
  -- the waking thread finds no marks
  finds_no_marks : MountStep
  -- it takes them
  takes_marks : MountStep
  -- and counts a wake-up
  counts : MountStep

abbrev pub MayMount : MountStep → Words → Mount → Type 0
MayMount logs words mount = Unit {0}
MayMount marks words mount = 0 < mount.publishing
MayMount wakes_itself words mount = 0 < mount.publishing
MayMount hurries words mount = Unit {0}
MayMount finds_notified words mount = (0 < mount.notifying) × (words.notified ≡ true)
MayMount notifies words mount = 0 < mount.notifying
MayMount tells words mount = 0 < mount.telling
MayMount raises words mount = 0 < mount.raising
MayMount finds_no_marks words mount = (mount.asked ≡ false) × (mount.mark_count ≡ 0)
MayMount takes_marks words mount = (mount.asked ≡ false) × (0 < mount.mark_count)
MayMount counts words mount = mount.took ≡ true

abbrev pub mount_after : MountStep → Mount → Mount
mount_after logs mount = record mount { logged = mount.logged + 1; publishing = mount.publishing + 1 }
mount_after marks mount = record mount { publishing = mount.publishing - 1; mark_count = next_of mount.mark_count; notifying = mount.notifying + 1 }
mount_after wakes_itself mount = record mount { publishing = mount.publishing - 1; mark_count = 0; telling = mount.telling + 1 }
mount_after hurries mount = record mount { mark_count = 0; telling = mount.telling + 1 }
mount_after finds_notified mount = record mount { notifying = mount.notifying - 1 }
mount_after notifies mount = record mount { notifying = mount.notifying - 1 }
mount_after tells mount = record mount { telling = mount.telling - 1; player_wakeups = next_of mount.player_wakeups; raising = mount.raising + 1 }
mount_after raises mount = record mount { raising = mount.raising - 1 }
mount_after finds_no_marks mount = record mount { asked = true }
mount_after takes_marks mount = record mount { asked = true; mark_count = 0; took = true }
mount_after counts mount = record mount { took = false; player_wakeups = next_of mount.player_wakeups; owed = true }

abbrev pub words_after_mount : MountStep → Words → Words
words_after_mount notifies words = record words { notified = true }
words_after_mount raises words = raised_once words
words_after_mount step words = words

-- what concerns one player beside its writer
pub data PlayerStep : Type 0 where
  -- a reader's thread wants the line, for a reply
  wants_line : PlayerStep
  -- it gives the line back
  gives_back : PlayerStep
  -- it takes the mark that it finds there
  finds_mark : PlayerStep
  -- it finds none
  finds_no_mark : PlayerStep
  -- the player comes into its writer's list
  joins : PlayerStep
  -- it is taken out of it
  leaves : PlayerStep
  -- who took the mark, or put the player in, raises the word
  raises_for_it : PlayerStep

abbrev pub MayPlayer : PlayerStep → Player → Type 0
MayPlayer wants_line player = Unit {0}
MayPlayer gives_back player = 0 < player.replying
MayPlayer finds_mark player = (0 < player.parting) × (player.skipped ≡ true)
MayPlayer finds_no_mark player = (0 < player.parting) × (player.skipped ≡ false)
MayPlayer joins player = player.here ≡ false
MayPlayer leaves player = player.here ≡ true
MayPlayer raises_for_it player = 0 < player.raising

abbrev pub player_after : PlayerStep → Player → Player
player_after wants_line player = record player { replying = player.replying + 1 }
player_after gives_back player = record player { replying = player.replying - 1; parting = player.parting + 1 }
player_after finds_mark player = record player { parting = player.parting - 1; skipped = false; raising = player.raising + 1 }
player_after finds_no_mark player = record player { parting = player.parting - 1 }
player_after joins player = record player { here = true; attention = newcomer; waits = false; looked = 0; raising = player.raising + 1 }
player_after leaves player = record player { here = false }
player_after raises_for_it player = record player { raising = player.raising - 1 }

abbrev pub words_after_player : PlayerStep → Words → Words
words_after_player raises_for_it words = raised_once words
words_after_player step words = words

abbrev pub writer_after_player : PlayerStep → Writer → Writer
writer_after_player joins writer = record writer { list = writer.list + 1 }
writer_after_player leaves writer = record writer { list = writer.list + 1 }
writer_after_player step writer = writer

-- a player's writer at it
pub data LookStep : Type 0 where
  -- the player's own lock is taken: it is looked at again after a time
  passes_over : (time : ℕ) → LookStep
  -- the writer has the player, and reads how often its mount's players were woken
  reads_wakes : LookStep
  -- there is nothing to do: the look ends, or there was none, since the sweep passes over the player
  finds_nothing : LookStep
  -- it isn't time to try it again
  finds_no_time : (time : ℕ) → LookStep
  -- it gets the line at once
  gets_line : LookStep
  -- it doesn't
  fails : LookStep
  -- it marks the line as skipped
  marks_line : LookStep
  -- it gets the line after all
  gets_line_late : LookStep
  -- it doesn't, and goes on without this player
  skips : LookStep
  -- it finds the ring empty, and the socket has taken all
  takes_all : LookStep
  -- its takes are used up, and the socket has taken all
  uses_up : LookStep
  -- bytes are left, or the connection is to be hung up
  keeps_rest : (time : ℕ) → LookStep
  -- it finds the ring empty, and bytes are left
  keeps_last_rest : (time : ℕ) → LookStep
  -- the player has nothing more to send, and is taken out of the list
  finishes : LookStep

-- the writer looks at the player of this number, and is at this stage
abbrev pub IsAt : Stage → (number : ℕ) → Player → Writer → Type 0
IsAt stage number player writer = (writer.place ≡ looking number) × (player.stage ≡ Some stage)

-- A try of the line fails only while a thread has it or waits for it.
abbrev pub MayLook : LookStep → (number : ℕ) → Player → Writer → Type 0
MayLook (passes_over time) number player writer = writer.place ≡ between
MayLook reads_wakes number player writer = writer.place ≡ between
MayLook finds_nothing number player writer = IsAt knows number player writer × (player.attention.again ≡ false) × (player.known ≡ player.attention.seen) × (player.waits ≡ false)
MayLook (finds_no_time time) number player writer = IsAt knows number player writer × (player.attention.again ≡ false) × (player.waits ≡ true)
MayLook gets_line number player writer = IsAt knows number player writer
MayLook fails number player writer = IsAt knows number player writer × (0 < player.replying)
MayLook marks_line number player writer = IsAt failed number player writer
MayLook gets_line_late number player writer = IsAt marked number player writer
MayLook skips number player writer = IsAt marked number player writer × (0 < player.replying)
MayLook takes_all number player writer = IsAt holds number player writer
MayLook uses_up number player writer = IsAt holds number player writer
MayLook (keeps_rest time) number player writer = IsAt holds number player writer
MayLook (keeps_last_rest time) number player writer = IsAt holds number player writer
MayLook finishes number player writer = writer.place ≡ looking number

-- the look is over
abbrev pub seen_to : Player → Player
seen_to player = record player { stage = None; done = true }

abbrev pub player_after_look : LookStep → Mount → Player → Player
player_after_look (passes_over time) mount player = seen_to (record player { due = true })
player_after_look reads_wakes mount player = record player { known = mount.player_wakeups; stage = Some knows; done = false }
player_after_look finds_nothing mount player = seen_to player
player_after_look (finds_no_time time) mount player = seen_to (record player { due = true })
player_after_look gets_line mount player = record player { stage = Some holds; attention = held player.attention }
player_after_look fails mount player = record player { stage = Some failed }
player_after_look marks_line mount player = record player { stage = Some marked; skipped = true }
player_after_look gets_line_late mount player = record player { stage = Some holds; attention = held player.attention }
player_after_look skips mount player = seen_to (record player { attention = to_look_at player.attention })
player_after_look takes_all mount player = seen_to (record player { attention = emptied player.known; waits = false; looked = mount.logged })
player_after_look uses_up mount player = seen_to (record player { attention = to_look_at player.attention; waits = false })
player_after_look (keeps_rest time) mount player = seen_to (record player { attention = held player.attention; waits = true; due = true })
player_after_look (keeps_last_rest time) mount player =
    seen_to (record player { attention = emptied player.known; waits = true; looked = mount.logged; due = true })
player_after_look finishes mount player = seen_to (record player { here = false })

-- the writer goes on, and this is next for the player
abbrev pub gone_on : Next → Writer → Writer
gone_on next writer = record writer { place = between; sweep = added next writer.sweep }

abbrev pub writer_after_look : LookStep → (number : ℕ) → Writer → Writer
writer_after_look (passes_over time) number writer = gone_on (Later time) writer
writer_after_look reads_wakes number writer = record writer { place = looking number }
writer_after_look finds_nothing number writer = gone_on Sleep writer
writer_after_look (finds_no_time time) number writer = gone_on (Later time) writer
writer_after_look gets_line number writer = writer
writer_after_look fails number writer = writer
writer_after_look marks_line number writer = writer
writer_after_look gets_line_late number writer = writer
writer_after_look skips number writer = gone_on Sleep writer
writer_after_look takes_all number writer = gone_on Sleep writer
writer_after_look uses_up number writer = gone_on Again writer
writer_after_look (keeps_rest time) number writer = gone_on (Later time) writer
writer_after_look (keeps_last_rest time) number writer = gone_on (Later time) writer
writer_after_look finishes number writer = gone_on Over (record writer { list = writer.list + 1 })

-- a writer's sweep
pub data SweepStep : Type 0 where
  -- it reads the word
  begins : SweepStep
  -- a player is to be looked at again, or the list has changed: another sweep
  sweeps_again : SweepStep
  -- neither
  ends_sweep : SweepStep
  -- the word is the one that was read, and the writer sleeps
  sleeps : SweepStep
  -- it isn't, or the writer was woken for no reason, or the time is over
  returns : SweepStep

-- A walk over a list that hasn't changed meets each player in it.
abbrev pub MaySweep : SweepStep → State → (writer : ℕ) → Type 0
MaySweep begins s w = (s.writers w).place ≡ awake
MaySweep sweeps_again s w = (s.writers w).place ≡ between
MaySweep ends_sweep s w = ((s.writers w).place ≡ between) × ((s.writers w).sweep.again ≡ false) × ((s.writers w).list ≡ (s.writers w).sweep.changes)
    × ((player : ℕ) → w ≡ s.writer_of player → (s.players player).here ≡ true → (s.players player).done ≡ true)
MaySweep sleeps s w = ((s.writers w).place ≡ ends) × (s.words.writer_wakeups ≡ (s.writers w).read)
MaySweep returns s w = ((s.writers w).place ≡ ends) ⊎ ((s.writers w).place ≡ asleep)

abbrev pub writer_after_sweep : SweepStep → Words → Writer → Writer
writer_after_sweep begins words writer = record writer { place = between; read = words.writer_wakeups; sweep = begun writer.list }
writer_after_sweep sweeps_again words writer = record writer { place = awake }
writer_after_sweep ends_sweep words writer = record writer { place = ends }
writer_after_sweep sleeps words writer = record writer { place = asleep }
writer_after_sweep returns words writer = record writer { place = awake }

-- each of its players, where a sweep begins
abbrev pub player_after_sweep : SweepStep → Player → Player
player_after_sweep begins player = record player { done = false; due = false }
player_after_sweep step player = player

-- one that sleeps is woken
abbrev pub woken : Place → Place
woken awake = awake
woken between = between
woken (looking player) = looking player
woken ends = ends
woken asleep = awake

-- one step of one thread
pub data Act : Type 0 where
  at_mount : (mount : ℕ) → MountStep → Act
  at_player : (player : ℕ) → PlayerStep → Act
  looks_at : (player : ℕ) → LookStep → Act
  in_sweep : (writer : ℕ) → SweepStep → Act
  -- the waking thread begins to ask mounts for marks
  clears : Act
  -- it raises the word, once for all wake-ups that it has counted
  raises_once : Act
  -- who raised the word wakes who sleeps on it
  calls : Act

-- when it may be made
abbrev pub May : Act → State → Type 0
May (at_mount mount step) s = MayMount step s.words (s.mounts mount)
May (at_player player step) s = MayPlayer step (s.players player)
May (looks_at player step) s = MayLook step player (s.players player) (s.writers (s.writer_of player))
May (in_sweep writer step) s = MaySweep step s writer
May clears s = Unit {0}
May raises_once s = Unit {0}
May calls s = 0 < s.words.calling

-- what it leads to
abbrev pub after : Act → State → State
after (at_mount mount step) s = record s {
  words = words_after_mount step s.words;
  mounts = put s.mounts mount (mount_after step (s.mounts mount));
}
after (at_player player step) s = record s {
  words = words_after_player step s.words;
  players = put s.players player (player_after step (s.players player));
  writers = put s.writers (s.writer_of player) (writer_after_player step (s.writers (s.writer_of player)));
}
after (looks_at player step) s = record s {
  players = put s.players player (player_after_look step (s.mounts (s.mount_of player)) (s.players player));
  writers = put s.writers (s.writer_of player) (writer_after_look step player (s.writers (s.writer_of player)));
}
after (in_sweep writer step) s = record s {
  players = λ player. if writer == s.writer_of player then player_after_sweep step (s.players player) else s.players player;
  writers = put s.writers writer (writer_after_sweep step s.words (s.writers writer));
}
after clears s = record s {
  words = record s.words { notified = false };
  mounts = λ mount. record (s.mounts mount) { asked = false };
}
after raises_once s = record s {
  words = raised_once s.words;
  mounts = λ mount. record (s.mounts mount) { owed = false };
}
after calls s = record s {
  words = record s.words { calling = s.words.calling - 1 };
  writers = λ writer. record (s.writers writer) { place = woken (s.writers writer).place };
}

-- these steps may follow one another
abbrev pub Ran : (old : State) → List Act → (new : State) → Type 0
Ran old [] new = new ≡ old
Ran old (act ∷ acts) new = May act old × Ran (after act old) acts new
