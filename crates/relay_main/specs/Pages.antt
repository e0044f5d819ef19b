-- What the status pages of a server show.
use Rattle.std.specs.Prelude.{◌≡◌, ℕ, Bool, true, false, List, [], ◌++◌, Option, None, Some, codes, if◌then◌else◌}
use Rattle.process_figures.specs.declared.figures.ProcessFigures.{ProcessFigures}
use Rattle.server_counts.specs.declared.thread_mark.ServerThread.{ServerThread}
use Rattle.status.specs.declared.snapshot.Snapshot.{Snapshot}
use Rattle.status_answers.specs.declared.page.Page.{Page}
use Rattle.status_answers.specs.declared.page.Page.TheVariants.{Overview, Metrics, Figures, Health}
use Rattle.status_answers.specs.declared.page.Text.{Text}
use Rattle.status_answers.specs.Policies.{loads_nothing}
use Rattle.status_json.specs.Status.{status_text}
use Rattle.status_page.specs.declared.TheConstants.{PAGE, POLICY}
use Rattle.status_texts.specs.declared.server_metrics.ServerFacts.{ServerFacts}
use Rattle.status_texts.specs.Metrics.{metrics_text}
use Rattle.status_texts.specs.Players.{players_text}
use Rattle.thread_health.specs.declared.health.SeenThread.{SeenThread}
use Rattle.thread_health.specs.Late.{first_late}
use Rattle.thread_health.specs.Names.{late_text}

-- The metrics of a snapshot, and behind them, if they are asked for, the samples of each player. The snapshot was made so many
-- milliseconds after the beginning of 1970, if that is known.
abbrev pub shown_metrics : Snapshot → (wall : Option ℕ) → ServerFacts → ProcessFigures → (shows_players : Bool) → List ℕ
shown_metrics snapshot wall server process shows_players =
    metrics_text snapshot wall server process ++ (if shows_players then players_text snapshot.players.items else [])

-- The text is the metrics of a snapshot at a moment of the wall clock, of these facts and of some figures of the process.
pub record HasMetrics (server : ServerFacts) (shows_players : Bool) (text : List ℕ) : Type 0 where
  pub snapshot : Snapshot
  pub wall : Option ℕ
  pub process : ProcessFigures
  pub is : text ≡ shown_metrics snapshot wall server process shows_players

-- The text is the figures of a snapshot.
pub record HasStatus (text : List ℕ) : Type 0 where
  pub snapshot : Snapshot
  pub is : text ≡ status_text snapshot

-- what `/health` says: that no thread is late, or the name of one that is
abbrev pub health_text : (late : Option ServerThread) → List ℕ
health_text None = codes "well\n"
health_text (Some thread) = late_text thread

-- the answer is 200 if no thread is late
abbrev pub is_well : (late : Option ServerThread) → Bool
is_well None = true
is_well (Some thread) = false

-- This thread of a server is late, or none, as its threads were seen at some moment.
pub record IsFirstLate (late : Option ServerThread) : Type 0 where
  pub seen : List SeenThread
  pub now : ℕ
  pub is : late ≡ first_late seen now

-- the text says which thread is late
pub record SaysLate (late : Option ServerThread) (text : Text) : Type 0 where
  pub well : text.is_well ≡ is_well late
  pub body : text.body ≡ health_text late
  pub policy : text.policy.now ≡ loads_nothing

-- a text of a server that is well, for which a browser loads nothing
abbrev pub IsPlain : Text → Type 0
IsPlain text = (text.is_well ≡ true) × (text.policy.now ≡ loads_nothing)

-- what a page of a server with these facts has: its text, what a browser may do with it, and whether the server is well
abbrev pub Shows : ServerFacts → (shows_players : Bool) → Page → Text → Type 0
Shows server shows_players Overview text = (text.is_well ≡ true) × (text.body ≡ PAGE.now) × (text.policy.now ≡ POLICY.now)
Shows server shows_players Metrics text = IsPlain text × HasMetrics server shows_players text.body
Shows server shows_players Figures text = IsPlain text × HasStatus text.body
Shows server shows_players Health text = (late : Option ServerThread) × IsFirstLate late × SaysLate late text
