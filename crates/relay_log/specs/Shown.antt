-- Figures of a player that don't fall from one snapshot to the next.
use Rattle.std.specs.Prelude.{◌≤◌, max}
use Rattle.relay_accounts.specs.declared.seat_account.SeatAccount.{SeatAccount}
use Rattle.relay_accounts.specs.Counting.{published_in}
use Rattle.mount_signals.specs.declared.mount.player_figures.PlayerFigures.{PlayerFigures}
use Rattle.status.specs.declared.player_status.PlayerStatus.{PlayerStatus}
use Rattle.relay_log.specs.declared.reports.shown.Shown.{Shown}

-- no snapshot had the player
abbrev pub nothing_shown : Shown
nothing_shown = record { sent = 0; skipped = 0; lost = 0; bytes = 0; published = 0 }

-- what a snapshot has of a player
abbrev pub shown_by : PlayerStatus → Shown
shown_by status = record { sent = status.sent; skipped = status.skipped; lost = status.lost; bytes = status.bytes; published = status.published }

-- the larger one of each figure
abbrev pub largest_of : Shown → PlayerFigures → Shown
largest_of shown figures = record {
  sent = max shown.sent figures.sent;
  skipped = max shown.skipped figures.skipped;
  lost = max shown.lost figures.lost;
  bytes = max shown.bytes figures.bytes;
  published = max shown.published figures.published;
}

-- the figures of a player that has left its seat with this account
abbrev pub last_figures : SeatAccount → PlayerFigures
last_figures account = record {
  sent = account.sent;
  skipped = account.skipped;
  lost = account.lost;
  behind = 0;
  bytes = account.bytes;
  published = published_in account;
}

-- no figure is less than it was
abbrev pub IsShownFrom : (old new : Shown) → Type 0
IsShownFrom old new =
    (old.sent ≤ new.sent) × (old.skipped ≤ new.skipped) × (old.lost ≤ new.lost) × (old.bytes ≤ new.bytes) × (old.published ≤ new.published)
