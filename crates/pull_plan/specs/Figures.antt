-- What became of the frames of a try, and how a log line has it.
use Rattle.std.specs.Prelude.{ℕ, ◌-◌, List, ◌++◌, codes, decimal}
use Rattle.rtsp_client.specs.Accounts.{Frames}
use Rattle.sequence_counts.specs.Tracks.{Tracks, total_of}
use Rattle.pull_plan.specs.declared.figures.Figures.{Figures}

abbrev pub nothing_came : Figures
nothing_came = record { sent = 0; unknown_channel = 0; before_recording = 0; unsent = 0; missing = 0; late = 0; restarts = 0 }

-- the figures of a try with this account of frames and these counts of its tracks' sequence numbers
abbrev pub figures_of : Frames → Tracks → Figures
figures_of frames tracks = record {
  sent = frames.sent;
  unknown_channel = frames.unknown_channel;
  before_recording = frames.before_recording;
  unsent = frames.unsent;
  missing = (total_of tracks).missing;
  late = (total_of tracks).late;
  restarts = (total_of tracks).restarts;
}

-- what came since earlier figures, and how many frames wait now
abbrev pub figures_since : Figures → (earlier : Figures) → Figures
figures_since figures earlier = record {
  sent = figures.sent - earlier.sent;
  unknown_channel = figures.unknown_channel - earlier.unknown_channel;
  before_recording = figures.before_recording - earlier.before_recording;
  unsent = figures.unsent;
  missing = figures.missing - earlier.missing;
  late = figures.late - earlier.late;
  restarts = figures.restarts - earlier.restarts;
}

-- how a log line has them
abbrev pub figures_text : Figures → List ℕ
figures_text figures =
    (codes "sent " ++ (decimal figures.sent
    ++ (codes ", unknown channel " ++ (decimal figures.unknown_channel
    ++ (codes ", before recording " ++ (decimal figures.before_recording
    ++ (codes ", unsent " ++ (decimal figures.unsent
    ++ (codes ", missing " ++ (decimal figures.missing
    ++ (codes ", late " ++ decimal figures.late)))))))))))
    ++ (codes ", restarts " ++ decimal figures.restarts)
