use Rattle.std.proofs.Common.{◌≡◌, ◌++◌, length, take, drop}
use Rattle.std.specs.List.{flat_map}
use Rattle.status_texts.specs.Serving.{session_sample}
use Rattle.status_texts.proofs.serving_metrics.write_sessions.Given as goal

-- the text so far and that of the roles left are the whole text
abbrev pub invariant-loop-session : goal.invariant-loop-session
invariant-loop-session l = record {
  told : l.out.items ++ flat_map (session_sample l.metric) (drop l.session-index l.sessions) ≡ l.fn.out.items ++ flat_map (session_sample l.metric) l.sessions;
  kept : take (length l.fn.out.items) l.out.items ≡ l.fn.out.items;
}
