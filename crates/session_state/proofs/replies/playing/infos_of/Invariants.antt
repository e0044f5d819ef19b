use Rattle.session_state.specs.Replies.{info_at, url_for}
use Rattle.session_state.proofs.Infos.{Gathered}
use Rattle.session_state.proofs.replies.playing.infos_of.Given as goal

abbrev pub invariant-loop-track : goal.invariant-loop-track
invariant-loop-track l = Gathered (info_at l.session (url_for l.request.uri l.target l.named) l.given.points) l.entries.items l.track
