use Rattle.session_state.proofs.Refusals.{announces_none, keeps_mounts, keeps_sessions}
use Rattle.session_state.proofs.laws.refusals_change_nothing.Goals as goal

pub returns-clause-mounts : goal.returns-clause-mounts
returns-clause-mounts c = λ seats before conn request given reply act mounts legal refused are. keeps_mounts seats before conn request given reply act legal.1 refused mounts are

pub returns-clause-sessions : goal.returns-clause-sessions
returns-clause-sessions c = λ seats before conn request given reply act who session legal refused is. keeps_sessions seats before conn request given reply act legal.1 refused who session is

pub returns-clause-announced : goal.returns-clause-announced
returns-clause-announced c = λ seats before conn request given reply act legal refused. announces_none seats before conn request given reply act legal.1 refused
