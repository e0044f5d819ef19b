use Rattle.std.proofs.Common.{ap}
use Rattle.session_state.specs.declared.session.Session.{Session}
use Rattle.session_state.proofs.OneSession.{one_session}
use Rattle.session_state.proofs.laws.sessions_are_told_once.Goals as goal

pub returns-clause-number : goal.returns-clause-number
returns-clause-number c = λ seats conn history one other legal a b. ap (λ (session : Session). session.number) (one_session seats conn history legal one other a b)

pub returns-clause-word : goal.returns-clause-word
returns-clause-word c = λ seats conn history one other legal a b. ap (λ (session : Session). session.word) (one_session seats conn history legal one other a b)

pub returns-clause-mount : goal.returns-clause-mount
returns-clause-mount c = λ seats conn history one other legal a b. ap (λ (session : Session). session.mount) (one_session seats conn history legal one other a b)

pub returns-clause-name : goal.returns-clause-name
returns-clause-name c = λ seats conn history one other legal a b. ap (λ (session : Session). session.name) (one_session seats conn history legal one other a b)

pub returns-clause-recording : goal.returns-clause-recording
returns-clause-recording c = λ seats conn history one other legal a b. ap (λ (session : Session). session.recording) (one_session seats conn history legal one other a b)

pub returns-clause-state : goal.returns-clause-state
returns-clause-state c = λ seats conn history one other legal a b. ap (λ (session : Session). session.state) (one_session seats conn history legal one other a b)

pub returns-clause-channels : goal.returns-clause-channels
returns-clause-channels c = λ seats conn history one other legal a b. ap (λ (session : Session). session.channels) (one_session seats conn history legal one other a b)
