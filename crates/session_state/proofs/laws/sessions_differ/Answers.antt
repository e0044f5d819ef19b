use Rattle.transport_header.proofs.ReadAgain.{apart}
use Rattle.session_state.proofs.Identifiers.{one_session}
use Rattle.session_state.proofs.laws.sessions_differ.Goals as goal

pub returns-clause-numbers : goal.returns-clause-numbers
returns-clause-numbers c = λ seats conn other later history session second a b same. one_session seats conn other later history session second a b same

pub returns-clause-identifiers : goal.returns-clause-identifiers
returns-clause-identifiers c = λ seats conn other later history session second a b number word number' word' same.
    one_session seats conn other later history session second a b (apart session.number session.word second.number second.word number word number' word' same).0
