use Rattle.client_laws.proofs.Publishing.{has_come}
use Rattle.client_laws.proofs.laws.publishing.Goals as goal

pub returns : goal.returns
returns c = record {
  accepted = λ seats conn publication later start stage can fresh legal course. (has_come seats conn publication can start fresh later stage legal course).ok;
  reached = λ seats conn publication later start stage can fresh legal course. (has_come seats conn publication can start fresh later stage legal course).at;
}
