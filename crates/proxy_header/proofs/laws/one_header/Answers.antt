use Rattle.proxy_header.proofs.OneHeader.{one_header}
use Rattle.proxy_header.proofs.laws.one_header.Goals as goal

pub returns : goal.returns
returns c = record {
  same = λ one other after after' client client' p q e. (one_header one other after after' client client' p q e).0;
  client = λ one other after after' client client' p q e. (one_header one other after after' client client' p q e).1;
}
