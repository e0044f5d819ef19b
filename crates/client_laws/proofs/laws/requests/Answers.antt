use Rattle.std.proofs.Common.{None, refl}
use Rattle.client_laws.proofs.Clients.{announces, keeps, records, sets_up, tears_down}
use Rattle.client_laws.proofs.laws.requests.Goals as goal

pub returns : goal.returns
returns c = record {
  announce = λ publication asking request made is. announces publication asking request made None is refl;
  set_up = λ publication asking request track session made few is. sets_up publication asking request made track session few is;
  record_frames = λ publication asking request session made is. records publication asking request made session is;
  keep_alive = λ publication asking request session made is. keeps publication asking request made session is;
  tear_down = λ publication asking request session made is. tears_down publication asking request made session is;
}
